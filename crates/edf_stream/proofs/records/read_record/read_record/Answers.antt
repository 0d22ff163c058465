use Rattle.std.proofs.Common.{arith, ◌≡◌, ◌≤◌, ◌<◌, length}
use Rattle.edf_stream.proofs.records.RecordFacts.{cut_short, whole_read, faulty, passes}
use Rattle.edf_stream.proofs.records.read_record.read_record.Goals as goal

pub returns-then-got-buffer-clause-stop : goal.returns-then-got-buffer-clause-stop
returns-then-got-buffer-clause-stop g c =
    let size = length c.args.buffer.now in
    let full : length c.fill.new.buf ≡ size = omega arith in
    let short : c.in-Ok.got < size = omega (arith, c.if-got-buffer.true) in (
      c.in-Ok.ensures.failures,
      λ honest file at. cut_short file c.args.due.header.now c.args.due.k c.args.progress.now.ended_ps c.args.progress.now.notes c.in-Ok.got size (g.S.Source.left c.args.source.now) c.fill.new.buf at
          c.requires.sized full short (c.in-Ok.ensures.front honest),
    )

pub returns-in-Ok-judge_record-clause-found : goal.returns-in-Ok-judge_record-clause-found
returns-in-Ok-judge_record-clause-found g c = λ honest file at.
    let size = length c.args.buffer.now in
    let full : length c.fill.new.buf ≡ size = omega arith in
    let high : size ≤ c.in-Ok.got = omega (arith, c.if-got-buffer.false) in
    let judged = c.in-Ok-judge_record.ensures.judged in
    let left = g.S.Source.left c.args.source.now in
    let rest = g.S.Source.left c.fill.new.source in
    let read = whole_read file c.args.due.header.now c.args.due.k c.args.progress.now.ended_ps c.args.progress.now.notes c.in-Ok.got size left rest c.fill.new.buf at
    c.requires.sized full high c.in-Ok.ensures.within (c.in-Ok.ensures.front honest) (c.in-Ok.ensures.behind honest) in
    passes file c.args.due.header.now c.args.due.k c.args.progress.now.ended_ps c.in-Ok-judge_record.after.ended_ps c.args.progress.now.notes c.in-Ok-judge_record.after.notes left rest c.fill.new.buf at read
    judged.0 judged.1 judged.2

pub returns-in-Err-judge_record-clause-stop : goal.returns-in-Err-judge_record-clause-stop
returns-in-Err-judge_record-clause-stop g c =
    let size = length c.args.buffer.now in
    let full : length c.fill.new.buf ≡ size = omega arith in
    let high : size ≤ c.in-Ok.got = omega (arith, c.if-got-buffer.false) in
    let left = g.S.Source.left c.args.source.now in
    let rest = g.S.Source.left c.fill.new.source in (
      c.in-Ok.ensures.failures,
      λ honest file at.
          let read = whole_read file c.args.due.header.now c.args.due.k c.args.progress.now.ended_ps c.args.progress.now.notes c.in-Ok.got size left rest c.fill.new.buf at
          c.requires.sized full high c.in-Ok.ensures.within (c.in-Ok.ensures.front honest) (c.in-Ok.ensures.behind honest) in
          faulty file c.args.due.header.now c.args.due.k c.args.progress.now.ended_ps c.args.progress.now.notes left rest c.fill.new.buf c.in-Err-judge_record.fault at read c.in-Err-judge_record.ensures.judged,
    )
