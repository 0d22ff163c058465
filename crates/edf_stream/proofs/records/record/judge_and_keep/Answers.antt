use Rattle.std.proofs.Common.{length, refl}
use Rattle.edf_stream.specs.records.Records.{annotation_lanes}
use Rattle.edf_stream.specs.annotation.NotesReading.{notes_of_lanes}
use Rattle.edf_stream.specs.times.StartsReading.{said_start}
use Rattle.edf_stream.proofs.annotation.NoteFacts.{too_many}
use Rattle.edf_stream.proofs.records.record.judge_and_keep.Goals as goal

pub returns-in-Err-clause-judged : goal.returns-in-Err-clause-judged
returns-in-Err-clause-judged g c =
    let h = c.args.header.now in
    let bytes = c.args.bytes.now in
    let texts = length (notes_of_lanes (annotation_lanes h.signals bytes)) in
    let timed = c.in_ok-timed.ensures.judged in
    too_many h c.kind.result c.args.k c.args.before.ended_ps c.in_ok-timed.timed.start.ps (said_start h bytes) c.args.before.notes bytes c.in-Err.fault
    c.kind.ensures timed.0 refl timed.1 timed.2 c.in_ok-judge_start.ensures.judged (c.in-Err.ensures.judged texts timed.3)
