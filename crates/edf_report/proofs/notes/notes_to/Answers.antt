use Rattle.std.proofs.Common.{◌≡◌, ℕ, List, IsTrue, subst, sym}
use Rattle.edf_fields.specs.in_out.Sources.{Fails}
use Rattle.edf_fields.specs.in_out.Sinks.{HoldsPrefix}
use Rattle.edf_verdict.specs.declared.outcome.Outcome.{Outcome}
use Rattle.edf_stream.specs.Faults.{body_fault, file_fault}
use Rattle.edf_stream.specs.records.Readers.{StandsIn}
use Rattle.edf_report.specs.NotesTexts.{body_text, notes_text}
use Rattle.edf_report.specs.Reports.{IsReported, IsStopWritten, stop_line}
use Rattle.edf_report.proofs.NotesFacts.{is_body, file_reported, header_reported, header_part, if-ok, on-err}
use Rattle.edf_report.proofs.notes.notes_to.Goals as goal

pub returns-in-Ok-clause-written : goal.returns-in-Ok-clause-written
returns-in-Ok-clause-written g c =
    let file = g.S.Source.left c.args.source.now in
    let head = c.in-Ok.reader.head in
    let old = g.K.Sink.held c.args.sink.now in
    let new = g.K.Sink.held c.put_records.new.sink in
    if-ok c.put_records.result
    (λ (outcome : Outcome). IsTrue (g.S.Source.is_honest c.begin.new.source) → IsTrue (g.K.Sink.is_honest c.args.sink.now) → (b : List ℕ) → StandsIn c.in-Ok.reader (g.S.Source.left c.begin.new.source) b
    → IsReported (body_text b head) (body_fault b head) old new outcome)
    (λ (outcome : Outcome). IsTrue (g.S.Source.is_honest c.args.source.now) → IsTrue (g.K.Sink.is_honest c.args.sink.now) → IsReported (notes_text file) (file_fault file) old new outcome)
    c.put_records.ensures.written
    (λ outcome said h k.
    let stands = c.in-Ok.ensures.stands h in
    file_reported file head old new outcome stands.passed.head stands.passed.header (said (c.in-Ok.ensures.honesty h) k file stands))

pub returns-in-Ok-clause-part : goal.returns-in-Ok-clause-part
returns-in-Ok-clause-part g c =
    let file = g.S.Source.left c.args.source.now in
    let head = c.in-Ok.reader.head in
    let old = g.K.Sink.held c.args.sink.now in
    let new = g.K.Sink.held c.put_records.new.sink in
    on-err c.put_records.result
    (IsTrue (g.S.Source.is_honest c.begin.new.source) → IsTrue (g.K.Sink.is_honest c.args.sink.now) → (b : List ℕ) → StandsIn c.in-Ok.reader (g.S.Source.left c.begin.new.source) b
    → HoldsPrefix old new (body_text b head))
    (IsTrue (g.S.Source.is_honest c.args.source.now) → IsTrue (g.K.Sink.is_honest c.args.sink.now) → HoldsPrefix old new (notes_text file))
    c.put_records.ensures.part
    (λ said h k.
    let stands = c.in-Ok.ensures.stands h in
    subst (HoldsPrefix old new) (sym (is_body file head stands.passed.head stands.passed.header)) (said (c.in-Ok.ensures.honesty h) k file stands))

pub returns-in-Err-clause-written : goal.returns-in-Err-clause-written
returns-in-Err-clause-written g c =
    let file = g.S.Source.left c.args.source.now in
    let honest = IsTrue (g.S.Source.is_honest c.args.source.now) in
    let old = g.K.Sink.held c.args.sink.now in
    let new = g.K.Sink.held c.put_stop.new.sink in
    if-ok c.put_stop.result
    (λ (outcome : Outcome). IsTrue (g.K.Sink.is_honest c.args.sink.now) → IsStopWritten c.in-Err.stop old new outcome)
    (λ (outcome : Outcome). honest → IsTrue (g.K.Sink.is_honest c.args.sink.now) → IsReported (notes_text file) (file_fault file) old new outcome)
    c.put_stop.ensures.written
    (λ outcome written h k.
    header_reported honest (Fails (g.S.Source.reads c.args.source.now) (g.S.Source.reads c.begin.new.source)) (g.S.Source.reads c.begin.new.source ≡ g.S.Source.reads c.args.source.now)
    file c.in-Err.stop old new outcome c.in-Err.ensures.stop h (written k))

pub returns-in-Err-clause-part : goal.returns-in-Err-clause-part
returns-in-Err-clause-part g c =
    let file = g.S.Source.left c.args.source.now in
    let honest = IsTrue (g.S.Source.is_honest c.args.source.now) in
    let old = g.K.Sink.held c.args.sink.now in
    let new = g.K.Sink.held c.put_stop.new.sink in
    on-err c.put_stop.result
    (IsTrue (g.K.Sink.is_honest c.args.sink.now) → HoldsPrefix old new (stop_line c.in-Err.stop))
    (honest → IsTrue (g.K.Sink.is_honest c.args.sink.now) → HoldsPrefix old new (notes_text file))
    c.put_stop.ensures.part
    (λ part h k.
    header_part honest (Fails (g.S.Source.reads c.args.source.now) (g.S.Source.reads c.begin.new.source)) (g.S.Source.reads c.begin.new.source ≡ g.S.Source.reads c.args.source.now)
    file c.in-Err.stop old new c.in-Err.ensures.stop h (part k))
