use Rattle.std.proofs.Common.{◌≡◌, ℕ, List, Ok, Some, IsTrue, subst, sym, refl, ap, ◌∙◌}
use Rattle.edf_fields.specs.in_out.Sources.{Fails}
use Rattle.edf_fields.specs.in_out.Sinks.{HoldsPrefix}
use Rattle.edf_header.specs.Heads.{Head}
use Rattle.edf_verdict.specs.declared.outcome.Outcome.{Outcome}
use Rattle.edf_stream.specs.Faults.{body_fault}
use Rattle.edf_stream.specs.annotation.NotesReading.{notes_in}
use Rattle.edf_stream.specs.records.Records.{record_at}
use Rattle.edf_stream.specs.records.Readers.{IsOpen, StandsIn, HasPassed, Comes, StopsAt, place_behind, status_after}
use Rattle.edf_report.specs.NotesTexts.{body_text}
use Rattle.edf_report.specs.Reports.{IsReported, IsStopWritten, stop_line}
use Rattle.edf_report.proofs.NotesFacts.{lines-made, written_more, record_part, ended, stop_reported, stop_part, if-ok, on-err, said-on-err}
use Rattle.edf_report.proofs.notes.put_records.Goals as goal

pub loop-lines-preserved : goal.loop-lines-preserved
loop-lines-preserved g c =
    let before = c.loop-lines.invariant in
    let next = c.in-Ok-true.ensures in
    let put = c.in_ok-put_lines-in-Ok-true.ensures in
    let old = c.loop-lines.reader in
    let new = c.next_with.new.self in
    let more : IsTrue c.in-Ok-true.field-0 = subst IsTrue (sym c.in-Ok-true.field-0-test) refl in
    let made = lines-made c.clear.new.self c.next_with.new.keeper (notes_in new.head new.current) c.clear.ensures.text (next.kept more) in
    let comes = λ (h : IsTrue (g.S.Source.is_honest c.args.source.now)) (file : List ℕ) (stands : StandsIn c.args.reader.now (g.S.Source.left c.args.source.now) file).
    subst (λ more. Comes more old new (g.S.Source.left c.next_with.new.source) file) c.in-Ok-true.field-0-test (next.comes before.going (before.honesty h) file (before.stands h file stands)) in
    record {
      going = subst IsOpen (sym (next.status ∙ ap (λ more. status_after (Ok more)) c.in-Ok-true.field-0-test)) tt;
      head = next.head ∙ before.head;
      read = next.failures ∙ before.read;
      failures = put.failures ∙ before.failures;
      honesty = λ h. next.honesty (before.honesty h);
      honest_sink = λ h. put.honesty (before.honest_sink h);
      stands = λ h file stands. (comes h file stands).0;
      written = λ h k file stands.
          written_more file c.args.reader.now.head new.head old.read new.read (g.K.Sink.held c.args.sink.now) (g.K.Sink.held c.loop-lines.sink) (g.K.Sink.held c.put_lines.new.sink) new.current
          (before.written h k file stands) (put.written (before.honest_sink k) (notes_in new.head new.current) made) (next.head ∙ before.head)
          ((comes h file stands).1 ∙ ap (λ (x : Head). record_at file x old.read) before.head)
          (next.count more).0;
    }

pub returns-in_err-put_lines-in-Ok-true-clause-part : goal.returns-in_err-put_lines-in-Ok-true-clause-part
returns-in_err-put_lines-in-Ok-true-clause-part g c =
    let before = c.loop-lines.invariant in
    let next = c.in-Ok-true.ensures in
    let old = c.loop-lines.reader in
    let new = c.next_with.new.self in
    let more : IsTrue c.in-Ok-true.field-0 = subst IsTrue (sym c.in-Ok-true.field-0-test) refl in
    let made = lines-made c.clear.new.self c.next_with.new.keeper (notes_in new.head new.current) c.clear.ensures.text (next.kept more) in
    said-on-err c.from_residual.result
    (IsTrue (g.S.Source.is_honest c.args.source.now) → IsTrue (g.K.Sink.is_honest c.args.sink.now) → (file : List ℕ) → StandsIn c.args.reader.now (g.S.Source.left c.args.source.now) file
    → HoldsPrefix (g.K.Sink.held c.args.sink.now) (g.K.Sink.held c.put_lines.new.sink) (body_text file c.args.reader.now.head))
    (λ h k file stands.
    let comes = subst (λ more. Comes more old new (g.S.Source.left c.next_with.new.source) file) c.in-Ok-true.field-0-test (next.comes before.going (before.honesty h) file (before.stands h file stands)) in
    record_part file c.args.reader.now.head new.head old.read new.read (g.K.Sink.held c.args.sink.now) (g.K.Sink.held c.loop-lines.sink) (g.K.Sink.held c.put_lines.new.sink) new.current
    (before.written h k file stands) (c.in_err-put_lines-in-Ok-true.ensures.part (before.honest_sink k) (notes_in new.head new.current) made) (next.head ∙ before.head)
    (comes.1 ∙ ap (λ (x : Head). record_at file x old.read) before.head)
    (next.count more).0
    (subst (λ (x : Head). HasPassed file x new.read) (next.head ∙ before.head) (comes.0).passed))

pub returns-in-Ok-false-clause-written : goal.returns-in-Ok-false-clause-written
returns-in-Ok-false-clause-written g c = λ h k file stands.
    let before = c.loop-lines.invariant in
    let old = c.loop-lines.reader in
    let at = before.stands h file stands in
    let comes = subst (λ more. Comes more old c.next_with.new.self (g.S.Source.left c.next_with.new.source) file) c.in-Ok-false.field-0-test (c.in-Ok-false.ensures.comes before.going (before.honesty h) file at) in
    ended file c.args.reader.now.head old.read (g.K.Sink.held c.args.sink.now) (g.K.Sink.held c.loop-lines.sink) (before.written h k file stands)
    (subst (λ (x : Head). HasPassed file x old.read) before.head at.passed) (comes.5 ∙ ap (λ (x : Head). x.records) before.head)
    (ap (body_fault file) (sym before.head) ∙ comes.2)

pub returns-in-Err-clause-written : goal.returns-in-Err-clause-written
returns-in-Err-clause-written g c =
    let before = c.loop-lines.invariant in
    let old = c.loop-lines.reader in
    let first = c.args.reader.now.head in
    if-ok c.put_stop.result
    (λ (outcome : Outcome). IsTrue (g.K.Sink.is_honest c.loop-lines.sink) → IsStopWritten c.in-Err.stop (g.K.Sink.held c.loop-lines.sink) (g.K.Sink.held c.put_stop.new.sink) outcome)
    (λ (outcome : Outcome). IsTrue (g.S.Source.is_honest c.args.source.now) → IsTrue (g.K.Sink.is_honest c.args.sink.now) → (file : List ℕ) → StandsIn c.args.reader.now (g.S.Source.left c.args.source.now) file
    → IsReported (body_text file first) (body_fault file first) (g.K.Sink.held c.args.sink.now) (g.K.Sink.held c.put_stop.new.sink) outcome)
    c.put_stop.ensures.written
    (λ outcome written h k file stands.
    let at = before.stands h file stands in
    stop_reported
    (λ f. (g.S.Source.reads c.next_with.new.source ≡ g.S.Source.reads c.loop-lines.source) × (IsTrue (g.S.Source.is_honest c.loop-lines.source) → (b : List ℕ) → StandsIn old (g.S.Source.left c.loop-lines.source) b → body_fault b old.head ≡ Some f))
    (Fails (g.S.Source.reads c.loop-lines.source) (g.S.Source.reads c.next_with.new.source))
    file first old.read c.in-Err.stop (g.K.Sink.held c.args.sink.now) (g.K.Sink.held c.loop-lines.sink) (g.K.Sink.held c.put_stop.new.sink) outcome
    (c.in-Err.ensures.stop before.going) (λ f q. ap (body_fault file) (sym before.head) ∙ q.1 (before.honesty h) file at)
    (subst (λ (x : Head). StopsAt (place_behind x old.read) c.in-Err.stop) before.head (c.in-Err.ensures.place before.going))
    (subst (λ (x : Head). HasPassed file x old.read) before.head at.passed)
    (before.written h k file stands) (written (before.honest_sink k)))

pub returns-in-Err-clause-part : goal.returns-in-Err-clause-part
returns-in-Err-clause-part g c =
    let before = c.loop-lines.invariant in
    let old = c.loop-lines.reader in
    let first = c.args.reader.now.head in
    on-err c.put_stop.result
    (IsTrue (g.K.Sink.is_honest c.loop-lines.sink) → HoldsPrefix (g.K.Sink.held c.loop-lines.sink) (g.K.Sink.held c.put_stop.new.sink) (stop_line c.in-Err.stop))
    (IsTrue (g.S.Source.is_honest c.args.source.now) → IsTrue (g.K.Sink.is_honest c.args.sink.now) → (file : List ℕ) → StandsIn c.args.reader.now (g.S.Source.left c.args.source.now) file
    → HoldsPrefix (g.K.Sink.held c.args.sink.now) (g.K.Sink.held c.put_stop.new.sink) (body_text file first))
    c.put_stop.ensures.part
    (λ part h k file stands.
    let at = before.stands h file stands in
    stop_part
    (λ f. (g.S.Source.reads c.next_with.new.source ≡ g.S.Source.reads c.loop-lines.source) × (IsTrue (g.S.Source.is_honest c.loop-lines.source) → (b : List ℕ) → StandsIn old (g.S.Source.left c.loop-lines.source) b → body_fault b old.head ≡ Some f))
    (Fails (g.S.Source.reads c.loop-lines.source) (g.S.Source.reads c.next_with.new.source))
    file first old.read c.in-Err.stop (g.K.Sink.held c.args.sink.now) (g.K.Sink.held c.loop-lines.sink) (g.K.Sink.held c.put_stop.new.sink)
    (c.in-Err.ensures.stop before.going) (λ f q. ap (body_fault file) (sym before.head) ∙ q.1 (before.honesty h) file at)
    (subst (λ (x : Head). StopsAt (place_behind x old.read) c.in-Err.stop) before.head (c.in-Err.ensures.place before.going))
    (subst (λ (x : Head). HasPassed file x old.read) before.head at.passed)
    (before.written h k file stands) (part (before.honest_sink k)))
