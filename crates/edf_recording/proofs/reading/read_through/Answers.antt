use Rattle.std.proofs.Common.{arith, ◌≡◌, List, ℕ, IsTrue, Some, Ok, subst, sym, ap, ◌∙◌}
use Rattle.edf_fields.specs.in_out.Sources.{Fails}
use Rattle.edf_header.specs.Faults.{header_fault}
use Rattle.edf_stream.specs.Conforming.{Conforms}
use Rattle.edf_stream.specs.Faults.{body_fault, file_fault}
use Rattle.edf_stream.specs.records.Readers.{IsOpen, status_after, StandsIn, Comes}
use Rattle.edf_stream.proofs.ForCallers.{fault_is_of_body, header_first}
use Rattle.edf_recording.proofs.BeginFacts.{begins_there, ends_there, first_known}
use Rattle.edf_recording.proofs.StopFacts.{at_header, at_record}
use Rattle.edf_recording.proofs.reading.read_through.Goals as goal

pub returns-in-Err-clause-stop : goal.returns-in-Err-clause-stop
returns-in-Err-clause-stop g c =
    let file = g.S.Source.left c.args.source.now in
    let honest = IsTrue (g.S.Source.is_honest c.args.source.now) in
    at_header (λ f. honest → header_fault file ≡ Some f) (λ f. honest → file_fault file ≡ Some f)
    (Fails (g.S.Source.reads c.args.source.now) (g.S.Source.reads c.begin.new.source)) (g.S.Source.reads c.begin.new.source ≡ g.S.Source.reads c.args.source.now)
    c.in-Err.stop (λ f q h. header_first file f (q h)) c.in-Err.ensures.stop

pub loop-reader-preserved : goal.loop-reader-preserved
loop-reader-preserved g c =
    let before = c.loop-reader.invariant in
    let next = c.in-Ok-true.ensures in
    let count = next.count c.in-Ok-true.field-0-test in
    let file = g.S.Source.left c.args.source.now in
    record {
      going = subst IsOpen (sym (next.status ∙ ap (λ more. status_after (Ok more)) c.in-Ok-true.field-0-test)) tt;
      counted = omega (arith, before.counted, count.0);
      reads = next.failures ∙ before.reads;
      honesty = λ h. next.honesty (before.honesty h);
      stands = λ h. (subst (λ more. Comes more c.loop-reader.reader c.next.new.self (g.S.Source.left c.next.new.source) file) c.in-Ok-true.field-0-test
          (next.comes before.going (before.honesty h) file (before.stands h))).0;
      unseen = tt;
      seen = first_known (IsTrue (g.S.Source.is_honest c.args.source.now)) file (c.loop-reader.reader).head (c.next.new.self).head (c.loop-reader.reader).read (c.next.new.self).current
          c.loop-reader.begin c.first_start.result.ps next.head
          (λ h. (subst (λ more. Comes more c.loop-reader.reader c.next.new.self (g.S.Source.left c.next.new.source) file) c.in-Ok-true.field-0-test
          (next.comes before.going (before.honesty h) file (before.stands h))).1)
          before.unseen before.seen c.first_start.ensures.seen c.first_start.ensures.first;
    }

pub returns-in-Err-next-clause-stop : goal.returns-in-Err-next-clause-stop
returns-in-Err-next-clause-stop g c =
    let before = c.loop-reader.invariant in
    let file = g.S.Source.left c.args.source.now in
    let honest = IsTrue (g.S.Source.is_honest c.args.source.now) in
    let same = g.S.Source.reads c.next.new.source ≡ g.S.Source.reads c.args.source.now in
    at_record
    (λ f. (g.S.Source.reads c.next.new.source ≡ g.S.Source.reads c.loop-reader.source) × (IsTrue (g.S.Source.is_honest c.loop-reader.source) → (b : List ℕ)
    → StandsIn c.loop-reader.reader (g.S.Source.left c.loop-reader.source) b → body_fault b ((c.loop-reader.reader).head) ≡ Some f))
    (λ f. honest → file_fault file ≡ Some f)
    (Fails (g.S.Source.reads c.loop-reader.source) (g.S.Source.reads c.next.new.source)) (Fails (g.S.Source.reads c.args.source.now) (g.S.Source.reads c.next.new.source)) same
    c.in-Err-next.stop
    (λ f q. (
      (λ h. let stands = before.stands h in
          fault_is_of_body file (c.loop-reader.reader).head stands.passed.head stands.passed.header ∙ q.1 (before.honesty h) file stands),
      q.0 ∙ before.reads,
    )) (subst (λ n. Fails n (g.S.Source.reads c.next.new.source)) before.reads) (c.in-Err-next.ensures.stop before.going)

pub returns-in-Ok-false-clause-conforms : goal.returns-in-Ok-false-clause-conforms
returns-in-Ok-false-clause-conforms g c = λ h.
    let before = c.loop-reader.invariant in
    let file = g.S.Source.left c.args.source.now in
    let end = subst (λ more. Comes more c.loop-reader.reader c.next.new.self (g.S.Source.left c.next.new.source) file) c.in-Ok-false.field-0-test
    (c.in-Ok-false.ensures.comes before.going (before.honesty h) file (before.stands h)) in
    subst (Conforms file) (sym c.in-Ok-false.ensures.head) end.3

pub returns-in-Ok-false-clause-begins : goal.returns-in-Ok-false-clause-begins
returns-in-Ok-false-clause-begins g c =
    let before = c.loop-reader.invariant in
    let file = g.S.Source.left c.args.source.now in
    begins_there (IsTrue (g.S.Source.is_honest c.args.source.now)) file (c.loop-reader.reader).head (c.next.new.self).head (c.loop-reader.reader).read c.loop-reader.begin
    c.times_of.result.begin_ps c.in-Ok-false.ensures.head
    (λ h. let end = subst (λ more. Comes more c.loop-reader.reader c.next.new.self (g.S.Source.left c.next.new.source) file) c.in-Ok-false.field-0-test
    (c.in-Ok-false.ensures.comes before.going (before.honesty h) file (before.stands h)) in
    (end.3, end.5)) before.unseen before.seen c.times_of.ensures.begins

pub returns-in-Ok-false-clause-ends : goal.returns-in-Ok-false-clause-ends
returns-in-Ok-false-clause-ends g c = λ h.
    let before = c.loop-reader.invariant in
    let file = g.S.Source.left c.args.source.now in
    let end = subst (λ more. Comes more c.loop-reader.reader c.next.new.self (g.S.Source.left c.next.new.source) file) c.in-Ok-false.field-0-test
    (c.in-Ok-false.ensures.comes before.going (before.honesty h) file (before.stands h)) in
    ends_there file (c.next.new.self).head (c.next.new.self).read (c.next.new.self).ended c.times_of.result.end_ps
    (end.1 ∙ ap (λ x. x.records) (sym c.in-Ok-false.ensures.head)) end.0.stands.end_is c.times_of.ensures.ends
