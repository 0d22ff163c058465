use Rattle.std.proofs.Common.{arith, ◌≡◌, ◌≤◌, ◌<◌, List, ℕ, length, IsTrue, Some, ◌∙◌, ap, sym}
use Rattle.edf_fields.specs.in_out.Sources.{Fails}
use Rattle.edf_fields.specs.Tests.{first}
use Rattle.edf_fields.specs.declared.faults.fault.Place.TheVariants.{AtEnd}
use Rattle.edf_fields.specs.declared.faults.fault.Cause.TheVariants.{TrailingBytes}
use Rattle.edf_stream.specs.Faults.{records_tests, body_fault}
use Rattle.edf_stream.specs.records.Readers.{HasPassed, StandsAt}
use Rattle.edf_stream.proofs.records.RecordFacts.{fault_at, passed_more, ends, trails}
use Rattle.edf_stream.proofs.ConformFacts.{conforms}
use Rattle.edf_stream.proofs.records.StopFacts.{stops-weaker}
use Rattle.edf_stream.proofs.records.read_record.advance.Goals as goal

pub returns-in-Ok-clause-goes_on : goal.returns-in-Ok-clause-goes_on
returns-in-Ok-clause-goes_on g c = λ honest file passed at.
    let read = c.in-Ok.ensures.found honest file at in
    (passed_more file c.args.due.header.now c.args.due.k passed (let lt : c.args.due.k < (c.args.due.header.now).records = omega (arith, c.if-k-records.true, c.records.ensures) in lt) read.passes, read.stands, read.is)

pub returns-in-Err-clause-stop : goal.returns-in-Err-clause-stop
returns-in-Err-clause-stop g c =
    let h = c.args.due.header.now in
    let left = g.S.Source.left c.args.source.now in
    let honest = IsTrue (g.S.Source.is_honest c.args.source.now) in
    let same = g.S.Source.reads c.read_record.new.source ≡ g.S.Source.reads c.args.source.now in
    let lt : c.args.due.k < h.records = omega (arith, c.if-k-records.true, c.records.ensures) in
    stops-weaker
    (λ f. same × (honest → (file : List ℕ) → StandsAt file h c.args.due.k c.args.progress.now.ended_ps c.args.progress.now.notes left → first (records_tests file h c.args.due.k 1) ≡ Some f))
    (λ f. same × (honest → (file : List ℕ) → HasPassed file h c.args.due.k → StandsAt file h c.args.due.k c.args.progress.now.ended_ps c.args.progress.now.notes left → body_fault file h ≡ Some f))
    (Fails (g.S.Source.reads c.args.source.now) (g.S.Source.reads c.read_record.new.source)) c.in-Err.stop
    (λ f q. (q.0, λ honest file passed at. fault_at file h c.args.due.k f passed lt (q.1 honest file at))) c.in-Err.ensures.stop

pub returns-in-Ok-check_end-clause-goes_on : goal.returns-in-Ok-check_end-clause-goes_on
returns-in-Ok-check_end-clause-goes_on g c = λ honest file passed at.
    let h = c.args.due.header.now in
    let left = g.S.Source.left c.args.source.now in
    let within : c.args.due.k ≤ h.records = passed.within in
    let le : h.records ≤ c.args.due.k = omega (arith, c.if-k-records.false, c.records.ensures) in
    let over = c.in-Ok-check_end.ensures.ended honest in (
      record { end_is = at.end_is; notes_are = at.notes_are; whole = at.whole; rest = over.1 ∙ sym over.0 ∙ at.rest },
      let full : c.args.due.k ≡ h.records = omega (arith, within, le) in full,
      ends file h c.args.due.k c.args.progress.now.ended_ps c.args.progress.now.notes left passed at le over.0,
      conforms file h c.args.due.k c.args.progress.now.ended_ps c.args.progress.now.notes left ((passed.in_order).standard.some_records) passed at le over.0,
      over.1,
    )

pub returns-in-Err-check_end-clause-stop : goal.returns-in-Err-check_end-clause-stop
returns-in-Err-check_end-clause-stop g c =
    let h = c.args.due.header.now in
    let left = g.S.Source.left c.args.source.now in
    let honest = IsTrue (g.S.Source.is_honest c.args.source.now) in
    let same = g.S.Source.reads c.check_end.new.source ≡ g.S.Source.reads c.args.source.now in
    let le : h.records ≤ c.args.due.k = omega (arith, c.if-k-records.false, c.records.ensures) in
    stops-weaker
    (λ f. same × (honest → (0 < length left) × (f ≡ record { place = AtEnd; cause = TrailingBytes })))
    (λ f. same × (honest → (file : List ℕ) → HasPassed file h c.args.due.k → StandsAt file h c.args.due.k c.args.progress.now.ended_ps c.args.progress.now.notes left → body_fault file h ≡ Some f))
    (Fails (g.S.Source.reads c.args.source.now) (g.S.Source.reads c.check_end.new.source)) c.in-Err-check_end.stop
    (λ f q. (q.0, λ honest file passed at. trails file h c.args.due.k c.args.progress.now.ended_ps c.args.progress.now.notes left passed at le (q.1 honest).0 ∙ ap (λ x. Some x) (sym (q.1 honest).1))) c.in-Err-check_end.ensures.stop
