use Rattle.std.proofs.Common.{◌≡◌, length, subst, ap, sym, ◌∙◌, IsTrue, List, ℕ, None, Some}
use Rattle.edf_fields.specs.in_out.Sources.{Fails}
use Rattle.edf_stream.specs.contracts.records.reader.FileReader.{the_view}
use Rattle.edf_stream.specs.records.Records.{record_at}
use Rattle.edf_stream.specs.Faults.{body_fault}
use Rattle.edf_stream.specs.Conforming.{Conforms}
use Rattle.edf_stream.specs.records.Readers.{Reader, HasPassed, StandsAt, StandsIn}
use Rattle.edf_stream.specs.records.Steps.{GoesOn, followed}
use Rattle.edf_stream.specs.declared.times.start.Progress.{Progress}
use Rattle.edf_stream.proofs.records.RecordFacts.{written_over}
use Rattle.edf_stream.proofs.records.StopFacts.{stops-weaker}
use Rattle.edf_stream.proofs.records.reader.FileReader.next_with.Goals as goal

pub returns-in-Ok-true-clause-comes : goal.returns-in-Ok-true-clause-comes
returns-in-Ok-true-clause-comes g c = λ going honest file stands.
    let old = c.self.inside in
    let viewed : StandsIn (the_view old) (g.S.Source.left c.args.source.now) file = subst (λ r. StandsIn r (g.S.Source.left c.args.source.now) file) (sym c.self.view_is) stands in
    let found = subst (λ more. GoesOn file old.header old.read old.progress (followed more c.advance.new.progress) (g.S.Source.left c.advance.new.source) c.advance.new.buffer) c.in-Ok-true.field-0-test (c.in-Ok-true.ensures.goes_on honest file viewed.passed viewed.stands) in
    let full : length c.advance.new.buffer ≡ old.buffer.len = c.in-Ok-true.ensures.full ∙ c.deref_mut.ensures.len in (
      record { passed = found.0; stands = found.1 },
      written_over old.buffer.len c.advance.new.buffer old.buffer.items full ∙ found.2 ∙ ap (λ (r : Reader). record_at file r.head r.read) c.self.view_is,
    )

pub returns-in-Ok-false-clause-comes : goal.returns-in-Ok-false-clause-comes
returns-in-Ok-false-clause-comes g c = λ going honest file stands.
    let old = c.self.inside in
    let viewed : StandsIn (the_view old) (g.S.Source.left c.args.source.now) file = subst (λ r. StandsIn r (g.S.Source.left c.args.source.now) file) (sym c.self.view_is) stands in
    let found = subst (λ more. GoesOn file old.header old.read old.progress (followed more c.advance.new.progress) (g.S.Source.left c.advance.new.source) c.advance.new.buffer) c.in-Ok-false.field-0-test (c.in-Ok-false.ensures.goes_on honest file viewed.passed viewed.stands) in
    let over = subst (λ (r : Reader). (r.read ≡ (r.head).records) × (body_fault file r.head ≡ None) × Conforms file r.head) c.self.view_is (found.1, found.2, found.3) in
    let still : c.advance.new.progress ≡ old.progress = c.in-Ok-false.ensures.stays c.in-Ok-false.field-0-test in
    let stands = subst (λ (p : Progress). StandsAt file old.header old.read p.ended_ps p.notes (g.S.Source.left c.advance.new.source)) (sym still) found.0 in
    (record { passed = viewed.passed; stands = stands }, found.1 ∙ ap (λ (r : Reader). (r.head).records) c.self.view_is, over.1, over.2, found.4, over.0)

pub returns-in-Err-clause-stop : goal.returns-in-Err-clause-stop
returns-in-Err-clause-stop g c = λ going.
    let old = c.self.inside in
    let left = g.S.Source.left c.args.source.now in
    let honest = IsTrue (g.S.Source.is_honest c.args.source.now) in
    let same = g.S.Source.reads c.advance.new.source ≡ g.S.Source.reads c.args.source.now in
    stops-weaker
    (λ f. same × (honest → (file : List ℕ) → HasPassed file old.header old.read → StandsAt file old.header old.read old.progress.ended_ps old.progress.notes left → body_fault file old.header ≡ Some f))
    (λ f. same × (honest → (file : List ℕ) → StandsIn c.args.self.now left file → body_fault file (c.args.self.now).head ≡ Some f))
    (Fails (g.S.Source.reads c.args.source.now) (g.S.Source.reads c.advance.new.source)) c.in-Err.stop
    (λ f q. (
      q.0,
      λ honest file stands.
          let viewed : StandsIn (the_view old) left file = subst (λ r. StandsIn r left file) (sym c.self.view_is) stands in
          ap (λ (r : Reader). body_fault file r.head) (sym c.self.view_is) ∙ q.1 honest file viewed.passed viewed.stands,
    )) c.in-Err.ensures.stop
