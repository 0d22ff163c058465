use Rattle.std.proofs.Common.{◌≡◌, ℕ, List, Some, IsTrue, subst, ◌∙◌}
use Rattle.edf_fields.specs.in_out.Sources.{Fails}
use Rattle.edf_header.specs.Faults.{header_fault}
use Rattle.edf_header.specs.Heads.{Head}
use Rattle.edf_header.specs.Stops.{Stops}
use Rattle.edf_stream.specs.Faults.{body_fault, file_fault}
use Rattle.edf_stream.specs.Conforming.{Conforms}
use Rattle.edf_stream.specs.Meanings.{Means}
use Rattle.edf_stream.specs.records.Readers.{StandsIn}
use Rattle.edf_stream.proofs.FileFacts.{header_first, file_is}
use Rattle.edf_stream.proofs.records.StopFacts.{stops-first, stops-behind, handed-on}
use Rattle.edf_stream.proofs.whole.meaning.whole_file.Goals as goal

pub returns-in_err-reader-clause-stop : goal.returns-in_err-reader-clause-stop
returns-in_err-reader-clause-stop g c =
    let file = g.S.Source.left c.args.source.now in
    let honest = IsTrue (g.S.Source.is_honest c.args.source.now) in
    let rises = Fails (g.S.Source.reads c.args.source.now) (g.S.Source.reads c.begin.new.source) in
    let same = g.S.Source.reads c.begin.new.source ≡ g.S.Source.reads c.args.source.now in
    let stop = c.in_err-reader.field-0.0 in
    handed-on c.from_residual.result stop (Stops (λ f. honest → file_fault file ≡ Some f) rises same) c.from_residual.ensures.1
    (stops-first (λ f. honest → header_fault file ≡ Some f) (λ f. honest → file_fault file ≡ Some f) rises same stop (λ f q h. header_first file f (q h)) c.in_err-reader.ensures.stop)

pub returns-in_err-header-clause-stop : goal.returns-in_err-header-clause-stop
returns-in_err-header-clause-stop g c =
    let file = g.S.Source.left c.args.source.now in
    let begun = c.in_ok-reader.ensures in
    let reader = c.in_ok-reader.reader in
    let honest = IsTrue (g.S.Source.is_honest c.args.source.now) in
    let ended = g.S.Source.reads c.into_meaning.new.source in
    let rises = Fails (g.S.Source.reads c.args.source.now) ended in
    let same = ended ≡ g.S.Source.reads c.args.source.now in
    let stop = c.in_err-header.field-0.0 in
    handed-on c.from_residual-in_err-header.result stop (Stops (λ f. honest → file_fault file ≡ Some f) rises same) c.from_residual-in_err-header.ensures.1
    (stops-behind
    (λ f. IsTrue (g.S.Source.is_honest c.begin.new.source) → (b : List ℕ) → StandsIn reader (g.S.Source.left c.begin.new.source) b → body_fault b reader.head ≡ Some f)
    (λ f. honest → file_fault file ≡ Some f)
    (Fails (g.S.Source.reads c.begin.new.source) ended) rises (ended ≡ g.S.Source.reads c.begin.new.source) same stop
    (λ f q h. let stands = begun.stands h in file_is file reader.head reader.read stands.passed ∙ q (begun.honesty h) file stands)
    (subst (λ n. Fails n ended) begun.failures) (λ e. e ∙ begun.failures) c.in_err-header.ensures.stop)

pub returns-clause-meaning : goal.returns-clause-meaning
returns-clause-meaning g c = λ h.
    let file = g.S.Source.left c.args.source.now in
    let begun = c.in_ok-reader.ensures in
    let reader = c.in_ok-reader.reader in
    let stands = begun.stands h in
    let is = stands.passed.head in
    let found = c.in_ok-header.ensures.meaning (begun.honesty h) file stands in
    record {
      conforms = subst (Conforms file) is found.conforms;
      faultless = file_is file reader.head reader.read stands.passed ∙ found.faultless;
      means = subst (λ (x : Head). Means file x c.in_ok-header.meaning) is found.means;
      out = found.out;
    }

pub returns-clause-head : goal.returns-clause-head
returns-clause-head g c = λ h. c.in_ok-header.ensures.head ∙ (c.in_ok-reader.ensures.stands h).passed.head
