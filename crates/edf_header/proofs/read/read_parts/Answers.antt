use Rattle.std.proofs.Common.{◌≡◌, ◌∙◌, ◌*◌, refl, sym, take, drop, Some, IsTrue}
use Rattle.std.proofs.lemmas.Result.{err_from_is_err_and}
use Rattle.edf_fields.specs.in_out.Sources.{Fails}
use Rattle.edf_fields.specs.Tests.{first}
use Rattle.edf_header.specs.Faults.{columns_tests, header_fault}
use Rattle.edf_header.proofs.FirstFacts.{stops-weaker}
use Rattle.edf_header.proofs.ReadFacts.{columns-left}
use Rattle.edf_header.proofs.read.read_parts.Goals as goal

pub returns-in_err-body-clause-stop : goal.returns-in_err-body-clause-stop
returns-in_err-body-clause-stop g c =
    let p = err_from_is_err_and c.from_residual-in_err-body.result c.from_residual-in_err-body.ensures.1 in
    let reads = g.S.Source.reads in
    let honest = g.S.Source.is_honest in
    let left = g.S.Source.left in
    let b = left c.args.source.now in
    let fixed = c.in_ok-fixed.fixed in
    let n = (fixed.said).extent.signals in
    let old = c.read_fixed.new.source in
    let new = c.read_body.new.source in
    let said = c.in_ok-fixed.ensures.said in
    rw (p.1, p.2) (stops-weaker (λ f. IsTrue (honest old) → first (columns_tests n (take (256 * n) (left old))) ≡ Some f)
    (λ f. IsTrue (honest c.args.source.now) → header_fault b ≡ Some f)
    (Fails (reads old) (reads new)) (Fails (reads c.args.source.now) (reads new))
    (reads new ≡ reads old) (reads new ≡ reads c.args.source.now)
    (λ f q h.
    let found = rw (c.in_ok-fixed.ensures.behind h) at q (c.in_ok-fixed.ensures.honesty h) in
    columns-left b fixed.bytes.items (take (256 * n) (drop 256 b)) n (c.in_ok-fixed.ensures.front h) (said.extends).signals refl said.passed ∙ found)
    (λ q. rw (sym c.in_ok-fixed.ensures.failures) q) (λ q. q ∙ c.in_ok-fixed.ensures.failures) _ c.in_err-body.ensures.stop)
