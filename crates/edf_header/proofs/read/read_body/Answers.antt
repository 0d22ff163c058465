use Rattle.std.proofs.Common.{◌≡◌, ◌*◌, length, take, Some, IsTrue}
use Rattle.std.proofs.lemmas.Result.{err_from_is_err_and}
use Rattle.edf_fields.specs.in_out.Sources.{Fails}
use Rattle.edf_fields.specs.Tests.{first}
use Rattle.edf_header.specs.Faults.{columns_missing, columns_tests}
use Rattle.edf_fields.specs.fields.LayoutReading.{columns}
use Rattle.edf_header.proofs.FirstFacts.{stops-weaker}
use Rattle.edf_header.proofs.signals.TogetherFacts.{column_found}
use Rattle.edf_header.proofs.read.read_body.Goals as goal

pub returns-in_err-columns-clause-stop : goal.returns-in_err-columns-clause-stop
returns-in_err-columns-clause-stop g c =
    let p = err_from_is_err_and c.from_residual.result c.from_residual.ensures.1 in
    let reads = g.S.Source.reads in
    let honest = IsTrue (g.S.Source.is_honest c.args.source.now) in
    let n = c.args.signals in
    let bytes = take (256 * n) (g.S.Source.left c.args.source.now) in
    let new = c.read_columns.new.source in
    rw (p.1, p.2) (stops-weaker (λ f. honest → first (columns_missing columns n (length bytes)) ≡ Some f) (λ f. honest → first (columns_tests n bytes) ≡ Some f)
    (Fails (reads c.args.source.now) (reads new)) (Fails (reads c.args.source.now) (reads new))
    (reads new ≡ reads c.args.source.now) (reads new ≡ reads c.args.source.now)
    (λ f q h. column_found n bytes f (q h)) (λ q. q) (λ q. q) _ c.in_err-columns.ensures.stop)
