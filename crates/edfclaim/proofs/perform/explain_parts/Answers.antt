use Rattle.std.proofs.Common.{length}
use Rattle.std.proofs.lemmas.Result.{err_from_is_err_and}
use Rattle.edfclaim.proofs.RefusalFacts.{parts_refused}
use Rattle.edfclaim.proofs.perform.explain_parts.Goals as goal

pub returns-in_err-run_explained_parts-clause-stop : goal.returns-in_err-run_explained_parts-clause-stop
returns-in_err-run_explained_parts-clause-stop g c =
    let p = err_from_is_err_and c.from_residual-in_err-run_explained_parts.result c.from_residual-in_err-run_explained_parts.ensures.1 in
    rw (p.1, p.2) (parts_refused (length c.args.exports.now) c.in_err-run_explained_parts.field-0.0)
