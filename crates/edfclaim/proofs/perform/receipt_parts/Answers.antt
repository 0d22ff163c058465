use Rattle.std.proofs.Common.{length}
use Rattle.std.proofs.lemmas.Result.{err_from_is_err_and}
use Rattle.edfclaim.proofs.RefusalFacts.{parts_refused}
use Rattle.edfclaim.proofs.perform.receipt_parts.Goals as goal

pub returns-in_err-receipt_parts_to-clause-stop : goal.returns-in_err-receipt_parts_to-clause-stop
returns-in_err-receipt_parts_to-clause-stop g c =
    let p = err_from_is_err_and c.from_residual-in_err-receipt_parts_to.result c.from_residual-in_err-receipt_parts_to.ensures.1 in
    rw (p.1, p.2) (parts_refused (length c.args.exports.now) c.in_err-receipt_parts_to.field-0.0)
