use Rattle.std.proofs.lemmas.Result.{err_from_is_err_and}
use Rattle.edfclaim.proofs.RefusalFacts.{claim_refused}
use Rattle.edfclaim.proofs.perform.claim.Goals as goal

pub returns-in_err-claim_to : goal.returns-in_err-claim_to
returns-in_err-claim_to g c =
    let p = err_from_is_err_and c.from_residual-in_err-claim_to.result c.from_residual-in_err-claim_to.ensures.1 in
    rw (p.1, p.2) (record { stop = claim_refused _ _ c.in_err-claim_to.field-0.0 c.in_err-claim_to.ensures.stop })
