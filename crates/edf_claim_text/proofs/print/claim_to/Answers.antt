use Rattle.std.proofs.lemmas.Result.{err_from_is_err_and}
use Rattle.edf_claim_text.proofs.StopFacts.{refused_stops}
use Rattle.edf_claim_text.proofs.print.claim_to.Goals as goal

pub returns-in_err-claim-clause-stop : goal.returns-in_err-claim-clause-stop
returns-in_err-claim-clause-stop g c =
    let p = err_from_is_err_and c.from_residual.result c.from_residual.ensures.1 in
    rw (p.1, p.2) (refused_stops c.args.claim_text.now _ c.in_err-claim.field-0.0 c.in_err-claim.ensures.fault)
