use Rattle.std.proofs.Common.{rules, subst, IfSome}
use Rattle.edf_claim.specs.Claims.{SaysClaimText}
use Rattle.edf_trial.proofs.ChangeFacts.{said_shifted}
use Rattle.edf_trial.proofs.shifted.with_shift.Goals as goal

pub returns-then-branch : goal.returns-then-branch
returns-then-branch c =
    let says = subst (λ f. IfSome f (SaysClaimText c.args.claim_text.now)) c.in-Some.is c.in_ok-claim.ensures in
    said_shifted _ _ _ _ _ _ says (c.in_ok-says_shift.ensures c.if-branch.true) (search rules) (search rules)
