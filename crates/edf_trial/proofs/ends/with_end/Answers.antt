use Rattle.std.proofs.Common.{rules, subst, IfSome}
use Rattle.edf_claim.specs.Claims.{SaysClaimText}
use Rattle.edf_trial.proofs.ChangeFacts.{said_extended}
use Rattle.edf_trial.proofs.ends.with_end.Goals as goal

pub returns-then-branch : goal.returns-then-branch
returns-then-branch c =
    let says = subst (λ f. IfSome f (SaysClaimText c.args.claim_text.now)) c.in-Some-Some.is-0 c.in_ok-claim.ensures in
    let longer = c.in_ok-says_kept.ensures c.if-branch.true in
    said_extended _ _ _ _ _ _ _ says longer (search rules) c.in-Some-Some.ensures (search rules)
