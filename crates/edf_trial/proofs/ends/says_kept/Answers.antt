use Rattle.std.proofs.Common.{rules, subst, IfSome}
use Rattle.edf_claim.specs.Claims.{SaysClaimText}
use Rattle.edf_trial.proofs.ChangeFacts.{said_kept}
use Rattle.edf_trial.proofs.ends.says_kept.Goals as goal

pub returns-then-branch : goal.returns-then-branch
returns-then-branch c = λ keeps.
    let says = subst (λ f. IfSome f (SaysClaimText c.args.text.now)) c.in-Some.is c.in_ok-other.ensures in
    let longer = c.in_ok-is_extended.ensures c.if-branch.true in
    said_kept _ _ _ _ _ says longer (c.keeps_instant.ensures.keeps.0 keeps) (search rules)
