use Rattle.std.proofs.Common.{rules, ◌≡◌, ◌≢◌, false, true, sym, subst}
use Rattle.edf_claim.specs.Claims.{SaysClaimAtAnyLength}
use Rattle.edf_claim.specs.declared.stop.ClaimStop.TheVariants as stops
use Rattle.edf_claim.proofs.ForCallers.{text_says_one}
use Rattle.edf_claim_text.proofs.same.is_said_by.Goals as goal

pub returns-in-Ok : goal.returns-in-Ok
returns-in-Ok c =
    let text = c.args.text.now in (
      (λ same. subst (SaysClaimAtAnyLength text) (sym (c.are_same.ensures.0 same)) c.in-Ok.ensures.says),
      (λ says. c.are_same.ensures.1 (text_says_one text c.args.claim.now c.in-Ok.other says c.in-Ok.ensures.says)),
    )

pub returns-in-Err : goal.returns-in-Err
returns-in-Err c =
    let other : c.in-Err.field-0 ≢ stops.OutOfMemory = search rules in (
      (λ never. absurd (let no : false ≡ true = never in cc)),
      (λ says. absurd (c.in-Err.ensures.none other c.args.claim.now says)),
    )
