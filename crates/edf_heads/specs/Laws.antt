-- What the laws of this crate state.
use Rattle.std.specs.Prelude.{◌≡◌, ◌↔◌, List, []}
use Rattle.edf_header.specs.Heads.{Head}
use Rattle.edf_header.specs.Sound.{IsSound}
use Rattle.edf_claim.specs.Claims.{IsClaim}
use Rattle.edf_claim.specs.ClaimValues.{ClaimValue}
use Rattle.edf_heads.specs.HeadVerdicts.{AreAllBroken, HeadsAgree, IsBroken, IsHeadVerdict}
use Rattle.edf_verdict.specs.declared.verdict.Difference.{Difference}
use Rattle.edf_verdict.specs.declared.verdict.Verdict.TheVariants.{No}

-- the rule that a verdict on two headers names is broken
abbrev pub FirstIsBroken : Type 0
FirstIsBroken = (original export : Head) (claim : ClaimValue) (rule : Difference) → IsHeadVerdict original export claim (No rule) → IsBroken original export claim rule

-- no rule is broken exactly where the headers agree
abbrev pub NothingIsBrokenWhereHeadsAgree : Type 0
NothingIsBrokenWhereHeadsAgree = (original export : Head) (claim : ClaimValue) (found : List Difference) → IsSound original → IsSound export → IsClaim claim
    → AreAllBroken original export claim found → (found ≡ []) ↔ HeadsAgree original export claim
