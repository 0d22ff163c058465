-- Statements that need no code.
use Rattle.std.specs.Prelude.{◌≡◌, ◌↔◌, ◌<◌, ℕ, true, List, [], length, map}
use Rattle.std.specs.List.{list_all}
use Rattle.edf_check.specs.Laws.{IsYes}
use Rattle.edf_check.specs.parts.Counted.{IsLookedOn, looked_on}
use Rattle.edf_check.specs.parts.Parts.{AllConform, FollowOneAnother}
use Rattle.edf_check.specs.parts.PartsVerdicts.{IsPartsVerdict}
use Rattle.edf_claim.specs.ClaimValues.{ClaimValue}
use Rattle.edf_claim.specs.Claims.{IsClaim}
use Rattle.edf_fields.specs.Lists.{Has}
use Rattle.edf_heads.specs.HeadVerdicts.{IsBroken}
use Rattle.edf_pace.specs.Annotations.{SameNotes}
use Rattle.edf_stream.specs.Views.{note_value}
use Rattle.edf_verdict.specs.declared.verdict.Difference.{Difference}
use Rattle.edf_verdict.specs.declared.parts_verdict.PartsVerdict.{PartsVerdict}
use Rattle.edf_findings.specs.Exports.{channels_of, is_clean}
use Rattle.edf_findings.specs.Found.{AreFoundBy, counted_by, shown_by}
use Rattle.edf_findings.specs.declared.findings.Findings.{Findings}
use Rattle.edf_findings.specs.declared.looker.Looker.{Looker}
use Rattle.edf_findings.specs.declared.part.PartFindings.{PartFindings}

-- nothing was found: no rule of the two headers is broken in any export, of each all channels that both files have are as claimed, and no
-- annotation is among the kept ones or in the exports alone
pub record HasNoFinding (claim : ClaimValue) (found : Findings) : Type 0 where
  pub heads : (part : PartFindings) (rule : Difference) → Has found.parts.items part → IsBroken found.original part.header claim rule → ⊥
  pub samples : (part : PartFindings) → Has found.parts.items part → list_all is_clean (channels_of part) ≡ true
  pub notes : SameNotes (map note_value found.notes.kept.items) (map note_value found.notes.exported.items)

-- the findings are those of somebody who looked on while these files were checked under a claim
pub record AreFoundFrom (original : List ℕ) (parts : List (List ℕ)) (claim : ClaimValue) (found : Findings) : Type 0 where
  pub looker : Looker
  pub seen : IsLookedOn original parts claim (looked_on [] (counted_by looker) (shown_by looker))
  pub are : AreFoundBy claim looker found

-- of files that conform, and exports that follow one another, nothing is found exactly where the verdict is a Yes
abbrev pub NoFindingIsYes : Type 0
NoFindingIsYes = (original : List ℕ) (parts : List (List ℕ)) (claim : ClaimValue) (found : Findings) (v : PartsVerdict) → IsClaim claim → 0 < length parts
    → AllConform original parts → FollowOneAnother parts → IsPartsVerdict original parts claim v → AreFoundFrom original parts claim found
    → HasNoFinding claim found ↔ IsYes v.verdict
