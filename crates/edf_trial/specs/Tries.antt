-- What a try is: the check of recordings that are opened anew, under the claim that a text says, and its line.
use Rattle.std.specs.Prelude.{◌≡◌, ℕ, Bool, IsTrue, List, length}
use Rattle.edf_check.specs.Runs.{IsPartsVerdictUnder, IsVerdictUnder}
use Rattle.edf_verdict.specs.Lines.{verdict_line}
use Rattle.edf_verdict.specs.PartsLines.{parts_verdict_line}
use Rattle.edf_verdict.specs.declared.verdict.Verdict.{Verdict}

-- on an honest original and an honest export this is the verdict under the claim that the text says, and its line
abbrev pub IsAnswer : Bool → List ℕ → List ℕ → List ℕ → Verdict → List ℕ → Type 0
IsAnswer honest original export text verdict line = (line ≡ verdict_line verdict) × (IsTrue honest → IsVerdictUnder original export text verdict)

-- the same of several exports, of whichever of them it is said
abbrev pub IsAnswerOnParts : Bool → List ℕ → List (List ℕ) → List ℕ → Verdict → List ℕ → Type 0
IsAnswerOnParts honest original exports text verdict line = IsTrue honest → (part : ℕ)
    × (line ≡ parts_verdict_line (length exports) (record { part = part; verdict = verdict })) × IsPartsVerdictUnder original exports text (record { part = part; verdict = verdict })
