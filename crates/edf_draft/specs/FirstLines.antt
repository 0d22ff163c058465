-- What the first line of a draft says of the check with it.
use Rattle.std.specs.Prelude.{◌≡◌, ℕ, Bool, IsTrue, List, ◌++◌, Option, Some, None, codes, length}
use Rattle.edf_check.specs.Runs.{IsPartsVerdictUnder, IsVerdictUnder}
use Rattle.edf_verdict.specs.Lines.{verdict_line}
use Rattle.edf_verdict.specs.PartsLines.{parts_verdict_line}
use Rattle.edf_verdict.specs.declared.verdict.Verdict.{Verdict}
use Rattle.edf_draft.specs.declared.tries.trial.Said.{Said}
use Rattle.edf_verdict.specs.declared.verdict.Verdict.TheVariants.{Yes, No}

-- one export, or several in the order of time: their bytes
pub data Exports : Type 0 where
  single : List ℕ → Exports
  several : List (List ℕ) → Exports

-- the recordings that are opened anew: whether they are honest, and their bytes
pub record Anew : Type 0 where
  pub are_honest : Bool
  pub original : List ℕ
  pub exports : Exports

-- an original and one export
abbrev pub anew : Bool → List ℕ → List ℕ → Anew
anew honest original export = record { are_honest = honest; original = original; exports = single export }

-- an original and several
abbrev pub anew_parts : Bool → List ℕ → List (List ℕ) → Anew
anew_parts honest original exports = record { are_honest = honest; original = original; exports = several exports }

-- this is the verdict on an original and its exports under the claim that a text says, of whichever of several exports it is said
abbrev pub IsVerdictOn : List ℕ → Exports → List ℕ → Verdict → Type 0
IsVerdictOn original (single export) text verdict = IsVerdictUnder original export text verdict
IsVerdictOn original (several exports) text verdict = (part : ℕ) × IsPartsVerdictUnder original exports text (record { part = part; verdict = verdict })

-- on honest recordings this is the verdict under the claim that the text says
abbrev pub IsTried : Anew → List ℕ → Verdict → Type 0
IsTried again text verdict = IsTrue again.are_honest → IsVerdictOn again.original again.exports text verdict

-- the line of a Yes
abbrev pub yes_line : Exports → ℕ → ℕ → ℕ → List ℕ
yes_line (single export) channels samples annotations = verdict_line (Yes channels samples annotations)
yes_line (several exports) channels samples annotations = parts_verdict_line (length exports) (record { part = 0; verdict = Yes channels samples annotations })

-- what stands in front of a Yes
abbrev pub yes_front : List ℕ
yes_front = codes "# With this draft the check answers: "

-- the text begins with the words in front of a Yes
abbrev pub SaysYes : List ℕ → Type 0
SaysYes text = (behind : List ℕ) × (text ≡ yes_front ++ behind)

-- behind these words stands the line of a Yes, and that is the verdict on the files under the claim that the whole text says
pub record IsYesOf (original : List ℕ) (exports : Exports) (text : List ℕ) : Type 0 where
  pub channels : ℕ
  pub samples : ℕ
  pub annotations : ℕ
  pub behind : List ℕ
  pub line : text ≡ yes_front ++ (yes_line exports channels samples annotations ++ behind)
  pub under : IsVerdictOn original exports text (Yes channels samples annotations)

-- whenever the first line of a text says that its check is a Yes, it is, on honest recordings
abbrev pub IsTrueOfYes : Anew → List ℕ → Type 0
IsTrueOfYes again text = IsTrue again.are_honest → SaysYes text → IsYesOf again.original again.exports text

-- the text begins with another word
abbrev pub HasNotInFront : List ℕ → Type 0
HasNotInFront text = (behind : List ℕ) × (text ≡ codes "# NOT " ++ behind)

-- the first line of a draft, by the verdict with it and the line of that: a Yes has it, and all else begins with another word
abbrev pub IsFirstLine : Verdict → List ℕ → List ℕ → Type 0
IsFirstLine (Yes channels samples annotations) said line = line ≡ yes_front ++ said
IsFirstLine (No difference) said line = HasNotInFront line

-- the same where there may be no verdict
abbrev pub IsFirstLineOf : Option Said → List ℕ → Type 0
IsFirstLineOf (Some said) line = IsFirstLine said.verdict said.line.items line
IsFirstLineOf None line = HasNotInFront line

-- the verdict of what was said, where there is one
abbrev pub verdict_said : Option Said → Option Verdict
verdict_said None = None
verdict_said (Some said) = Some said.verdict

-- of a Yes this is the line
abbrev pub IsLineOfYes : Exports → Verdict → List ℕ → Type 0
IsLineOfYes exports (Yes channels samples annotations) line = line ≡ yes_line exports channels samples annotations
IsLineOfYes exports (No difference) line = Unit {0}

-- this was said of the text: the verdict, and the line of that
pub record IsSaid (again : Anew) (text : List ℕ) (said : Said) : Type 0 where
  pub verdict : IsTried again text said.verdict
  pub line : IsTrue again.are_honest → IsLineOfYes again.exports said.verdict said.line.items
