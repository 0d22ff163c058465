-- What a check of several exports answers, and what is known of exports that are opened.
use Rattle.std.specs.Prelude.{◌≡◌, ℕ, List, Bool, IsTrue, length, map}
use Rattle.std.specs.List.{AllByRecursion}
use Rattle.edf_check.specs.Runs.{IsPartsVerdictUnder}
use Rattle.edf_fields.specs.declared.in_out.source.Source.{Ghosts}
use Rattle.edf_trial.specs.declared.parts_anew.PartsAnswer.{PartsAnswer}

-- this is the verdict on an original and its exports under the claim that a text says, and so many they are
abbrev pub IsPartsAnswer : List ℕ → List (List ℕ) → List ℕ → PartsAnswer → Type 0
IsPartsAnswer original exports text answer = IsPartsVerdictUnder original exports text answer.verdict × (answer.parts ≡ length exports)

-- where it is to be relied on, all of these sources are honest
abbrev pub AreHonestIf : {S : Type 0} → Bool → Ghosts S → List S → Type 0
AreHonestIf honest source sources = IsTrue honest → AllByRecursion IsTrue (map source.is_honest sources)

-- and these are the bytes that each has left
abbrev pub AreLeftIf : {S : Type 0} → Bool → Ghosts S → List S → List (List ℕ) → Type 0
AreLeftIf honest source sources files = IsTrue honest → map source.left sources ≡ files
