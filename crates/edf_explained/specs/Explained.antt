-- What stands behind a check that explains itself.
use Rattle.std.specs.Prelude.{ℕ, List}
use Rattle.edf_check.specs.Runs.{IsPartsReport, IsReport}
use Rattle.edf_explained.specs.Appending.{Appended}
use Rattle.edf_verdict.specs.declared.outcome.Outcome.{Outcome}

-- behind what was held stands the line of the verdict, with its outcome, as a run without sentences writes it; and some text behind it
pub record IsExplained (original export text old new : List ℕ) (outcome : Outcome) : Type 0 where
  pub held : List ℕ
  pub line : IsReport original export text old held outcome
  pub sentences : Appended held new

-- the same of several exports
pub record ArePartsExplained (original : List ℕ) (parts : List (List ℕ)) (text old new : List ℕ) (outcome : Outcome) : Type 0 where
  pub held : List ℕ
  pub line : IsPartsReport original parts text old held outcome
  pub sentences : Appended held new
