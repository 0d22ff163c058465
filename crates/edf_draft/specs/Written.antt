-- What a sink holds behind the draft of a claim.
use Rattle.std.specs.Prelude.{◌≡◌, ℕ, List, ◌++◌}
use Rattle.edf_fields.specs.in_out.Sinks.{HoldsPrefix}
use Rattle.edf_verdict.specs.declared.outcome.Outcome.{Outcome}
use Rattle.edf_draft.specs.Answers.{IsAnswer}
use Rattle.edf_draft.specs.FirstLines.{Anew, IsTrueOfYes}

-- behind what was held stands what is written of two files, and nothing else
pub record IsDraftWritten (again : Anew) (original export old new : List ℕ) (outcome : Outcome) : Type 0 where
  pub text : List ℕ
  pub answers : IsAnswer again original export text outcome
  pub behind : new ≡ old ++ text

-- behind what was held stands a front of it
pub record IsPartWritten (again : Anew) (original export old new : List ℕ) : Type 0 where
  pub text : List ℕ
  pub outcome : Outcome
  pub answers : IsAnswer again original export text outcome
  pub part : HoldsPrefix old new text

-- behind what was held stands a text whose first line is true where it says Yes, and nothing else
pub record IsTrulyWritten (again : Anew) (old new : List ℕ) : Type 0 where
  pub text : List ℕ
  pub first : IsTrueOfYes again text
  pub behind : new ≡ old ++ text
