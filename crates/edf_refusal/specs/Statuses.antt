-- The status with which the program ends.
use Rattle.std.specs.Prelude.{ℕ, Result, Ok, Err}
use Rattle.edf_verdict.specs.declared.outcome.Outcome.{Outcome}
use Rattle.edf_verdict.specs.declared.outcome.Outcome.TheVariants.{Yes, No}
use Rattle.edf_refusal.specs.declared.refusals.Refusal.{Refusal}

-- 0 for Yes, 1 for No, 2 for a refusal
abbrev pub status_of : Result Outcome Refusal → ℕ
status_of (Ok Yes) = 0
status_of (Ok No) = 1
status_of (Err refusal) = 2
