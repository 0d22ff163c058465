-- Which of two drafts is taken.
use Rattle.std.specs.Prelude.{Bool, true, false, not, Option, Some, None}
use Rattle.edf_trial.specs.Better.{is_better}
use Rattle.edf_verdict.specs.declared.verdict.Verdict.{Verdict}
use Rattle.edf_verdict.specs.declared.verdict.Verdict.TheVariants.{Yes, No}

-- the draft by the samples is taken, by the verdicts with the draft by days and with this one, where there are such: this one is a Yes,
-- or the other isn't better
abbrev pub is_taken : Option Verdict → Option Verdict → Bool
is_taken by_days None = false
is_taken by_days (Some (Yes channels samples annotations)) = true
is_taken None (Some (No difference)) = false
is_taken (Some verdict) (Some (No difference)) = not (is_better verdict (No difference))
