-- How a report of a verdict ends.
use Rattle.edf_verdict.specs.declared.outcome.Outcome.{Outcome}
use Rattle.edf_verdict.specs.declared.outcome.Outcome.TheVariants as outcomes
use Rattle.edf_verdict.specs.declared.verdict.Verdict.{Verdict}
use Rattle.edf_verdict.specs.declared.verdict.Verdict.TheVariants.{Yes, No}

-- Yes for a Yes, No for every difference
abbrev pub outcome_of : Verdict → Outcome
outcome_of (Yes channels samples annotations) = outcomes.Yes
outcome_of (No difference) = outcomes.No
