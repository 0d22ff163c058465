use Rattle.std.proofs.Common.{◌<◌, ℕ}
use Rattle.edf_findings.specs.OneWays.{IsPairMoved}
use Rattle.edf_findings.proofs.notes.one_way.moved_by.Given as goal

abbrev pub invariant-loop-place : goal.invariant-loop-place
invariant-loop-place l = (k : ℕ) → k < l.place → IsPairMoved l.notes l.only l.moved k
