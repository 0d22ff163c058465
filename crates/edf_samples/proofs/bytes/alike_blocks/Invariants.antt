use Rattle.std.proofs.Common.{◌+◌, ◌-◌, ◌≤◌, length}
use Rattle.edf_samples.specs.Stretches.{AreAlikeBefore}
use Rattle.edf_samples.proofs.bytes.alike_blocks.Given as goal

abbrev pub invariant-loop-place : goal.invariant-loop-place
invariant-loop-place l = record { within : l.place ≤ length l.a; alike : AreAlikeBefore l.place l.a l.b }

abbrev pub decreases-loop-place : goal.decreases-loop-place
decreases-loop-place l = length l.a + 1 - l.place
