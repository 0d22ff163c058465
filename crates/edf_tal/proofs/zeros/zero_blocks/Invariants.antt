use Rattle.std.proofs.Common.{◌+◌, ◌-◌, ◌≤◌, length}
use Rattle.edf_tal.specs.Zeros.{HasZerosBefore}
use Rattle.edf_tal.proofs.zeros.zero_blocks.Given as goal

abbrev pub invariant-loop-place : goal.invariant-loop-place
invariant-loop-place l = record { within : l.place ≤ length l.bytes; zeros : HasZerosBefore l.place l.bytes }

abbrev pub decreases-loop-place : goal.decreases-loop-place
decreases-loop-place l = length l.bytes + 1 - l.place
