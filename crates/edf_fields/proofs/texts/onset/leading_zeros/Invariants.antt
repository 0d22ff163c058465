use Rattle.std.proofs.Common.{length, ◌-◌, ◌≡◌, ◌≤◌, drop}
use Rattle.edf_fields.specs.texts.OnsetsReading.{without_leading_zeros}
use Rattle.edf_fields.proofs.texts.onset.leading_zeros.Given as goal

abbrev pub invariant-loop-start : goal.invariant-loop-start
invariant-loop-start l = record { within : l.start ≤ length l.bytes; same : without_leading_zeros (drop l.start l.bytes) ≡ without_leading_zeros l.bytes }

abbrev pub decreases-loop-start : goal.decreases-loop-start
decreases-loop-start l = length l.bytes - l.start
