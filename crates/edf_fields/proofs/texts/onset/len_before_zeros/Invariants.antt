use Rattle.std.proofs.Common.{length, ◌≡◌, ◌≤◌, take}
use Rattle.edf_fields.specs.texts.OnsetsReading.{without_trailing_zeros}
use Rattle.edf_fields.proofs.texts.onset.len_before_zeros.Given as goal

abbrev pub invariant-loop-end : goal.invariant-loop-end
invariant-loop-end l = record { within : l.end ≤ length l.bytes; same : without_trailing_zeros (take l.end l.bytes) ≡ without_trailing_zeros l.bytes }

abbrev pub decreases-loop-end : goal.decreases-loop-end
decreases-loop-end l = l.end
