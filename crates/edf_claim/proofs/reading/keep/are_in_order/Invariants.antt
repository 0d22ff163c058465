use Rattle.std.proofs.Common.{◌≡◌, drop}
use Rattle.edf_claim.specs.Reading.{are_in_order}
use Rattle.edf_claim.proofs.reading.keep.are_in_order.Given as goal

abbrev pub invariant-loop-i : goal.invariant-loop-i
invariant-loop-i l = are_in_order l.intervals ≡ are_in_order (drop l.i l.intervals)
