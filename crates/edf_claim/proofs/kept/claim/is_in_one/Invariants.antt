use Rattle.std.proofs.Common.{◌≡◌, length}
use Rattle.std.specs.List.{list_any}
use Rattle.edf_claim.specs.KeepsReading.{AreKept, is_within}
use Rattle.edf_claim.proofs.kept.claim.is_in_one.Given as goal

abbrev pub invariant-loop-left : goal.invariant-loop-left
invariant-loop-left l = record { same : list_any (λ i. is_within i l.num l.den) l.left ≡ list_any (λ i. is_within i l.num l.den) l.intervals; kept : AreKept l.left }

abbrev pub decreases-loop-left : goal.decreases-loop-left
decreases-loop-left l = length l.left
