use Rattle.std.proofs.Common.{◌≡◌, ◌*◌, ◌++◌, drop, map}
use Rattle.edf_header.specs.declared.signals.lane_place.LanePlace.{LanePlace}
use Rattle.edf_layout.proofs.whole.layout.lane_sizes.Given as goal

abbrev pub invariant-loop-place : goal.invariant-loop-place
invariant-loop-place l = l.sizes.items ++ map (λ (place : LanePlace). 2 * place.samples) (drop l.place-index l.place-items) ≡ map (λ (place : LanePlace). 2 * place.samples) l.place-items
