use Rattle.std.proofs.Common.{◌≡◌, drop, option_map, ◌++◌}
use Rattle.toml.specs.View.{items_view}
use Rattle.edf_claim.specs.Reading.{intervals_of}
use Rattle.edf_claim.proofs.reading.keep.intervals_in.Given as goal

abbrev pub invariant-loop-value : goal.invariant-loop-value
invariant-loop-value l = intervals_of (items_view l.array.items) ≡ option_map (λ is. l.found.items ++ is) (intervals_of (items_view (drop l.value-index l.array.items)))
