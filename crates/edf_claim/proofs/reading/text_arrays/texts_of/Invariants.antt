use Rattle.std.proofs.Common.{◌≡◌, map, drop, option_map, ◌++◌}
use Rattle.toml.specs.View.{items_view}
use Rattle.edf_claim.specs.Reading.{texts_of}
use Rattle.edf_claim.proofs.reading.text_arrays.texts_of.Given as goal

abbrev pub invariant-loop-value : goal.invariant-loop-value
invariant-loop-value l = texts_of (items_view l.array.items) ≡ option_map (λ ts. map (λ t. t.now) l.found.items ++ ts) (texts_of (items_view (drop l.value-index l.array.items)))
