use Rattle.std.proofs.Common.{◌≡◌, map, take}
use Rattle.edf_claim.proofs.reading.text_arrays.bytes_of.Given as goal

abbrev pub invariant-loop-text : goal.invariant-loop-text
invariant-loop-text l = map (λ t. t.now) l.list.items ≡ map (λ t. t.now) (take l.text-index l.texts)
