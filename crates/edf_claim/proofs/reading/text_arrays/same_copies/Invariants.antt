use Rattle.std.proofs.Common.{◌≡◌, map, take}
use Rattle.edf_claim.proofs.reading.text_arrays.same_copies.Given as goal

abbrev pub invariant-loop-text : goal.invariant-loop-text
invariant-loop-text l = map (λ t. t.items) l.copies.items ≡ map (λ t. t.items) (take l.text-index l.texts)
