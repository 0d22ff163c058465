-- The texts before the place are the same.
use Rattle.std.proofs.Common.{◌≡◌, length, map, take}
use Rattle.edf_claim.proofs.drafting.draft.are_same_texts.Given as goal

abbrev pub invariant-loop-i : goal.invariant-loop-i
invariant-loop-i l = record {
  long : length l.texts ≡ length l.others;
  same : take l.i (map (λ t. t.items) l.texts) ≡ take l.i (map (λ t. t.items) l.others);
}
