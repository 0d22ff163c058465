-- The labels before the place are the same.
use Rattle.std.proofs.Common.{◌≡◌, length, take}
use Rattle.edf_claim_text.proofs.same.are_same_labels.Given as goal

abbrev pub invariant-loop-i : goal.invariant-loop-i
invariant-loop-i l = record {
  long : length l.labels ≡ length l.others;
  same : take l.i l.labels ≡ take l.i l.others;
}
