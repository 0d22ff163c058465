use Rattle.std.proofs.Common.{◌≡◌, map, take}
use Rattle.edf_heads.proofs.labels.borrow_each.Given as goal

abbrev pub invariant-loop-label : goal.invariant-loop-label
invariant-loop-label l = map (λ label. label.now) l.borrowed.items ≡ take l.label-index l.labels
