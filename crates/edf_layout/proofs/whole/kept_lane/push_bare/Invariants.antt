use Rattle.std.proofs.Common.{◌≡◌, ◌≤◌, ◌-◌, true, ℕ, ℤ, List, length}
use Rattle.edf_layout.specs.whole.KeptLanes.{record_kept}
use Rattle.edf_layout.proofs.whole.kept_lane.push_bare.Given as goal

abbrev pub invariant-loop-lanes : goal.invariant-loop-lanes
invariant-loop-lanes l = record {
  few : length l.lanes.items ≤ l.count;
  same : (start : ℤ) (sizes : List ℕ) → length sizes ≡ l.count → record_kept true start sizes l.lanes.items ≡ record_kept true start sizes l.initial.lanes.items;
}

abbrev pub decreases-loop-lanes : goal.decreases-loop-lanes
decreases-loop-lanes l = l.count - length l.lanes.items
