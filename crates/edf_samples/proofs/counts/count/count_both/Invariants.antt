use Rattle.std.proofs.Common.{◌≡◌, ◌≤◌, ◌-◌, ◌+◌}
use Rattle.edf_samples.specs.Stretches.{IsHead}
use Rattle.edf_samples.specs.Tallies.{all_behind, joined, tally_of}
use Rattle.edf_samples.proofs.counts.count.count_both.Given as goal

abbrev pub invariant-loop-here : goal.invariant-loop-here
invariant-loop-here l = record {
  x_head : IsHead l.x (l.y).den l.here;
  y_head : IsHead l.y (l.x).den l.there;
  x_within : (l.here).place ≤ l.x_count;
  y_within : (l.there).place ≤ l.y_count;
  value : joined l.tally (tally_of (all_behind l.x (l.here).place l.y (l.there).place)) ≡ joined l.fn.tally (tally_of (all_behind l.x l.x_from l.y l.y_from));
}

abbrev pub decreases-loop-here : goal.decreases-loop-here
decreases-loop-here l = (l.x_count - (l.here).place) + (l.y_count - (l.there).place)
