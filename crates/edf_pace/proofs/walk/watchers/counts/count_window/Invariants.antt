use Rattle.std.proofs.Common.{◌≡◌, ◌≤◌, ◌++◌, List, ℕ, IfSome, drop, map, length, take}
use Rattle.edf_claim.specs.Keeps.{keeps_instant}
use Rattle.edf_pace.specs.declared.walk.track.Pair.{Pair}
use Rattle.edf_pace.specs.walk.Counting.{differences_in}
use Rattle.edf_pace.specs.walk.Hands.{joined_each}
use Rattle.edf_pace.specs.walk.Meetings.{AreMet}
use Rattle.edf_pace.specs.walk.Pairs.{places_of}
use Rattle.edf_pace.specs.walk.Shown.{Covers}
use Rattle.edf_pace.specs.walk.Watching.{moved_export, moved_original}
use Rattle.edf_pace.specs.walk.Windows.{AreSharesIn, sampled}
use Rattle.edf_pace.proofs.walk.watchers.counts.count_window.Given as goal

abbrev pub invariant-loop-i : goal.invariant-loop-i
invariant-loop-i l = record {
  within : l.i ≤ length (l.frame.pairs).now;
  each : length l.counts ≡ length l.fn.counts;
  held : AreSharesIn l.original l.export ((l.frame.turn).setting.clock) l.fn.within (l.common).shares;
  met : IfSome (l.common).meeting (AreMet l.original l.export (l.common).shares);
  kept : ((l.common).shares).is_kept ≡ keeps_instant ((l.frame.turn).setting.claim).now ((l.fn.within).from).ps 1;
  value : (o e : List ℕ) → Covers l.original o (moved_original l.frame.turn) ((l.fn.within).from).ps ((l.fn.within).to).ps → Covers l.export e (moved_export l.frame.turn) ((l.fn.within).from).ps ((l.fn.within).to).ps →
      l.counts ≡ take l.i l.fn.counts ++ joined_each l.hands ((l.fn.within).from).ps (drop l.i l.fn.counts) (drop l.i (map (λ (pair : Pair). differences_in ((l.frame.turn).setting.claim).now (sampled o l.original.head (moved_original l.frame.turn)) (sampled e l.export.head (moved_export l.frame.turn)) ((l.fn.within).from).ps ((l.fn.within).to).ps (places_of pair).0 (places_of pair).1) (l.frame.pairs).now));
}

abbrev pub decreases-loop-i : goal.decreases-loop-i
decreases-loop-i l = l.i
