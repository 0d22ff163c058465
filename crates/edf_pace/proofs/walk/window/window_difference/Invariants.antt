use Rattle.std.proofs.Common.{◌≡◌, ◌<◌, ◌≤◌, List, ℕ, drop, map, length, IfSome}
use Rattle.edf_claim.specs.Keeps.{keeps_instant}
use Rattle.edf_samples.specs.Differences.{earliest}
use Rattle.edf_samples.specs.InstantOrder.{IsModest}
use Rattle.edf_pace.specs.walk.Windows.{AreSharesIn, sampled, window_of}
use Rattle.edf_pace.specs.walk.Shown.{Covers}
use Rattle.edf_pace.specs.walk.Pairs.{places_of}
use Rattle.edf_pace.proofs.walk.window.window_difference.Given as goal

abbrev pub invariant-loop-i : goal.invariant-loop-i
invariant-loop-i l = record {
  within : l.i ≤ length l.pairs;
  held : AreSharesIn l.original l.export ((l.fn.frame).turn).setting.clock l.fn.within l.shares;
  kept : (l.shares).is_kept ≡ keeps_instant (((l.fn.frame).turn).setting.claim).now (l.fn.within.from).ps 1;
  value : (o e : List ℕ) → Covers l.original o ((((l.fn.frame).turn).setting.clock).original).ps (l.fn.within.from).ps (l.fn.within.to).ps → Covers l.export e ((((l.fn.frame).turn).setting.clock).export).ps (l.fn.within.from).ps (l.fn.within.to).ps →
      l.held ≡ earliest l.i (map (λ p. window_of (((l.fn.frame).turn).setting.claim).now (sampled o l.original.head ((((l.fn.frame).turn).setting.clock).original).ps) (sampled e l.export.head ((((l.fn.frame).turn).setting.clock).export).ps) (l.fn.within.from).ps (l.fn.within.to).ps (places_of p).0 (places_of p).1) (drop l.i l.pairs));
  modest : IfSome l.held (λ f. IsModest f.difference.at);
  channel : IfSome l.held (λ f. f.channel < length l.pairs);
}

abbrev pub decreases-loop-i : goal.decreases-loop-i
decreases-loop-i l = l.i
