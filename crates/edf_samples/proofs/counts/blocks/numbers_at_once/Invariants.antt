use Rattle.std.proofs.Common.{◌-◌, ◌≤◌}
use Rattle.edf_samples.specs.Others.{AreOthers, differs}
use Rattle.edf_samples.proofs.counts.blocks.numbers_at_once.Given as goal

abbrev pub invariant-loop-number : goal.invariant-loop-number
invariant-loop-number g l = record {
  within : l.number ≤ l.count;
  value : AreOthers (differs g.row.STRIDE l.long l.short) l.number l.places;
}

abbrev pub decreases-loop-number : goal.decreases-loop-number
decreases-loop-number g l = l.count - l.number
