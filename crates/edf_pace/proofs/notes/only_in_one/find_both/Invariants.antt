use Rattle.std.proofs.Common.{◌≤◌, ◌-◌, ◌+◌, length}
use Rattle.edf_pace.specs.notes.OnlyInOne.{AreFoundTo}
use Rattle.edf_pace.proofs.notes.only_in_one.find_both.Given as goal

abbrev pub invariant-loop-i : goal.invariant-loop-i
invariant-loop-i l = record {
  here : l.i ≤ length l.kept;
  there : l.j ≤ length l.exported;
  value : AreFoundTo l.kept l.exported l.found l.i l.j;
}

abbrev pub decreases-loop-i : goal.decreases-loop-i
decreases-loop-i l = (length l.kept - l.i) + (length l.exported - l.j)
