use Rattle.std.proofs.Common.{◌≡◌, ◌++◌, drop, map}
use Rattle.edf_layout.specs.body.LaidTals.{laid_view}
use Rattle.edf_layout.specs.body.OddLanes.{tal_lines}
use Rattle.edf_layout.proofs.laid_tal.push_tals.Given as goal

abbrev pub invariant-loop-tal : goal.invariant-loop-tal
invariant-loop-tal l = l.text.items ++ tal_lines (map laid_view (drop l.tal-index l.tals)) ≡ l.initial.text.items ++ tal_lines (map laid_view l.tals)
