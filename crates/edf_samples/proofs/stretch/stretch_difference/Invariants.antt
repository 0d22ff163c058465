use Rattle.std.proofs.Common.{◌≡◌}
use Rattle.edf_samples.specs.Differences.{first_difference_of}
use Rattle.edf_samples.specs.Stretches.{points_in, points_behind}
use Rattle.edf_samples.proofs.stretch.stretch_difference.Given as goal

abbrev pub invariant-loop-i : goal.invariant-loop-i
invariant-loop-i l =
    first_difference_of l.x.den (points_behind l.x l.i) l.y.den (points_behind l.y l.i)
    ≡ first_difference_of l.x.den (points_in l.x) l.y.den (points_in l.y)
