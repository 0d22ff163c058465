-- The intervals before the place are longer.
use Rattle.std.proofs.Common.{◌≡◌, map, take}
use Rattle.edf_trial.specs.Changes.{extended_by}
use Rattle.edf_trial.proofs.alike.all_extended.Given as goal

abbrev pub invariant-loop-interval : goal.invariant-loop-interval
invariant-loop-interval l = l.longer.items ≡ map (extended_by l.more) (take l.interval-index l.intervals)
