use Rattle.std.proofs.Common.{◌≡◌, replicate}
use Rattle.edf_pace.specs.walk.Spots.{no_count}
use Rattle.edf_pace.proofs.walk.watchers.counts.Counts.new.Given as goal

abbrev pub invariant-loop : goal.invariant-loop
invariant-loop l = l.channels.items ≡ replicate l.index no_count
