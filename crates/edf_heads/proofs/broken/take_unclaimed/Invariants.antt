use Rattle.std.proofs.Common.{◌≡◌, ◌++◌, map, drop}
use Rattle.edf_heads.specs.Comparisons.{difference_of, unclaimed_in}
use Rattle.edf_heads.proofs.broken.take_unclaimed.Given as goal

abbrev pub invariant-loop-signal : goal.invariant-loop-signal
invariant-loop-signal l =
    map difference_of l.found.items ++ unclaimed_in l.claim.channels (drop l.signal-index l.signals)
    ≡ map difference_of l.fn.found.items ++ unclaimed_in l.claim.channels l.signals
