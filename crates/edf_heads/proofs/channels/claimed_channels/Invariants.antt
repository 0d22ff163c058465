use Rattle.std.proofs.Common.{◌≡◌, map, take}
use Rattle.edf_heads.specs.Comparisons.{claimed_of, claimed_view}
use Rattle.edf_heads.proofs.channels.claimed_channels.Given as goal

abbrev pub invariant-loop-label : goal.invariant-loop-label
invariant-loop-label l =
    map claimed_view l.claimed.items
    ≡ map (claimed_of l.original.signals l.export.signals) (take l.label-index l.labels)
