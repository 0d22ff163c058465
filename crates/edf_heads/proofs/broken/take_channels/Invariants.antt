use Rattle.std.proofs.Common.{◌≡◌, ◌++◌, map, drop}
use Rattle.edf_heads.specs.Comparisons.{all_rules, broken_by, claimed_view, difference_of}
use Rattle.edf_heads.proofs.broken.take_channels.Given as goal

abbrev pub invariant-loop-channel : goal.invariant-loop-channel
invariant-loop-channel l =
    map difference_of l.found.items ++ broken_by all_rules (map claimed_view (drop l.channel-index l.claimed))
    ≡ map difference_of l.fn.found.items ++ broken_by all_rules (map claimed_view l.claimed)
