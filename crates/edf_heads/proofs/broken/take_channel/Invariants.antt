use Rattle.std.proofs.Common.{◌≡◌, ◌++◌, map, drop}
use Rattle.edf_heads.specs.Comparisons.{broken_at, claimed_view, difference_of}
use Rattle.edf_heads.proofs.broken.take_channel.Given as goal

abbrev pub invariant-loop-rule : goal.invariant-loop-rule
invariant-loop-rule l =
    map difference_of l.found.items ++ broken_at (drop l.rule-index l.rules) (claimed_view l.channel)
    ≡ map difference_of l.fn.found.items ++ broken_at l.rules (claimed_view l.channel)
