use Rattle.std.proofs.Common.{◌≡◌, map, find, drop}
use Rattle.edf_heads.specs.Comparisons.{claimed_view, breaks}
use Rattle.edf_heads.proofs.rules.first_breaking.Given as goal

abbrev pub invariant-loop-channel : goal.invariant-loop-channel
invariant-loop-channel l = find (breaks l.rule) (map claimed_view l.claimed) ≡ find (breaks l.rule) (map claimed_view (drop l.channel-index l.claimed))
