use Rattle.std.proofs.Common.{◌≡◌, map, drop}
use Rattle.edf_heads.specs.Comparisons.{claimed_view, first_text_difference}
use Rattle.edf_heads.proofs.channel_texts.first_text_difference.Given as goal

abbrev pub invariant-loop-channel : goal.invariant-loop-channel
invariant-loop-channel l = first_text_difference (map claimed_view l.claimed) ≡ first_text_difference (map claimed_view (drop l.channel-index l.claimed))
