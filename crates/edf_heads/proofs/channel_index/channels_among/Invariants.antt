use Rattle.edf_heads.proofs.AmongFacts.{AreTo}
use Rattle.edf_heads.proofs.channel_index.channels_among.Given as goal

abbrev pub invariant-loop-i : goal.invariant-loop-i
invariant-loop-i l = AreTo l.signals l.i l.channels.items
