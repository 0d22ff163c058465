use Rattle.std.proofs.Common.{◌≡◌, ◌≤◌, ◌+◌, drop}
use Rattle.edf_header.specs.Heads.{samples_together}
use Rattle.edf_header.specs.signals.Channels.{channels_among}
use Rattle.edf_stream.proofs.whole.conform.channel_samples.Given as goal

abbrev pub invariant-loop-signal : goal.invariant-loop-signal
invariant-loop-signal l =
    (l.count + samples_together (channels_among (drop l.signal-index l.signals)) ≡ samples_together (channels_among l.signals))
    × (l.count + samples_together (drop l.signal-index l.signals) ≤ samples_together l.signals)
