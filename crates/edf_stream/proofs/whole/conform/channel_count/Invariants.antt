use Rattle.std.proofs.Common.{◌≡◌, ◌≤◌, ◌+◌, length, drop}
use Rattle.edf_header.specs.signals.Channels.{channels_among}
use Rattle.edf_stream.proofs.whole.conform.channel_count.Given as goal

abbrev pub invariant-loop-signal : goal.invariant-loop-signal
invariant-loop-signal l = (l.count + length (channels_among (drop l.signal-index l.signals)) ≡ length (channels_among l.signals)) × (l.count ≤ l.signal-index)
