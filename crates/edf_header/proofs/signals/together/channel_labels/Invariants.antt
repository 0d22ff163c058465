use Rattle.std.proofs.Common.{◌≡◌, ◌++◌, map, drop}
use Rattle.edf_header.specs.signals.Channels.{channel_labels}
use Rattle.edf_header.proofs.signals.together.channel_labels.Given as goal

abbrev pub invariant-loop-signal : goal.invariant-loop-signal
invariant-loop-signal l = channel_labels l.signals ≡ map (λ t. t.now) l.labels.items ++ channel_labels (drop l.signal-index l.signals)
