-- The labels so far, and those of the signals that are left, are those of all.
use Rattle.std.proofs.Common.{◌≡◌, ◌++◌, map, drop}
use Rattle.edf_header.specs.signals.Channels.{channel_labels as labels_of}
use Rattle.edf_draft.proofs.channels.channel_labels.Given as goal

abbrev pub invariant-loop-signal : goal.invariant-loop-signal
invariant-loop-signal l = map (λ t. t.items) l.labels.items ++ labels_of (drop l.signal-index l.signal-items) ≡ labels_of l.header.signals
