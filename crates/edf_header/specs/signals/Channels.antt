-- The channels of a header, which are its ordinary signals.
use Rattle.std.specs.Prelude.{◌≡◌, ℕ, false, not, List, map, filter}
use Rattle.edf_fields.specs.Lists.{Has}
use Rattle.edf_header.specs.Heads.{SignalHead, Head, is_annotations}

-- a signal of the header is a channel of this label (EDF, "Header record"; EDF+, "The 'EDF Annotations' signal")
pub record IsChannelOf (h : Head) (label : List ℕ) (channel : SignalHead) : Type 0 where
  pub there : Has h.signals channel
  pub labelled : (channel.label ≡ label) × (is_annotations label ≡ false)

-- the channels among the signals: those that hold no annotations
abbrev pub channels_among : List SignalHead → List SignalHead
channels_among signals = filter (λ signal. not (is_annotations signal.label)) signals

-- the labels of the channels, in the order of the signals
abbrev pub channel_labels : List SignalHead → List (List ℕ)
channel_labels signals = map (λ channel. channel.label) (channels_among signals)
