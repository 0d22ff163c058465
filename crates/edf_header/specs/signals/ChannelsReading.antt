-- The channels of a header, as they are found.
use Rattle.std.specs.Prelude.{ℕ, Bool, not, ◌&&◌, List, [], Option, slice_get, unwrap_or, option_map, take, ◌≡◌, Some, false}
use Rattle.std.specs.List.{position_from}
use Rattle.std.specs.Option.{is_some}
use Rattle.std.specs.Str.{bytes_eq}
use Rattle.edf_header.specs.Heads.{SignalHead, is_annotations}

-- signal s is a channel of this label
abbrev pub IsChannel : List SignalHead → ℕ → List ℕ → Type 0
IsChannel signals s label = (signal : SignalHead) × (slice_get signals s ≡ Some signal) × ((signal.label ≡ label) × (is_annotations label ≡ false))

-- no two channels have one label
abbrev pub HasDistinctChannels : List SignalHead → Type 0
HasDistinctChannels signals = (s t : ℕ) (label : List ℕ) → IsChannel signals s label → IsChannel signals t label → s ≡ t

-- a signal that holds no annotations
abbrev pub is_ordinary : SignalHead → Bool
is_ordinary signal = not (is_annotations signal.label)

-- the signal is a channel of this label
abbrev pub is_channel_of : List ℕ → SignalHead → Bool
is_channel_of label head = bytes_eq head.label label && not (is_annotations head.label)

-- the place of the first channel of this label among the signals
abbrev pub channel_place : List ℕ → List SignalHead → Option ℕ
channel_place label signals = position_from (is_channel_of label) 0 signals

-- the label of signal s
abbrev pub label_at : List SignalHead → ℕ → List ℕ
label_at signals s = unwrap_or (option_map (λ head. head.label) (slice_get signals s)) []

-- an earlier channel has the label of signal s
abbrev pub is_repeated : List SignalHead → ℕ → Bool
is_repeated signals s = is_some (channel_place (label_at signals s) (take s signals))
