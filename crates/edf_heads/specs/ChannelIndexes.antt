-- The channels of a header in the order of their labels. These are steps between the definitions and the code.
use Rattle.std.specs.Prelude.{◌≡◌, ◌≢◌, ℕ, List, Option, Some, option_map, slice_get, map, filter, find, not}
use Rattle.std.specs.Cmp.Lexicographic.{slice_cmp}
use Rattle.std.specs.List.Sorted.{IsSorted, IsPermutation}
use Rattle.std.specs.Ordering.{nat_cmp}
use Rattle.std.specs.Borrow.{Bor}
use Rattle.edf_fields.specs.Lists.{Has, is_one_of}
use Rattle.edf_header.specs.signals.Channels.{channels_among}
use Rattle.edf_header.specs.signals.ChannelsReading.{is_ordinary}
use Rattle.edf_header.specs.Heads.{SignalHead, Head}
use Rattle.edf_header.specs.Sound.{IsSound}
use Rattle.edf_heads.specs.declared.channel_index.Channel.{Channel}

-- the channel is where it says among these signals, and among the channels of these
pub record IsAmong (signals : List SignalHead) (channel : Channel) : Type 0 where
  pub stands : slice_get signals channel.at ≡ Some channel.signal.now
  pub counted : slice_get (channels_among signals) channel.number ≡ Some channel.signal.now

abbrev pub AreAmong : List SignalHead → List Channel → Type 0
AreAmong signals channels = (channel : Channel) → Has channels channel → IsAmong signals channel

-- the same of the signals of a header
abbrev pub IsChannelAt : Head → Channel → Type 0
IsChannelAt h channel = IsAmong h.signals channel

-- the labels rise in the order of bytes
abbrev pub AreByLabel : List Channel → Type 0
AreByLabel = IsSorted (λ x y. slice_cmp nat_cmp x.signal.now.label y.signal.now.label)

-- the label of the first of these channels that has none of these labels
abbrev pub first_other : List Channel → List (Bor (List ℕ)) → Option (List ℕ)
first_other channels labels = option_map (λ s. s.label) (find (λ s. not (is_one_of (map (λ t. t.now) labels) s.label)) (map (λ c. c.signal.now) channels))

-- none of these channels has the label
abbrev pub NoneIsLabelled : List Channel → List ℕ → Type 0
NoneIsLabelled channels label = (x : SignalHead) → Has (map (λ c. c.signal.now) channels) x → x.label ≢ label

-- or this is one of them that has it
abbrev pub IsOneLabelled : List Channel → List ℕ → Channel → Type 0
IsOneLabelled channels label channel = Has channels channel × ((channel.signal.now).label ≡ label)

-- the channels of a header that is sound, in the order of their labels
pub record IsChannelIndex (h : Head) (sorted : List Channel) : Type 0 where
  pub sound : IsSound h
  pub order : AreByLabel sorted
  pub same : IsPermutation (filter is_ordinary h.signals) (map (λ c. c.signal.now) sorted)
  pub among : AreAmong h.signals sorted
