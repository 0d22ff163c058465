-- The channels of two headers and of a claim.
use Rattle.std.specs.Prelude.{ℕ, List}
use Rattle.std.specs.List.Sorted.{IsPermutation}
use Rattle.edf_fields.specs.Lists.{Has}
use Rattle.edf_header.specs.signals.Channels.{IsChannelOf, channel_labels}
use Rattle.edf_header.specs.Heads.{SignalHead, Head}
use Rattle.edf_claim.specs.ClaimValues.{ClaimValue}

-- each claimed label is that of a channel of the original, and the labels of the export's channels are the claimed ones, in some order (this project's profile)
pub record SameChannels (original export : Head) (claim : ClaimValue) : Type 0 where
  pub in_original : (label : List ℕ) → Has claim.channels label
      → (channel : SignalHead) × IsChannelOf original label channel
  pub in_export : IsPermutation claim.channels (channel_labels export.signals)

-- the channels of each claimed label are alike in the two headers
abbrev pub AllAlike : (SignalHead → SignalHead → Type 0) → Head → Head → ClaimValue → Type 0
AllAlike Alike original export claim =
    (label : List ℕ) → Has claim.channels label
    → (x y : SignalHead) → IsChannelOf original label x → IsChannelOf export label y → Alike x y
