-- The first channel that is missing, extra or unlike.
use Rattle.std.specs.Prelude.{ℕ, List}
use Rattle.edf_fields.specs.Lists.{Has}
use Rattle.edf_header.specs.Heads.{SignalHead, Head}
use Rattle.edf_claim.specs.ClaimValues.{ClaimValue}
use Rattle.edf_heads.specs.Firsts.{IsFirstWith}
use Rattle.edf_heads.specs.Labels.{IsNotAbove}
use Rattle.edf_header.specs.signals.Channels.{IsChannelOf}

-- the header has a channel of this label
abbrev pub HasChannel : Head → List ℕ → Type 0
HasChannel h label = (channel : SignalHead) × IsChannelOf h label channel

-- the header has a channel of each of these labels
abbrev pub HasAll : Head → List (List ℕ) → Type 0
HasAll h labels = (label : List ℕ) → Has labels label → HasChannel h label

-- the header has no channel of this label
abbrev pub HasNoChannel : Head → List ℕ → Type 0
HasNoChannel h label = HasChannel h label → ⊥

-- the header has a channel of this label, which is none of these
pub record IsExtra (h : Head) (labels : List (List ℕ)) (label : List ℕ) : Type 0 where
  pub there : HasChannel h label
  pub unclaimed : Has labels label → ⊥

-- of the channels whose label is none of these, the least label in the order of bytes
pub record IsLeastExtra (h : Head) (labels : List (List ℕ)) (label : List ℕ) : Type 0 where
  pub extra : IsExtra h labels label
  pub least : (other : List ℕ) → IsExtra h labels other → IsNotAbove label other

-- the channels of this label are alike in the two headers
abbrev pub AreAlike : (SignalHead → SignalHead → Type 0) → Head → Head → List ℕ → Type 0
AreAlike Alike original export label =
    (x y : SignalHead) → IsChannelOf original label x → IsChannelOf export label y → Alike x y

-- they aren't alike
abbrev pub AreUnlike : (SignalHead → SignalHead → Type 0) → Head → Head → List ℕ → Type 0
AreUnlike Alike original export label =
    (x : SignalHead) × (y : SignalHead) × IsChannelOf original label x × IsChannelOf export label y × (Alike x y → ⊥)

-- the first claimed label whose channels aren't alike in the two headers
abbrev pub IsFirstUnlike : (SignalHead → SignalHead → Type 0) → Head → Head → ClaimValue → List ℕ → Type 0
IsFirstUnlike Alike original export claim label = IsFirstWith (AreUnlike Alike original export) claim.channels label
