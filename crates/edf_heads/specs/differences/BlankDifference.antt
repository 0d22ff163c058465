-- The first free text of an export.
use Rattle.std.specs.Prelude.{◌≡◌, ◌≢◌, ℕ, IsTrue, List, []}
use Rattle.edf_fields.specs.Lists.{Has}
use Rattle.edf_header.specs.Heads.{SignalHead, Head, is_annotations}
use Rattle.edf_claim.specs.ClaimValues.{ClaimValue}
use Rattle.edf_heads.specs.Blank.{HasNoTexts}
use Rattle.edf_header.specs.signals.Channels.{IsChannelOf}
use Rattle.edf_heads.specs.Firsts.{IsFirstWith}

-- `IsBlank` of what is the header's own: nothing stands behind `EDF+C` or `EDF+D`, and the annotation signals have no texts (EDF+, "The EDF+ header", "The 'EDF Annotations' signal")
pub record IsBlankHeader (h : Head) : Type 0 where
  pub free : h.free ≡ []
  pub annotations : (signal : SignalHead) → Has h.signals signal → IsTrue (is_annotations signal.label) → HasNoTexts signal

-- the header has free text in the reserved field of a channel of this label (EDF, "Header record": reserved)
abbrev pub HasFreeText : Head → List ℕ → Type 0
HasFreeText h label = (channel : SignalHead) × IsChannelOf h label channel × (channel.reserved ≢ [])

-- the first claimed channel that has free text in the export
abbrev pub IsFirstWithFreeText : Head → ClaimValue → List ℕ → Type 0
IsFirstWithFreeText export claim label = IsFirstWith (HasFreeText export) claim.channels label
