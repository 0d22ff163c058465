-- Headers that say the same of a night, however a writer ordered its signals and cut its file (which of it a verdict looks at is this project's profile).
use Rattle.std.specs.Prelude.{◌≡◌, ◌↔◌, ◌⊎◌, ℕ, List, []}
use Rattle.std.specs.List.Sorted.{IsPermutation}
use Rattle.edf_fields.specs.texts.Identifications.{Recording}
use Rattle.edf_header.specs.signals.Calibrations.{SameLine}
use Rattle.edf_header.specs.signals.Channels.{channel_labels, IsChannelOf}
use Rattle.edf_header.specs.Heads.{SignalHead, Head}
use Rattle.edf_heads.specs.differences.BlankDifference.{IsBlankHeader}
use Rattle.edf_header.specs.signals.Channels.{IsChannelOf}
use Rattle.edf_heads.specs.Subfields.{IsX}

-- two channels have the same texts, and the same line from digital to physical values; their numbers of samples in a data record may differ
pub record AreSameChannels (x y : SignalHead) : Type 0 where
  pub transducer : x.transducer ≡ y.transducer
  pub dimension : x.dimension ≡ y.dimension
  pub prefilter : x.prefilter ≡ y.prefilter
  pub line : SameLine x.calibration y.calibration

-- the same subfields but for the date: dates are equal, or neither is `X`
pub record AreSameRecordings (r s : Recording) : Type 0 where
  pub date : (r.date ≡ s.date) ⊎ ((IsX r.date → ⊥) × (IsX s.date → ⊥))
  pub admin : r.admin ≡ s.admin
  pub technician : r.technician ≡ s.technician
  pub equipment : r.equipment ≡ s.equipment
  pub extras : r.extras ≡ s.extras

-- the labels of one header's channels are the other's, in some order, and those of one label are the same; so are the subfields
pub record AreSameHeads (h g : Head) : Type 0 where
  pub channels : IsPermutation (channel_labels h.signals) (channel_labels g.signals)
  pub alike : (label : List ℕ) (x y : SignalHead) → IsChannelOf h label x → IsChannelOf g label y → AreSameChannels x y
  pub patient : h.patient ≡ g.patient
  pub recording : AreSameRecordings h.recording g.recording

-- they have free text in the same places: in what is the header's own, and in the channels of each label
pub record AreBlankAlike (h g : Head) : Type 0 where
  pub header : IsBlankHeader h ↔ IsBlankHeader g
  pub channels : (label : List ℕ) (x y : SignalHead) → IsChannelOf h label x → IsChannelOf g label y → (x.reserved ≡ []) ↔ (y.reserved ≡ [])
