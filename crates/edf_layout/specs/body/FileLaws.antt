-- What a file means, its layout, and where its TALs stand are the file: there is no other thing in its bytes.
use Rattle.std.specs.Prelude.{◌≡◌, ℕ, ◌<◌, ◌↔◌, List, length, Some, true, slice_get}
use Rattle.edf_header.specs.Heads.{SignalHead, Head, is_annotations}
use Rattle.edf_tal.specs.Tals.{TalValue, IsLaneOf}
use Rattle.edf_stream.specs.Conforming.{Conforms}
use Rattle.edf_stream.specs.records.RecordsReading.{lane_at}
use Rattle.edf_layout.specs.body.BodyLaws.{AreBytes, HaveSameSamples}
use Rattle.edf_layout.specs.HeadLaws.{SayTheSame}
use Rattle.edf_layout.specs.HeadLayouts.{head_layout_of}
use Rattle.edf_layout.specs.body.LaneLayouts.{TalLayout, IsLaidLane}

-- a lane that holds TALs has a layout
abbrev pub LanesHaveLayouts : Type 0
LanesHaveLayouts = (lane : List ℕ) (tals : List TalValue) → IsLaneOf lane tals ↔ ((layouts : List TalLayout) × IsLaidLane lane tals layouts)

-- two lanes of one length that hold the same TALs with the same layouts are the same bytes
abbrev pub LaneIsItsTals : Type 0
LaneIsItsTals = (lane other : List ℕ) (tals : List TalValue) (layouts : List TalLayout) → length lane ≡ length other →
    IsLaidLane lane tals layouts → IsLaidLane other tals layouts → lane ≡ other

-- both lanes hold these TALs, and this is the layout of both
abbrev pub AreLaidAlike : List ℕ → List ℕ → Type 0
AreLaidAlike lane other = (tals : List TalValue) × (layouts : List TalLayout) × IsLaidLane lane tals layouts × IsLaidLane other tals layouts

-- in each data record each annotation signal of the first file has the same TALs in both, with the same layouts
abbrev pub HaveSameTals : List ℕ → Head → List ℕ → Head → Type 0
HaveSameTals file h other g = (k s : ℕ) (signal : SignalHead) → k < h.records → slice_get h.signals s ≡ Some signal → is_annotations signal.label ≡ true →
    AreLaidAlike (lane_at file h k s) (lane_at other g k s)

-- two files that conform are the same bytes exactly where their headers say the same and have the same layout, and they have the same
-- samples, and the same TALs in each lane, with the same layouts
abbrev pub FileIsItsParts : Type 0
FileIsItsParts = (file other : List ℕ) (h g : Head) → AreBytes file → AreBytes other → Conforms file h → Conforms other g →
    (file ≡ other) ↔ (SayTheSame h g × (head_layout_of file h ≡ head_layout_of other g) × HaveSameSamples file h other g × HaveSameTals file h other g)
