-- The data records of a file are its samples and its annotation lanes: there is no third thing in their bytes.
use Rattle.std.specs.Prelude.{◌≡◌, ℕ, ◌<◌, ◌↔◌, List, All, Some, true, slice_get}
use Rattle.edf_header.specs.Heads.{SignalHead, Head, is_annotations}
use Rattle.edf_stream.specs.Conforming.{Conforms}
use Rattle.edf_stream.specs.records.RecordsReading.{lane_at}
use Rattle.edf_stream.specs.samples.Samples.{SampleValue, IsSample}
use Rattle.edf_layout.specs.HeadLaws.{header_of}

-- the file is a list of bytes
abbrev pub AreBytes : List ℕ → Type 0
AreBytes file = All (λ b. b < 256) file

-- each sample of one file is one of the other: of a channel of one label, at one instant, with one value
abbrev pub HaveSameSamples : List ℕ → Head → List ℕ → Head → Type 0
HaveSameSamples file h other g = (x : SampleValue) → IsSample file h x ↔ IsSample other g x

-- each annotation signal of the first file has the same lane in each data record of both
abbrev pub HaveSameAnnotationLanes : List ℕ → Head → List ℕ → Head → Type 0
HaveSameAnnotationLanes file h other g = (k s : ℕ) (signal : SignalHead) → k < h.records → slice_get h.signals s ≡ Some signal → is_annotations signal.label ≡ true →
    lane_at file h k s ≡ lane_at other g k s

-- two files that conform, with the same header, the same samples and the same annotation lanes, are the same bytes
abbrev pub LanesAreTheRest : Type 0
LanesAreTheRest = (file other : List ℕ) (h g : Head) → AreBytes file → AreBytes other → Conforms file h → Conforms other g →
    header_of file h ≡ header_of other g → HaveSameSamples file h other g → HaveSameAnnotationLanes file h other g → file ≡ other
