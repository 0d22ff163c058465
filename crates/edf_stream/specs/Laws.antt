-- What follows from the definitions.
use Rattle.std.specs.Prelude.{◌≡◌, ◌↔◌, ℕ, suc, ℤ, pos, ◌*◌, ◌<◌, ◌≤ℤ◌, ◌*ℤ◌, ◌^◌, List, length, map, Some, None, slice_get, unsigned_abs}
use Rattle.edf_fields.specs.declared.faults.fault.Fault.{Fault}
use Rattle.edf_header.specs.Faults.{header_fault}
use Rattle.edf_fields.specs.Lists.{Has}
use Rattle.edf_header.specs.Heads.{SignalHead, Head, samples_together}
use Rattle.edf_header.specs.HeadsReading.{start_second}
use Rattle.edf_stream.specs.declared.samples.sample.Sample.{Sample}
use Rattle.edf_stream.specs.records.Records.{record_at}
use Rattle.edf_stream.specs.annotation.Notes.{NoteValue, SaysRecord, HasNotes, moved_by}
use Rattle.edf_stream.specs.annotation.NotesReading.{notes_in, notes_before, notes_of}
use Rattle.edf_stream.specs.times.Starts.{file_start}
use Rattle.edf_stream.specs.times.StartsReading.{start_at, end_at}
use Rattle.edf_stream.specs.times.Instants.{IsSame}
use Rattle.edf_stream.specs.times.InstantOrder.{IsNotBefore, IsSmall, IsSecondOf}
use Rattle.edf_stream.specs.samples.Samples.{SampleValue, IsSample}
use Rattle.edf_stream.specs.samples.SamplesReading.{samples_of, labelled, AreRising}
use Rattle.edf_header.specs.signals.Channels.{channels_among}
use Rattle.edf_stream.specs.Faults.{body_fault, file_fault}
use Rattle.edf_stream.specs.Conforming.{Conforms}
use Rattle.edf_stream.specs.records.Readers.{Reader, StandsIn}

-- a file conforms exactly where it has no first fault
abbrev pub ConformingIsFaultless : Type 0
ConformingIsFaultless = (file : List ℕ) → (file_fault file ≡ None) ↔ ((h : Head) × Conforms file h)

-- in a file that conforms no data record starts before the one before it ends
abbrev pub RecordsFollowOn : Type 0
RecordsFollowOn = (file : List ℕ) (h : Head) → Conforms file h → (k : ℕ) → suc k < h.records → end_at file h k ≤ℤ start_at file h (suc k)

-- each data record of a file that conforms says its start and its annotations, and no others
abbrev pub NotesAreSaid : Type 0
NotesAreSaid = (file : List ℕ) (h : Head) → Conforms file h → (k : ℕ) → k < h.records → (start : ℤ) (notes : List NoteValue) →
    SaysRecord h (record_at file h k) start notes ↔ ((start ≡ start_at file h k) × (notes ≡ notes_in h (record_at file h k)))

-- proved: a file that conforms has annotations, and no others
abbrev pub HasItsNotes : Type 0
HasItsNotes = (file : List ℕ) (h : Head) → Conforms file h → (notes : List NoteValue) × HasNotes file h notes × ((others : List NoteValue) → HasNotes file h others → others ≡ notes)

-- and they are those that are read of it
pub record HasTheseNotes (file : List ℕ) (h : Head) : Type 0 where
  pub notes : List NoteValue
  pub there : HasNotes file h notes
  pub only : (others : List NoteValue) → HasNotes file h others → others ≡ notes
  pub read : notes_of file h ≡ map (moved_by (file_start h)) notes

abbrev pub NotesAreRead : Type 0
NotesAreRead = (file : List ℕ) (h : Head) → Conforms file h → HasTheseNotes file h

-- a fault of the header is the first fault of the file
abbrev pub HeaderFaultIsFirst : Type 0
HeaderFaultIsFirst = (file : List ℕ) (fault : Fault) → header_fault file ≡ Some fault → file_fault file ≡ Some fault

-- the first fault of a file in which a reader stands is that of its data records, or of what stands behind them
abbrev pub BodyFaultIsFirst : Type 0
BodyFaultIsFirst = (r : Reader) (left file : List ℕ) → StandsIn r left file → file_fault file ≡ body_fault file r.head

-- a sample is one of a file that conforms exactly where it stands in the list of its samples
abbrev pub SamplesAreListed : Type 0
SamplesAreListed = (file : List ℕ) (h : Head) → Conforms file h → (x : SampleValue) → IsSample file h x ↔ Has (map (labelled h) (samples_of file h)) x

-- each sample of the list has the number of a channel, and as its denominator how many samples that channel has in a data record
abbrev pub SamplesAreOfChannels : Type 0
SamplesAreOfChannels = (file : List ℕ) (h : Head) (x : Sample) → Has (samples_of file h) x →
    (signal : SignalHead) × (slice_get (channels_among h.signals) x.channel ≡ Some signal) × ((x.instant).den ≡ signal.samples)

-- in the list of samples of a file that conforms the numerators of each channel rise, so each sample stands there once
abbrev pub SamplesRise : Type 0
SamplesRise = (file : List ℕ) (h : Head) → Conforms file h → AreRising (samples_of file h)

-- proved: in a file that conforms a channel has one sample at an instant at the most
abbrev pub OneAtAnInstant : Type 0
OneAtAnInstant = (file : List ℕ) (h : Head) → Conforms file h → (x y : SampleValue) → IsSample file h x → IsSample file h y → x.label ≡ y.label → IsSame x.instant y.instant → x ≡ y

-- the numerators of the instants of a file that conforms fit 128 bits, and so do the products of such numerators and the denominators
-- of the same or of another such file
abbrev pub InstantsFit : Type 0
InstantsFit = (file other : List ℕ) (h g : Head) → Conforms file h → Conforms other g → (x y : SampleValue) → IsSample file h x → IsSample other g y
    → IsSmall x.instant × (unsigned_abs ((x.instant).num *ℤ pos (y.instant).den) < 2 ^ 127)

-- the least of the instants of a file that conforms, and its whole second is the start of the file
pub record StartsWith (file : List ℕ) (h : Head) (x : SampleValue) : Type 0 where
  pub sample : IsSample file h x
  pub least : (y : SampleValue) → IsSample file h y → IsNotBefore y.instant x.instant
  pub second : IsSecondOf x.instant (start_second h)

abbrev pub StartIsOfLeast : Type 0
StartIsOfLeast = (file : List ℕ) (h : Head) → Conforms file h → (x : SampleValue) × StartsWith file h x

-- a file that conforms has in each data record as many samples as its channels have there together
abbrev pub SamplesAreCounted : Type 0
SamplesAreCounted = (file : List ℕ) (h : Head) → Conforms file h → length (samples_of file h) ≡ h.records * samples_together (channels_among h.signals)

-- a file has as many annotations as its data records have together
abbrev pub NotesAreCounted : Type 0
NotesAreCounted = (file : List ℕ) (h : Head) → length (notes_of file h) ≡ notes_before file h h.records
