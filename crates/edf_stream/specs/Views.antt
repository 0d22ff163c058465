-- What the code's values say, in the words of the definitions.
use Rattle.std.specs.Prelude.{◌≡◌, ℕ, ℤ, pos, ◌≤◌, ◌<◌, ◌+ℤ◌, ◌^◌, ◌*◌, ◌-◌, min, MatchResult, IsTrue, unsigned_abs, List, [], ◌++◌, map, length, Option, Some, None, Result, Ok}
use Rattle.edf_fields.specs.declared.faults.cause.TalCause.{TalCause}
use Rattle.edf_fields.specs.Parts.{part}
use Rattle.edf_header.specs.declared.signals.lane_place.LanePlace.{LanePlace}
use Rattle.edf_header.specs.Heads.{Head, record_bytes}
use Rattle.edf_header.specs.Sound.{IsSound}
use Rattle.edf_tal.specs.declared.start.StartCause.{StartCause}
use Rattle.edf_header.specs.declared.stop.Stop.TheVariants as stops
use Rattle.edf_stream.specs.declared.records.status.Status.{Status}
use Rattle.edf_stream.specs.declared.records.status.Status.TheVariants.{Begun, Current, Ended, Stopped}
use Rattle.edf_stream.specs.records.Readers.{is_current}
use Rattle.edf_stream.specs.times.StartsReading.{start_by_lanes, start_in}
use Rattle.edf_tal.specs.Views.{items_left, texts_left}
use Rattle.edf_stream.specs.declared.records.lanes.Said.{Said}
use Rattle.edf_stream.specs.declared.annotation.annotations.LaneNotes.{LaneNotes}
use Rattle.edf_stream.specs.declared.annotation.annotations.Annotations.{Annotations}
use Rattle.edf_stream.specs.declared.annotation.note.NoteRef.{NoteRef}
use Rattle.edf_stream.specs.declared.annotation.notes.Note.{Note}
use Rattle.edf_stream.specs.declared.annotation.note.TalNotes.{TalNotes}
use Rattle.edf_stream.specs.annotation.Notes.{NoteValue}
use Rattle.edf_stream.specs.annotation.NotesReading.{notes_of_items, notes_of_lanes}
use Rattle.edf_stream.specs.Faults.{cause_of_lanes}

-- the start that lanes say, with these lanes behind them
abbrev pub start_with : Option Said → List (List ℕ) → Result ℤ StartCause
start_with (Some said) lanes = said.start
start_with None lanes = start_by_lanes lanes

-- how many texts lanes have
abbrev pub texts_said : Option Said → ℕ
texts_said None = 0
texts_said (Some said) = said.texts

-- what lanes say together, or the cause of the first of them that is no list of TALs
abbrev pub IsSaidBy : List (List ℕ) → Result (Option Said) TalCause → Type 0
IsSaidBy lanes result = MatchResult result
    (λ found. (cause_of_lanes lanes ≡ None)
    × (start_with found [] ≡ start_by_lanes lanes)
    × (texts_said found ≡ min (length (notes_of_lanes lanes)) (2 ^ 32 - 1)))
    (λ cause. cause_of_lanes lanes ≡ Some cause)

-- these lanes are one list of TALs each, and say this time and nothing else
pub record IsTimedAlone (lanes : List (List ℕ)) (start : ℤ) : Type 0 where
  pub fine : cause_of_lanes lanes ≡ None
  pub said : start_by_lanes lanes ≡ Ok start
  pub texts : length (notes_of_lanes lanes) ≡ 1

-- the lane at a place in the bytes of a data record
abbrev pub placed_lane : LanePlace → List ℕ → List ℕ
placed_lane place bytes = part bytes place.offset (2 * place.samples)

-- the lanes at these places
abbrev pub placed_lanes : List LanePlace → List ℕ → List (List ℕ)
placed_lanes places bytes = map (λ place. placed_lane place bytes) places

-- reading data records takes no memory, so want of it stops no reader
abbrev pub IsContent : Status → Type 0
IsContent (Stopped stops.OutOfMemory) = ⊥
IsContent (Stopped stops.ReadFailed) = Unit {0}
IsContent (Stopped (stops.Fault fault)) = Unit {0}
IsContent Begun = Unit {0}
IsContent Current = Unit {0}
IsContent Ended = Unit {0}

-- what holds of every reader; where a data record is at hand, it ends where the records that were read do
pub record IsReader (h : Head) (read : ℕ) (ended : ℤ) (notes : ℕ) (buffer : List ℕ) (status : Status) : Type 0 where
  pub sound : IsSound h
  pub within : read ≤ h.records
  pub begun : read ≡ 0 → ended ≡ pos 0
  pub near : unsigned_abs ended < 2 ^ 71
  pub few : notes ≤ 1000000
  pub content : IsContent status
  pub full : length buffer ≡ record_bytes h
  pub current : IsTrue (is_current status) → ended ≡ start_in h buffer +ℤ h.duration

-- an annotation
abbrev pub note_view : NoteRef → NoteValue
note_view note = record { onset = note.onset; duration = note.duration; text = note.text.now }

-- an annotation with a text of its own
abbrev pub note_value : Note → NoteValue
note_value note = record { onset = note.onset; duration = note.duration; text = note.text }

-- the onset of an annotation of any file, whatever its source, is less than 2^80 ps from 1970
abbrev pub IsNear : Note → Type 0
IsNear note = unsigned_abs note.onset < 2 ^ 80

-- the annotations that are still to come of a TAL, where one is at hand
abbrev pub notes_of_said : Option TalNotes → List NoteValue
notes_of_said None = []
notes_of_said (Some said) = map (λ text. record { onset = said.onset; duration = said.duration; text = text }) (texts_left said.texts)

-- those of a lane
abbrev pub lane_notes_left : LaneNotes → List NoteValue
lane_notes_left lane = notes_of_said lane.tal ++ notes_of_items (items_left lane.tals)

-- those of a data record
abbrev pub notes_left : Annotations → List NoteValue
notes_left notes = lane_notes_left notes.lane ++ notes_of_lanes (placed_lanes notes.places.now notes.bytes.now)
