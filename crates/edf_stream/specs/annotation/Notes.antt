-- Where data records start, and the annotations of a file. EDF+ (2003), "Time-stamped Annotations Lists (TALs) in an
-- 'EDF Annotations' signal" and "Time keeping of data records".
use Rattle.std.specs.Prelude.{◌≡◌, ℕ, zero, suc, ◌<◌, ℤ, ◌+ℤ◌, List, [], ◌++◌, ◌∷◌, map, Option}
use Rattle.std.specs.List.{flat_map}
use Rattle.edf_header.specs.Heads.{Head}
use Rattle.edf_tal.specs.Tals.{TalValue, IsLaneOf}
use Rattle.edf_stream.specs.records.Records.{annotation_lanes, record_at}

-- an annotation: its onset, in picoseconds after the second at which its file starts, its duration, where it has one, in picoseconds, and
-- its text
pub record NoteValue : Type 0 where
  pub onset : ℤ
  pub duration : Option ℤ
  pub text : List ℕ

-- the TAL with this onset, this duration and these texts
abbrev pub tal_with : ℤ → Option ℤ → List (List ℕ) → TalValue
tal_with onset duration texts = record { onset = onset; duration = duration; texts = texts }

-- what a TAL says: each of its texts, at its onset and with its duration
abbrev pub notes_of_tal : TalValue → List NoteValue
notes_of_tal tal = map (λ text. record { onset = tal.onset; duration = tal.duration; text = text }) tal.texts

-- there are as many lanes as lists of TALs, and each lane spells the list at its place
abbrev pub AreLanesOf : List (List ℕ) → List (List TalValue) → Type 0
AreLanesOf [] [] = Unit {0}
AreLanesOf [] (tals ∷ others) = ⊥
AreLanesOf (lane ∷ lanes) [] = ⊥
AreLanesOf (lane ∷ lanes) (tals ∷ others) = IsLaneOf lane tals × AreLanesOf lanes others

-- the data record of these bytes says that it starts there, and these annotations: its annotation lanes are lanes of TALs; the
-- first TAL of the first lane keeps the time: its onset is the start, it has any duration or none, and its first text is empty; the
-- annotations are its other texts, with its duration, then those of the TALs beside it, then those of the other lanes: any other text,
-- also an empty one, is an annotation
-- (EDF+, "Time-stamped Annotations Lists (TALs) in an 'EDF Annotations' signal", "Time keeping of data records")
pub record SaysRecord (h : Head) (bytes : List ℕ) (start : ℤ) (notes : List NoteValue) : Type 0 where
  pub duration : Option ℤ
  pub texts : List (List ℕ)
  pub beside : List TalValue
  pub others : List (List TalValue)
  pub lanes : AreLanesOf (annotation_lanes h.signals bytes) ((tal_with start duration ([] ∷ texts) ∷ beside) ∷ others)
  pub notes_are : notes ≡ notes_of_tal (tal_with start duration texts) ++ flat_map (λ tals. flat_map notes_of_tal tals) (beside ∷ others)

-- each data record of the file says that it starts there, in picoseconds after the start of the file, and these annotations
abbrev pub SayRecords : List ℕ → Head → (ℕ → ℤ) → (ℕ → List NoteValue) → Type 0
SayRecords file h starts notes = (k : ℕ) → k < h.records → SaysRecord h (record_at file h k) (starts k) (notes k)

-- the annotations of the first k data records, one behind the other
abbrev pub together : (ℕ → List NoteValue) → ℕ → List NoteValue
together notes zero = []
together notes (suc k) = together notes k ++ notes k

-- these are the annotations of the file, data record by data record, with onsets that count from its start
pub record HasNotes (file : List ℕ) (h : Head) (all : List NoteValue) : Type 0 where
  pub starts : ℕ → ℤ
  pub notes : ℕ → List NoteValue
  pub say : SayRecords file h starts notes
  pub all_are : all ≡ together notes h.records

-- an annotation with its onset later by so many picoseconds
abbrev pub moved_by : ℤ → NoteValue → NoteValue
moved_by ps note = record { onset = ps +ℤ note.onset; duration = note.duration; text = note.text }
