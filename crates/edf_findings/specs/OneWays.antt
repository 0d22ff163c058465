-- In which one way all annotations differ that only the original or only the exports have.
use Rattle.std.specs.Prelude.{◌≡◌, ℕ, ◌<◌, ℤ, ◌-ℤ◌, List, length, map, slice_get, Bool, true, false, is_some, Option, Some, option_and_then}
use Rattle.std.specs.Borrow.{Bor}
use Rattle.std.specs.List.{AllByRecursion}
use Rattle.std.specs.List.Sorted.{IsPermutation}
use Rattle.std.specs.Option.{option_map}
use Rattle.edf_pace.specs.declared.notes.only_in_one.OnlyInOne.{OnlyInOne}
use Rattle.edf_stream.specs.declared.annotation.notes.Note.{Note}
use Rattle.edf_findings.specs.Shifts.{nearest}
use Rattle.edf_findings.specs.declared.notes.both.Notes.{Notes}
use Rattle.edf_findings.specs.declared.notes.one_way.OneWay.{OneWay}
use Rattle.edf_findings.specs.declared.notes.one_way.OneWay.TheVariants.{Moved, WithoutDurations}

-- the second of two annotations has the text and the duration of the first one, and begins so much later
pub record IsLaterBy (later : ℤ) (kept exported : Note) : Type 0 where
  pub text : exported.text ≡ kept.text
  pub duration : exported.duration ≡ kept.duration
  pub onset : later ≡ nearest (exported.onset -ℤ kept.onset)

-- the annotation at the place that stands there in a list of places
abbrev pub note_of : List Note → List ℕ → ℕ → Option Note
note_of notes places k = option_and_then (λ (place : ℕ). slice_get notes place) (slice_get places k)

-- of those that only one file has, both lists have an annotation at k, and the one of the export is that of the original, so much later
pub record IsPairMoved (notes : Notes) (only : OnlyInOne) (later : ℤ) (k : ℕ) : Type 0 where
  pub kept : Note
  pub kept_is : note_of notes.kept.items only.missing.items k ≡ Some kept
  pub exported : Note
  pub exported_is : note_of notes.exported.items only.extra.items k ≡ Some exported
  pub moved : IsLaterBy later kept exported

-- this is so of each of them
abbrev pub AreMoved : Notes → OnlyInOne → ℤ → Type 0
AreMoved notes only later = (k : ℕ) → k < length only.missing.items → IsPairMoved notes only later k

-- whether the annotation at a place has a duration; when it begins, and its text
abbrev pub has_duration_at : List Note → ℕ → Option Bool
has_duration_at notes place = option_map (λ (note : Note). is_some note.duration) (slice_get notes place)

abbrev pub time_and_text_at : List Note → ℕ → Option (ℤ × List ℕ)
time_and_text_at notes place = option_map (λ (note : Note). (note.onset, note.text)) (slice_get notes place)

-- the annotations at all of these places have durations, or none of them has
abbrev pub HaveDurations : Bool → List Note → List ℕ → Type 0
HaveDurations have notes places = AllByRecursion (λ (place : ℕ). has_duration_at notes place ≡ Some have) places

-- of those that only one file has, each of the original has a duration, none of the export has one, and each time stands with each text as
-- often in one as in the other
pub record AreWithoutDurations (notes : Notes) (only : OnlyInOne) : Type 0 where
  pub kept : HaveDurations true notes.kept.items only.missing.items
  pub exported : HaveDurations false notes.exported.items only.extra.items
  pub same : IsPermutation (map (time_and_text_at notes.kept.items) only.missing.items) (map (time_and_text_at notes.exported.items) only.extra.items)

-- all of them differ in this way
abbrev pub DifferIn : Notes → OnlyInOne → OneWay → Type 0
DifferIn notes only (Moved later) = AreMoved notes only later
DifferIn notes only WithoutDurations = AreWithoutDurations notes only

-- ---- steps between these and the code: a time and a text, read from where they are borrowed

abbrev pub said_in : ℤ × Bor (List ℕ) → ℤ × List ℕ
said_in said = (said.0, said.1.now)

-- they are those of the annotation at a place, which has a duration or none
pub record IsTimeAndText (has : Bool) (notes : List Note) (place : ℕ) (said : ℤ × Bor (List ℕ)) : Type 0 where
  pub has_it : has_duration_at notes place ≡ Some has
  pub said_is : time_and_text_at notes place ≡ Some (said_in said)

-- of the annotations at all of these places
pub record AreTimesAndTexts (have : Bool) (notes : List Note) (places : List ℕ) (listed : List (ℤ × Bor (List ℕ))) : Type 0 where
  pub have_them : HaveDurations have notes places
  pub are : map (time_and_text_at notes) places ≡ map Some (map said_in listed)
