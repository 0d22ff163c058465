-- What the laws of this crate state.
use Rattle.std.specs.Prelude.{◌≡◌, ◌↔◌, ℤ, List, [], map}
use Rattle.std.specs.List.Sorted.{IsPermutation, IsSorted}
use Rattle.edf_pace.specs.Words.{Frame, Note, NoteValue, note_value}
use Rattle.edf_pace.specs.declared.notes.only_in_one.OnlyInOne.{OnlyInOne}
use Rattle.edf_samples.specs.declared.counts.tally.Tally.{Tally}
use Rattle.edf_pace.specs.Annotations.{SameNotes, note_cmp}
use Rattle.edf_pace.specs.notes.NoteOrder.{first_unequal_of}
use Rattle.edf_pace.specs.notes.OnlyInOne.{AreOnlyInOne, first_note, unequals_of}
use Rattle.edf_samples.specs.Differences.{earliest}
use Rattle.edf_pace.specs.walk.Counting.{tallies_between}
use Rattle.edf_pace.specs.walk.Watching.{TwoFiles, first_between}

-- between two times the first difference of two files is the earliest of the first differences that are counted of each channel
abbrev pub FirstIsCounted : Type 0
FirstIsCounted = (frame : Frame) (files : TwoFiles) (t u : ℤ) → first_between frame files t u ≡ earliest 0 (map (λ (tally : Tally). tally.first) (tallies_between frame files t u))

-- of two lists of annotations in order the first difference is the first that is counted
abbrev pub FirstNoteIsCounted : Type 0
FirstNoteIsCounted = (kept exported : List NoteValue) → first_unequal_of kept exported ≡ first_note (unequals_of kept exported)

-- of annotations that were put in order none is found exactly where each stands equally often in both lists
abbrev pub NoneIsFoundWhereSame : Type 0
NoneIsFoundWhereSame = (kept sorted exported ordered : List Note) (found : OnlyInOne) → IsPermutation kept sorted → IsPermutation exported ordered
    → IsSorted (λ x y. note_cmp (note_value x) (note_value y)) sorted → IsSorted (λ x y. note_cmp (note_value x) (note_value y)) ordered → AreOnlyInOne sorted ordered found
    → ((found.missing.items ≡ []) × (found.extra.items ≡ [])) ↔ SameNotes (map note_value kept) (map note_value exported)
