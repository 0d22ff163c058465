-- What the code compares of annotations: two lists in order, read from the left.
use Rattle.std.specs.Prelude.{◌≡◌, map, option_map, List, [], ◌∷◌, Option, Some, None, MatchOption}
use Rattle.edf_pace.specs.Words.{NoteValue, note_value, Note}
use Rattle.std.specs.declared.cmp.Ordering.{Ordering}
use Rattle.std.specs.declared.cmp.Ordering.TheVariants.{Less, Equal, Greater}
use Rattle.edf_pace.specs.declared.notes.note_difference.NoteDifference.{NoteDifference}
use Rattle.edf_pace.specs.declared.notes.unequal.Unequal.{Unequal}
use Rattle.edf_verdict.specs.declared.verdict.AnnotationMismatch.{AnnotationMismatch}
use Rattle.edf_verdict.specs.declared.verdict.AnnotationMismatch.TheVariants.{Missing, Extra}
use Rattle.edf_pace.specs.Annotations.{IsFirstNote, SameNotes, note_cmp}

-- an annotation, and how it doesn't stand equally often in two lists
pub record NoteMismatch : Type 0 where
  pub mismatch : AnnotationMismatch
  pub note : NoteValue

-- what the code's values say
abbrev pub unequal_view : Unequal → NoteMismatch
unequal_view u = record { mismatch = u.mismatch; note = note_value u.note.now }

abbrev pub note_mismatch : NoteDifference → NoteMismatch
note_mismatch d = record { mismatch = d.mismatch; note = record { onset = d.onset; duration = d.duration; text = d.text } }

-- of two heads the one that is before the other stands in its own list alone; behind equal ones the rest decides
abbrev pub by_order : Ordering → NoteValue → NoteValue → Option NoteMismatch → Option NoteMismatch
by_order Less x y rest = Some (record { mismatch = Missing; note = x })
by_order Equal x y rest = rest
by_order Greater x y rest = Some (record { mismatch = Extra; note = y })

-- the first annotation that doesn't stand equally often in two lists in order
abbrev pub first_unequal_of : List NoteValue → List NoteValue → Option NoteMismatch
first_unequal_of [] [] = None
first_unequal_of [] (y ∷ ys) = Some (record { mismatch = Extra; note = y })
first_unequal_of (x ∷ xs) [] = Some (record { mismatch = Missing; note = x })
first_unequal_of (x ∷ xs) (y ∷ ys) = by_order (note_cmp x y) x y (first_unequal_of xs ys)

-- what was found is the first annotation that doesn't stand equally often in both
abbrev pub IsNoteDifference : List NoteValue → List NoteValue → Option NoteDifference → Type 0
IsNoteDifference kept exported found = MatchOption found (SameNotes kept exported) (λ d. IsFirstNote kept exported (note_mismatch d).mismatch (note_mismatch d).note)

abbrev pub IsFirstUnequal : List Note → List Note → Option Unequal → Type 0
IsFirstUnequal kept exported found = option_map unequal_view found ≡ first_unequal_of (map note_value kept) (map note_value exported)
