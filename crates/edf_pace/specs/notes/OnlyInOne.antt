-- All annotations that don't stand equally often in two lists in order, and their places in these.
use Rattle.std.specs.Prelude.{◌≡◌, ℕ, List, [], ◌∷◌, ◌++◌, map, filter, drop, Bool, true, false, Option, Some, None, slice_get}
use Rattle.edf_pace.specs.Words.{Note, NoteValue, note_value}
use Rattle.std.specs.declared.cmp.Ordering.{Ordering}
use Rattle.std.specs.declared.cmp.Ordering.TheVariants.{Less, Equal, Greater}
use Rattle.edf_pace.specs.declared.notes.only_in_one.OnlyInOne.{OnlyInOne}
use Rattle.edf_verdict.specs.declared.verdict.AnnotationMismatch.{AnnotationMismatch}
use Rattle.edf_verdict.specs.declared.verdict.AnnotationMismatch.TheVariants.{Missing, Extra}
use Rattle.edf_pace.specs.Annotations.{note_cmp}
use Rattle.edf_pace.specs.notes.NoteOrder.{NoteMismatch}

-- an annotation that stands among the kept ones alone; one that stands in the export alone
abbrev pub missing_note : NoteValue → NoteMismatch
missing_note x = record { mismatch = Missing; note = x }

abbrev pub extra_note : NoteValue → NoteMismatch
extra_note y = record { mismatch = Extra; note = y }

-- one of three, by an order
abbrev pub by_cmp : {A : Type 0} → Ordering → A → A → A → A
by_cmp Less a b c = a
by_cmp Equal a b c = b
by_cmp Greater a b c = c

-- all of two lists in order that don't stand equally often in both, read from the left
unfoldable pub unequals_of : List NoteValue → List NoteValue → List NoteMismatch
unequals_of [] ys = map extra_note ys
unequals_of (x ∷ xs) [] = map missing_note (x ∷ xs)
unequals_of (x ∷ xs) (y ∷ ys) =
    by_cmp (note_cmp x y) (missing_note x ∷ unequals_of xs (y ∷ ys)) (unequals_of xs ys) (extra_note y ∷ unequals_of (x ∷ xs) ys)

-- the first of them
abbrev pub first_note : List NoteMismatch → Option NoteMismatch
first_note [] = None
first_note (d ∷ ds) = Some d

abbrev pub is_missing : AnnotationMismatch → Bool
is_missing Missing = true
is_missing Extra = false

abbrev pub is_extra : AnnotationMismatch → Bool
is_extra Missing = false
is_extra Extra = true

-- what the annotation at a place says
abbrev pub said_at : List Note → ℕ → Option NoteValue
said_at notes place = slice_get (map note_value notes) place

-- what those say that are such a mismatch
abbrev pub said_of : (AnnotationMismatch → Bool) → List NoteMismatch → List (Option NoteValue)
said_of is ds = map (λ (d : NoteMismatch). Some d.note) (filter (λ (d : NoteMismatch). is d.mismatch) ds)

-- what all annotations say from a place on
abbrev pub rest_from : List Note → ℕ → List (Option NoteValue)
rest_from notes from = map Some (map note_value (drop from notes))

-- these places are those of the annotations that are missing and that are extra
pub record ArePlacesOf (kept exported : List Note) (found : OnlyInOne) (ds : List NoteMismatch) : Type 0 where
  pub missing : map (said_at kept) found.missing.items ≡ said_of is_missing ds
  pub extra : map (said_at exported) found.extra.items ≡ said_of is_extra ds

-- these places are those of all annotations that don't stand equally often in both
abbrev pub AreOnlyInOne : List Note → List Note → OnlyInOne → Type 0
AreOnlyInOne kept exported found = ArePlacesOf kept exported found (unequals_of (map note_value kept) (map note_value exported))

-- those before the first i of one list and before the first j of another were found
pub record AreFoundTo (kept exported : List Note) (found : OnlyInOne) (i j : ℕ) : Type 0 where
  pub ds : List NoteMismatch
  pub places : ArePlacesOf kept exported found ds
  pub rest : ds ++ unequals_of (map note_value (drop i kept)) (map note_value (drop j exported)) ≡ unequals_of (map note_value kept) (map note_value exported)
