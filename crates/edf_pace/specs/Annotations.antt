-- How often annotations stand in two lists, and the first that doesn't stand equally often in both.
use Rattle.std.specs.Prelude.{◌≡◌, ℕ, ◌<◌, List, if◌then◌else◌}
use Rattle.std.specs.Cmp.Lexicographic.{slice_cmp}
use Rattle.std.specs.List.{sum_by}
use Rattle.std.specs.Option.{option_cmp}
use Rattle.std.specs.Ordering.{is_eq, int_cmp, nat_cmp, on, then_cmp}
use Rattle.std.specs.declared.cmp.Ordering.{Ordering}
use Rattle.std.specs.declared.cmp.Ordering.TheVariants.{Less}
use Rattle.edf_stream.specs.annotation.Notes.{NoteValue}
use Rattle.edf_verdict.specs.declared.verdict.AnnotationMismatch.{AnnotationMismatch}
use Rattle.edf_verdict.specs.declared.verdict.AnnotationMismatch.TheVariants.{Missing, Extra}

-- the order of annotations: by onset, then by duration, none before any, then by the bytes of the text
abbrev pub note_cmp : NoteValue → NoteValue → Ordering
note_cmp = then_cmp (on (λ (n : NoteValue). n.onset) int_cmp) (then_cmp (on (λ (n : NoteValue). n.duration) (option_cmp int_cmp)) (on (λ (n : NoteValue). n.text) (slice_cmp nat_cmp)))

-- how often an annotation stands in a list
abbrev pub times : List NoteValue → NoteValue → ℕ
times notes note = sum_by (λ other. if is_eq (note_cmp other note) then 1 else 0) notes

-- it stands more often among the kept ones (missing), or in the export (extra)
abbrev pub IsMore : AnnotationMismatch → ℕ → ℕ → Type 0
IsMore Missing kept exported = exported < kept
IsMore Extra kept exported = kept < exported

-- it doesn't stand equally often in both, and each one before it in order does
pub record IsFirstNote (kept exported : List NoteValue) (mismatch : AnnotationMismatch) (note : NoteValue) : Type 0 where
  pub differ : IsMore mismatch (times kept note) (times exported note)
  pub least : (other : NoteValue) → note_cmp other note ≡ Less → times kept other ≡ times exported other

-- each annotation stands equally often in both
abbrev pub SameNotes : List NoteValue → List NoteValue → Type 0
SameNotes kept exported = (note : NoteValue) → times kept note ≡ times exported note
