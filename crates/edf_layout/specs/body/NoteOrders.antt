-- One order of annotations (this project's profile), and the place of an annotation in it.
use Rattle.std.specs.Prelude.{ℕ, List, if◌then◌else◌}
use Rattle.std.specs.Cmp.Lexicographic.{slice_cmp}
use Rattle.std.specs.List.{sum_by}
use Rattle.std.specs.Option.{option_cmp}
use Rattle.std.specs.Ordering.{is_lt, int_cmp, nat_cmp, on, then_cmp}
use Rattle.std.specs.declared.cmp.Ordering.{Ordering}
use Rattle.edf_stream.specs.annotation.Notes.{NoteValue}

-- by onset, then by duration, none before any, then by the bytes of the text
abbrev pub note_cmp : NoteValue → NoteValue → Ordering
note_cmp =
    then_cmp (on (λ (n : NoteValue). n.onset) int_cmp)
    (then_cmp (on (λ (n : NoteValue). n.duration) (option_cmp int_cmp))
    (on (λ (n : NoteValue). n.text) (slice_cmp nat_cmp)))

-- how many of these annotations come before one: its place when they are put in order, and of equal ones the
-- first place
abbrev pub place_of : List NoteValue → NoteValue → ℕ
place_of notes note = sum_by (λ other. if is_lt (note_cmp other note) then 1 else 0) notes
