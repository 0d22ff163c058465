-- Which annotations are given away while a data record is judged.
use Rattle.std.specs.Prelude.{ℕ, zero, suc, List, drop, Some}
use Rattle.edf_stream.specs.annotation.Notes.{NoteValue}
use Rattle.edf_stream.specs.Views.{notes_of_said}
use Rattle.edf_stream.specs.declared.annotation.note.TalNotes.{TalNotes}

-- the annotations of a TAL that are still to come
abbrev pub tal_notes_left : TalNotes → List NoteValue
tal_notes_left notes = notes_of_said (Some notes)

-- what remains of a data record's texts, behind so many others of it, without its first one, which only keeps the time
abbrev pub behind_time : ℕ → List NoteValue → List NoteValue
behind_time zero notes = drop 1 notes
behind_time (suc n) notes = notes
