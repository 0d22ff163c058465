-- Annotations as the code holds them.
use Rattle.std.specs.Prelude.{ℕ, ℤ, List, Option}
use Rattle.edf_stream.specs.annotation.Notes.{NoteValue}
use Rattle.edf_layout.specs.declared.plain_tal.LaidNote.{LaidNote}

abbrev pub laid_note : LaidNote → NoteValue
laid_note note = record { onset = note.onset; duration = note.duration; text = note.text.now }

-- an annotation with this onset, this duration and this text
abbrev pub note_with : ℤ → Option ℤ → List ℕ → NoteValue
note_with onset duration text = record { onset = onset; duration = duration; text = text }
