-- What `notes` writes of a file: its annotations, line by line.
use Rattle.std.specs.Prelude.{ℕ, zero, suc, List, [], ◌∷◌, ◌++◌, codes}
use Rattle.std.specs.List.{flat_map}
use Rattle.edf_header.specs.Faults.{header_fault}
use Rattle.edf_header.specs.Heads.{Head}
use Rattle.edf_header.specs.HeadsReading.{head_of}
use Rattle.edf_stream.specs.annotation.Notes.{NoteValue}
use Rattle.edf_stream.specs.annotation.NotesReading.{notes_in}
use Rattle.edf_stream.specs.records.Records.{record_at}
use Rattle.edf_stream.specs.Faults.{body_fault, records_before}
use Rattle.edf_verdict.specs.NoteTimes.{note_times}
use Rattle.edf_verdict.specs.Quotes.{with_quoted}
use Rattle.edf_report.specs.Reports.{text_or_fault}

-- an annotation: its onset after the start of the file, its duration and its text
unfoldable pub note_line : NoteValue → List ℕ
note_line note = with_quoted (note_times note.onset note.duration ++ codes " text ") note.text ++ (10 ∷ [])

-- several of them
abbrev pub note_lines : List NoteValue → List ℕ
note_lines notes = flat_map note_line notes

-- those of the first k data records
abbrev pub note_lines_before : List ℕ → Head → ℕ → List ℕ
note_lines_before file h zero = []
note_lines_before file h (suc k) = note_lines_before file h k ++ note_lines (notes_in h (record_at file h k))

-- behind the header: the annotations of all data records before the first fault, and then the line of that
-- fault, where there is one
unfoldable pub body_text : List ℕ → Head → List ℕ
body_text file h = note_lines_before file h (records_before h (body_fault file h)) ++ text_or_fault [] (body_fault file h)

-- the annotations of a file and the line of its first fault, where it has one; a fault of the header stands alone
unfoldable pub notes_text : List ℕ → List ℕ
notes_text file = text_or_fault (body_text file (head_of file)) (header_fault file)
