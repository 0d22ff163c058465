use Rattle.std.proofs.Common.{◌≡◌, ◌++◌}
use Rattle.edf_stream.specs.annotation.Keeping.{tal_notes_left}
use Rattle.edf_report.specs.NotesTexts.{note_lines}
use Rattle.edf_report.proofs.notes.push_lines.Given as goal

abbrev pub invariant-loop-note : goal.invariant-loop-note
invariant-loop-note l = l.text.items ++ note_lines (tal_notes_left l.note-iterator) ≡ (l.initial.text).items ++ note_lines (tal_notes_left (l.fn).annotations)
