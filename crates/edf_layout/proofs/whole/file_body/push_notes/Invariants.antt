use Rattle.std.proofs.Common.{◌≡◌, ◌++◌, map}
use Rattle.edf_stream.specs.Views.{note_value, notes_left}
use Rattle.edf_layout.proofs.whole.file_body.push_notes.Given as goal

abbrev pub invariant-loop-note : goal.invariant-loop-note
invariant-loop-note l =
    map note_value l.notes.items ++ notes_left l.note-iterator
    ≡ map note_value (l.initial.notes).items ++ notes_left (l.fn).annotations
