use Rattle.std.proofs.Common.{◌≡◌, ◌++◌, map}
use Rattle.std.specs.List.{All}
use Rattle.edf_stream.specs.annotation.Notes.{moved_by}
use Rattle.edf_stream.specs.Views.{note_value, notes_left, IsNear}
use Rattle.edf_stream.proofs.annotation.notes.push_notes.Given as goal

abbrev pub invariant-loop-note : goal.invariant-loop-note
invariant-loop-note l = record {
  value : map note_value l.notes.items ++ map (moved_by l.start_ps) (notes_left l.note-iterator)
      ≡ map note_value (l.initial.notes).items ++ map (moved_by l.start_ps) (notes_left (l.fn).annotations);
  near : All IsNear l.notes.items;
}
