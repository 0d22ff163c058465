use Rattle.std.proofs.Common.{◌≡◌, drop, map}
use Rattle.edf_stream.specs.Views.{note_value}
use Rattle.edf_pace.specs.notes.NoteOrder.{first_unequal_of}
use Rattle.edf_pace.proofs.notes.note_difference.first_unequal.Given as goal

abbrev pub invariant-loop-i : goal.invariant-loop-i
invariant-loop-i l = first_unequal_of (map note_value (drop l.i l.kept)) (map note_value (drop l.i l.exported)) ≡ first_unequal_of (map note_value l.kept) (map note_value l.exported)
