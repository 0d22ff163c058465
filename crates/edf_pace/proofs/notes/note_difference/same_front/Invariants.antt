use Rattle.std.proofs.Common.{◌≡◌, map, take}
use Rattle.edf_stream.specs.Views.{note_value}
use Rattle.edf_pace.proofs.notes.note_difference.same_front.Given as goal

abbrev pub invariant-loop-i : goal.invariant-loop-i
invariant-loop-i l = map note_value (take l.i l.kept) ≡ map note_value (take l.i l.exported)
