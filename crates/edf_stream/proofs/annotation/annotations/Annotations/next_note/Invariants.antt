use Rattle.std.proofs.Common.{◌≡◌, length}
use Rattle.edf_stream.specs.Views.{notes_left}
use Rattle.edf_stream.proofs.annotation.annotations.Annotations.next_note.Given as goal

abbrev pub invariant-loop-note : goal.invariant-loop-note
invariant-loop-note l = notes_left l.self ≡ notes_left l.initial.self

abbrev pub decreases-loop-note : goal.decreases-loop-note
decreases-loop-note l = length (l.self).places.now
