use Rattle.std.proofs.Common.{◌≡◌, length}
use Rattle.edf_tal.specs.Views.{items_left}
use Rattle.edf_stream.specs.Views.{lane_notes_left}
use Rattle.edf_stream.proofs.annotation.annotations.LaneNotes.next_note.Given as goal

abbrev pub invariant-loop-note : goal.invariant-loop-note
invariant-loop-note l = lane_notes_left l.self ≡ lane_notes_left l.initial.self

abbrev pub decreases-loop-note : goal.decreases-loop-note
decreases-loop-note l = length (items_left (l.self).tals)
