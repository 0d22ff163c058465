use Rattle.std.proofs.Common.{◌-◌, length}
use Rattle.edf_layout.proofs.lanes.RoomSearchFacts.{AreLooked}
use Rattle.edf_layout.proofs.plain_lanes.room_or.Given as goal

abbrev pub invariant-loop-at : goal.invariant-loop-at
invariant-loop-at l = AreLooked l.lanes l.full l.need l.from l.to l.at (length l.initial.full)

abbrev pub decreases-loop-at : goal.decreases-loop-at
decreases-loop-at l = l.to - l.at
