use Rattle.std.proofs.Common.{◌≡◌, ◌++◌, List, drop, map}
use Rattle.edf_stream.specs.annotation.Notes.{NoteValue}
use Rattle.edf_layout.specs.body.PlainLanes.{lane_view}
use Rattle.edf_layout.specs.body.PlainOrders.{bare_lane}
use Rattle.edf_layout.proofs.plain_lanes.push_empty.Given as goal

abbrev pub invariant-loop-size : goal.invariant-loop-size
invariant-loop-size l = (notes : List NoteValue) →
    map (lane_view notes) l.lanes.items ++ map bare_lane (drop l.size-index l.sizes) ≡ map (lane_view notes) l.initial.lanes.items ++ map bare_lane l.sizes
