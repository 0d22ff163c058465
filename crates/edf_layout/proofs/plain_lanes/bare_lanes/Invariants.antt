use Rattle.std.proofs.Common.{◌≡◌, ◌++◌, List, drop, map}
use Rattle.std.specs.List.{flat_map}
use Rattle.edf_stream.specs.annotation.Notes.{NoteValue}
use Rattle.edf_layout.specs.body.PlainLanes.{lane_view}
use Rattle.edf_layout.specs.body.PlainOrders.{bare_record}
use Rattle.edf_layout.proofs.plain_lanes.bare_lanes.Given as goal

abbrev pub invariant-loop-start : goal.invariant-loop-start
invariant-loop-start l = (notes : List NoteValue) →
    map (lane_view notes) l.lanes.items ++ flat_map (bare_record l.sizes) (drop l.start-index l.starts) ≡ flat_map (bare_record l.sizes) l.starts
