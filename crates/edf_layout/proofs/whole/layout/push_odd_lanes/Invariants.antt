use Rattle.std.proofs.Common.{◌≡◌, ◌++◌, drop, map}
use Rattle.std.specs.List.{flat_map}
use Rattle.edf_layout.specs.body.FileLayouts.{lane_lines}
use Rattle.edf_layout.specs.whole.LaneRows.{odd_view}
use Rattle.edf_layout.proofs.whole.layout.push_odd_lanes.Given as goal

abbrev pub invariant-loop-lane : goal.invariant-loop-lane
invariant-loop-lane l = l.text.items ++ flat_map lane_lines (map odd_view (drop l.lane-index l.odd)) ≡ l.initial.text.items ++ flat_map lane_lines (map odd_view l.odd)
