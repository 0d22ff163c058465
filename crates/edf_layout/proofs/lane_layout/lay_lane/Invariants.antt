use Rattle.std.proofs.Common.{List, map}
use Rattle.edf_stream.specs.Views.{note_value}
use Rattle.edf_tal.specs.Tals.{TalValue}
use Rattle.edf_tal.specs.Views.{items_left}
use Rattle.edf_layout.specs.body.LaidTals.{laid_view}
use Rattle.edf_layout.specs.body.LaneLayouts.{TalLayout, IsLaidLane}
use Rattle.edf_layout.proofs.lanes.LayLaneFacts.{Left}
use Rattle.edf_layout.proofs.lane_layout.lay_lane.Given as goal

abbrev pub invariant-loop-item : goal.invariant-loop-item
invariant-loop-item l = (tals : List TalValue) (layouts : List TalLayout) → IsLaidLane l.lane tals layouts
    → Left (map note_value l.notes) l.keeps_time tals layouts (map laid_view l.laid.items) l.rest (items_left l.item-iterator)
