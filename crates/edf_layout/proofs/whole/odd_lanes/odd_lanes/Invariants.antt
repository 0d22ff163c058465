use Rattle.std.proofs.Common.{◌-◌, ◌*◌, drop, map, length}
use Rattle.edf_layout.specs.body.BodyLayouts.{BodyLayout}
use Rattle.edf_layout.specs.body.OddLanes.{odd_lanes}
use Rattle.edf_layout.specs.body.PlainLanes.{order_view}
use Rattle.edf_layout.specs.whole.FileBodies.{lanes_kept, notes_kept}
use Rattle.edf_layout.specs.whole.LaneRows.{HaveRowLayouts, odd_view}
use Rattle.edf_layout.proofs.lanes.OddRowFacts.{RowsLeft, plains_of}
use Rattle.edf_layout.proofs.whole.odd_lanes.odd_lanes.Given as goal

abbrev pub invariant-loop-data_record : goal.invariant-loop-data_record
invariant-loop-data_record l = (layout : BodyLayout) → HaveRowLayouts (notes_kept l.body) (lanes_kept l.sizes l.body) layout
    → RowsLeft (notes_kept l.body) l.data_record (drop l.data_record (lanes_kept l.sizes l.body))
    (plains_of (notes_kept l.body) (length l.sizes) (length l.body.starts.items - l.data_record) (drop (l.data_record * length l.sizes) l.plain.items)) (map odd_view l.odd.items)
    (odd_lanes (order_view l.fn.order) (notes_kept l.body) l.sizes l.body.starts.items layout)
