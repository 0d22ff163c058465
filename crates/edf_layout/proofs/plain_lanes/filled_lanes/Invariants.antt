use Rattle.std.proofs.Common.{◌≡◌, ◌*◌, length, drop, map}
use Rattle.std.specs.List.{flat_map}
use Rattle.edf_stream.specs.Views.{note_value}
use Rattle.edf_layout.specs.body.PlainLanes.{order_view, lane_view, AreFull}
use Rattle.edf_layout.specs.body.PlainOrders.{bare_record, filled}
use Rattle.edf_layout.proofs.plain_lanes.filled_lanes.Given as goal

abbrev pub invariant-loop-number : goal.invariant-loop-number
invariant-loop-number l = record {
  long : length l.lanes.items ≡ length l.sizes * length l.starts;
  full : AreFull l.lanes.items l.full.items;
  filled : filled (order_view l.order) l.starts (length l.sizes) l.number (map note_value (drop l.number l.notes)) (map (lane_view (map note_value l.notes)) l.lanes.items)
      ≡ filled (order_view l.order) l.starts (length l.sizes) 0 (map note_value l.notes) (flat_map (bare_record l.sizes) l.starts);
}
