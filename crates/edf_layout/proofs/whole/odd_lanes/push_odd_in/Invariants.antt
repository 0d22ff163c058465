use Rattle.std.proofs.Common.{◌≡◌, ◌++◌, ◌<◌, ◌^◌, true, ℕ, ℤ, List, length, unsigned_abs, drop, map}
use Rattle.edf_stream.specs.Views.{note_value}
use Rattle.edf_layout.specs.body.BodyLayouts.{RecordLayout}
use Rattle.edf_layout.specs.body.OddLanes.{odd_in}
use Rattle.edf_layout.specs.body.PlainOrders.{plain_record}
use Rattle.edf_layout.specs.whole.KeptLanes.{record_kept}
use Rattle.edf_layout.specs.whole.LaneRows.{HaveLaneLayouts, plain_tals, odd_view}
use Rattle.edf_layout.proofs.lanes.OddRowFacts.{LanesLeft}
use Rattle.edf_layout.proofs.whole.odd_lanes.push_odd_in.Given as goal

abbrev pub invariant-loop-number : goal.invariant-loop-number
invariant-loop-number l = (start : ℤ) (sizes : List ℕ) (layout : RecordLayout) → unsigned_abs start < 10 ^ 21 → length sizes ≡ l.fn.at.count
    → HaveLaneLayouts (map note_value l.notes) 0 (record_kept true start sizes l.fn.at.lanes.now) layout
    → LanesLeft (map note_value l.notes) l.fn.at.data_record l.number (drop l.number (record_kept true start sizes l.fn.at.lanes.now))
    (drop l.number (plain_record (map note_value l.notes) (map (plain_tals (map note_value l.notes)) l.plain))) (map odd_view l.odd.items)
    (map odd_view l.initial.odd.items ++ odd_in l.fn.at.data_record 0 layout (plain_record (map note_value l.notes) (map (plain_tals (map note_value l.notes)) l.plain)))
