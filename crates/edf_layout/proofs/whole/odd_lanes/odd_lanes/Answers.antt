use Rattle.std.proofs.Common.{◌≡◌, ◌<◌, ◌≤◌, ◌-◌, ◌*◌, take, drop, ◌==◌, true, pos, ℤ, List, Vec, Global, length, get_or, map, arith, refl, sym, ap, ◌∙◌, subst, ◌++◌}
use Rattle.std.specs.List.{flat_map}
use Rattle.edf_stream.specs.Views.{note_value}
use Rattle.edf_stream.specs.declared.annotation.notes.Note.{Note}
use Rattle.edf_layout.specs.body.BodyLayouts.{RecordLayout}
use Rattle.edf_layout.specs.body.OddLanes.{odd_in, odd_lanes}
use Rattle.edf_layout.specs.body.PlainLanes.{order_view, lane_view}
use Rattle.edf_layout.specs.body.PlainOrders.{plain_record, filled, bare_record}
use Rattle.edf_layout.specs.declared.whole.kept_lane.KeptLane.{KeptLane}
use Rattle.edf_layout.specs.declared.whole.odd_lanes.OddLane.{OddLane}
use Rattle.edf_layout.specs.whole.FileBodies.{lanes_kept, notes_kept}
use Rattle.edf_layout.specs.whole.KeptLanes.{record_kept}
use Rattle.edf_layout.specs.whole.LaneRows.{HaveLaneLayouts, odd_view, plain_tals}
use Rattle.edf_layout.proofs.lanes.BestOrderFacts.{all-first}
use Rattle.edf_layout.proofs.lanes.OddRowFacts.{RowsLeft, plains_of, rows-step, rows-begun, no-rows, all-rows}
use Rattle.edf_layout.proofs.reading.KeptFacts.{rows-long, row-at}
use Rattle.edf_layout.proofs.whole.odd_lanes.odd_lanes.Goals as goal

pub returns-then-is_empty : goal.returns-then-is_empty
returns-then-is_empty c = λ layout h.
    let body = c.args.body.now in
    let sizes = c.args.sizes.now in
    all-first c.args.most (map odd_view c.new-odd.result.items) (odd_lanes (order_view c.args.order) (notes_kept body) sizes body.starts.items layout)
    (ap (map odd_view) c.new-odd.ensures.items
    ∙ no-rows (order_view c.args.order) (notes_kept body) sizes body.starts.items (length body.starts.items) (lanes_kept sizes body) layout
    (ap (λ (ss : List ℤ). length ss == 0) (sym c.deref-starts.ensures.value) ∙ sym c.is_empty.ensures ∙ c.if-is_empty.true)
    (rows-long sizes body.starts.items body.lanes.items c.requires.alike ∙ c.requires.alike) h)

pub loop-data_record-init : goal.loop-data_record-init
loop-data_record-init c = λ layout h.
    let body = c.args.body.now in
    let order = order_view c.args.order in
    let sizes = c.args.sizes.now in
    let rows = lanes_kept sizes body in
    let is = subst (λ (xs : List Note). map (lane_view (map note_value xs)) c.in_ok-plain.plain.items ≡ filled order body.starts.items (length sizes) 0 (map note_value xs) (flat_map (bare_record sizes) body.starts.items))
    c.deref.ensures.value
    (subst (λ (ss : List ℤ). map (lane_view (map note_value c.deref.result.now)) c.in_ok-plain.plain.items
    ≡ filled order ss (length sizes) 0 (map note_value c.deref.result.now) (flat_map (bare_record sizes) ss)) c.deref-starts.ensures.value c.in_ok-plain.ensures) in
    let plain = c.in_ok-plain.plain.items in
    let none : 0 ≡ 0 * length sizes = omega arith in
    subst (λ n. RowsLeft (notes_kept body) 0 rows (plains_of (notes_kept body) (length sizes) (length body.starts.items - 0) (drop n plain)) (map odd_view c.new-odd.result.items)
    (odd_lanes order (notes_kept body) sizes body.starts.items layout)) none
    (subst (λ (odd : List OddLane). RowsLeft (notes_kept body) 0 rows (plains_of (notes_kept body) (length sizes) (length body.starts.items - 0) plain) (map odd_view odd)
    (odd_lanes order (notes_kept body) sizes body.starts.items layout)) (sym c.new-odd.ensures.items)
    (rows-begun order (notes_kept body) sizes body.starts.items plain rows layout is h))

pub loop-data_record-preserved : goal.loop-data_record-preserved
loop-data_record-preserved c = λ layout h.
    let body = c.args.body.now in
    let sizes = c.args.sizes.now in
    let starts = body.starts.items in
    let k = c.loop-data_record.data_record in
    let zero : ℤ = pos 0 in
    let start : ℤ = get_or starts k zero in
    let row = c.lanes-item.result in
    let lanes = record_kept true start sizes row.items in
    let alike = c.requires.alike in
    let low : k < length body.lanes.items = subst (λ rows. k < length rows) c.deref-lanes-items.ensures.value c.loop-data_record-test.true in
    let there : row ≡ get_or body.lanes.items k row = subst (λ rows. row ≡ get_or rows k row) c.deref-lanes-items.ensures.value c.lanes-item.is in
    let long : length (lanes_kept sizes body) ≡ length body.lanes.items = rows-long sizes starts body.lanes.items alike in
    let near = c.requires.near k zero (omega (arith, low, alike)) in
    let put = subst (λ (xs : List Note). (layout' : RecordLayout) → HaveLaneLayouts (map note_value xs) 0 lanes layout'
    → map odd_view c.push_odd_in.new.odd.items ≡ map odd_view c.loop-data_record.odd.items
    ++ odd_in k 0 layout' (plain_record (map note_value xs) (map (plain_tals (map note_value xs)) c.lanes_in-here.result.now)))
    c.deref-in-loop-data_record-3.ensures.value
    (λ layout' has. c.in_ok-push_odd_in.ensures start sizes layout' near refl
    (subst (λ (ls : List KeptLane). HaveLaneLayouts (map note_value c.deref-in-loop-data_record-3.result.now) 0 (record_kept true start sizes ls) layout') (sym c.deref-in-loop-data_record.ensures.value) has)) in
    let here = c.lanes_in-here.ensures ∙ ap (λ ls. take (length sizes) (drop (k * length sizes) ls)) c.deref-in-loop-data_record-2.ensures.value in
    rows-step (notes_kept body) k (length sizes) (length starts) (lanes_kept sizes body) lanes c.in_ok-plain.plain.items c.lanes_in-here.result.now
    (map odd_view c.loop-data_record.odd.items) (map odd_view c.push_odd_in.new.odd.items)
    (odd_lanes (order_view c.args.order) (notes_kept body) sizes starts layout)
    (let z : k < length (lanes_kept sizes body) = omega (arith, low, long) in z) (long ∙ alike)
    (sym (row-at sizes starts body.lanes.items k zero row lanes low alike ∙ ap (λ (r : Vec KeptLane Global). record_kept true start sizes r.items) (sym there)))
    here put (c.loop-data_record.invariant layout h)

pub returns : goal.returns
returns c = λ layout h.
    let body = c.args.body.now in
    let sizes = c.args.sizes.now in
    let k = c.loop-data_record.data_record in
    let long : length (lanes_kept sizes body) ≡ length body.lanes.items = rows-long sizes body.starts.items body.lanes.items c.requires.alike in
    let least : length body.lanes.items ≤ k = subst (λ rows. length rows ≤ k) c.deref-lanes-items.ensures.value c.loop-data_record-test.false in
    let end : length (lanes_kept sizes body) ≤ k = omega (arith, long, least) in
    all-first c.args.most (map odd_view c.loop-data_record.odd.items) (odd_lanes (order_view c.args.order) (notes_kept body) sizes body.starts.items layout)
    (all-rows (notes_kept body) k (lanes_kept sizes body)
    (plains_of (notes_kept body) (length sizes) (length body.starts.items - k) (drop (k * length sizes) c.in_ok-plain.plain.items))
    (map odd_view c.loop-data_record.odd.items) (odd_lanes (order_view c.args.order) (notes_kept body) sizes body.starts.items layout) end (c.loop-data_record.invariant layout h))
