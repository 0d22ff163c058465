use Rattle.std.proofs.Common.{◌≡◌, ◌<◌, ◌≤◌, ◌==◌, ◌++◌, true, ℕ, List, Option, length, get_or, slice_get, map, arith, refl, sym, ap, ◌∙◌, subst}
use Rattle.std.specs.Option.{option_map_or}
use Rattle.edf_stream.specs.Views.{note_value}
use Rattle.edf_layout.specs.body.OddLanes.{odd_in}
use Rattle.edf_layout.specs.body.PlainOrders.{plain_record}
use Rattle.edf_layout.specs.whole.KeptLanes.{bare_bytes, own_bytes, record_kept}
use Rattle.edf_layout.specs.whole.LaneRows.{HasLaneLayout, odd_view, plain_tals, tals_at}
use Rattle.edf_layout.proofs.lanes.OddRowFacts.{lanes-step, all-lanes}
use Rattle.edf_layout.proofs.reading.KeptFacts.{record-long, lane-at, own-mapped}
use Rattle.edf_layout.proofs.whole.odd_lanes.push_odd_in.Goals as goal

pub loop-number-preserved : goal.loop-number-preserved
loop-number-preserved c = λ start sizes layout near count h.
    let notes = map note_value c.args.notes.now in
    let at = c.args.at in
    let kept = at.lanes.now in
    let j = c.loop-number.number in
    let lanes = record_kept true start sizes kept in
    let size = get_or sizes j 0 in
    let bare = bare_bytes (j == 0) start size in
    let lane : List ℕ = option_map_or (λ bytes. bytes) (own_bytes (slice_get kept j)) bare in
    let low : j < length sizes = (let less = c.loop-number-test.true in omega (arith, less, count)) in
    let long : length lanes ≡ length sizes = record-long true start sizes kept in
    let same : option_map_or (λ bytes. bytes.now) c.own_bytes.result bare ≡ lane =
    own-mapped (λ bytes. bytes.now) c.own_bytes.result bare ∙ ap (λ (o : Option (List ℕ)). option_map_or (λ bytes. bytes) o bare) c.own_bytes.ensures in
    lanes-step notes at.data_record j lanes lane c.args.plain.now (tals_at c.args.plain.now j) (map odd_view c.loop-number.odd.items) (map odd_view c.push_odd.new.odd.items)
    (map odd_view c.args.odd.now.items ++ odd_in at.data_record 0 layout (plain_record notes (map (plain_tals notes) c.args.plain.now)))
    (let z : j < length lanes = omega (arith, low, long) in z) (sym (lane-at start sizes kept j lane low)) refl
    (λ laid has. c.in_ok-push_odd.ensures start size laid near (subst (λ bytes. HasLaneLayout notes (j == 0) bytes laid) (sym same) has))
    (c.loop-number.invariant start sizes layout near count h)

pub returns : goal.returns
returns c = λ start sizes layout near count h.
    let notes = map note_value c.args.notes.now in
    let at = c.args.at in
    let j = c.loop-number.number in
    let lanes = record_kept true start sizes at.lanes.now in
    let long : length lanes ≡ length sizes = record-long true start sizes at.lanes.now in
    let end : length lanes ≤ j = (let least = c.loop-number-test.false in omega (arith, least, count, long)) in
    all-lanes notes at.data_record j lanes _ (map odd_view c.loop-number.odd.items) _ end (c.loop-number.invariant start sizes layout near count h)
