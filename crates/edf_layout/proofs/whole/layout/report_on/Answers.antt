use Rattle.std.proofs.Common.{◌≡◌, ◌∙◌, ◌++◌, List, length, map, refl, ap, sym}
use Rattle.std.specs.List.{flat_map}
use Rattle.std.proofs.lemmas.List.{length-map}
use Rattle.edf_layout.specs.HeadLayouts.{HeadLayout, layout_in}
use Rattle.edf_layout.specs.HeadReports.{places_of}
use Rattle.edf_layout.specs.HeadTexts.{head_lines}
use Rattle.edf_layout.specs.OddPlaces.{odd_places}
use Rattle.edf_layout.specs.body.FileLayouts.{lane_lines, order_line}
use Rattle.edf_layout.specs.body.PlainLanes.{order_view}
use Rattle.edf_layout.specs.whole.LaneRows.{odd_view}
use Rattle.edf_layout.specs.declared.whole.odd_lanes.OddLane.{OddLane}
use Rattle.edf_layout.proofs.lanes.ReportMadeFacts.{report-made}
use Rattle.edf_layout.proofs.whole.layout.report_on.Goals as goal

pub returns : goal.returns
returns c =
    let h = c.args.head.now.header in
    let front = c.args.head.now.front.items in
    let columns = c.args.head.now.columns.items in
    let l : HeadLayout = layout_in front (length h.signals) columns in
    let tail = order_line (order_view c.args.laid.now.order) ++ flat_map lane_lines (map odd_view c.args.laid.now.odd.items) in
    let one : layout_in c.deref-2.result.now (length c.signals.result.now) c.deref.result.now ≡ l =
    ap (λ f. layout_in f (length c.signals.result.now) c.deref.result.now) c.deref-2.ensures.value
    ∙ ap (λ s. layout_in front (length s) c.deref.result.now) c.signals.ensures.signals
    ∙ ap (λ xs. layout_in front (length h.signals) xs) c.deref.ensures.value in
    let two : layout_in c.deref-3.result.now (length c.signals.result.now) c.deref.result.now ≡ l =
    ap (λ f. layout_in f (length c.signals.result.now) c.deref.result.now) c.deref-3.ensures.value
    ∙ ap (λ s. layout_in front (length s) c.deref.result.now) c.signals.ensures.signals
    ∙ ap (λ xs. layout_in front (length h.signals) xs) c.deref.ensures.value in
    let lines : c.push_lines.new.text.items ≡ head_lines l ++ tail =
    c.in_ok-push_lines.ensures ∙ ap (λ t. t ++ (head_lines (layout_in c.deref-2.result.now (length c.signals.result.now) c.deref.result.now) ++ tail)) c.new-text.ensures.items
    ∙ ap (λ (k : HeadLayout). head_lines k ++ tail) one in
    let places : map (λ v. v.items) c.deref-4.result.now ≡ places_of l h =
    ap (map (λ v. v.items)) c.deref-4.ensures.value
    ∙ c.in_ok-push_odd_places.ensures
    ∙ ap (λ ps. map (λ v. v.items) ps ++ odd_places (layout_in c.deref-3.result.now (length c.signals.result.now) c.deref.result.now) h.patient.extras h.recording.extras) c.new-places.ensures.items
    ∙ ap (λ (k : HeadLayout). odd_places k h.patient.extras h.recording.extras) two in
    let odd : length c.deref-5.result.now ≡ length (map odd_view c.args.laid.now.odd.items) =
    ap (λ (xs : List OddLane). length xs) c.deref-5.ensures.value ∙ sym (length-map c.args.laid.now.odd.items odd_view) in
    report-made front columns h (order_view c.args.laid.now.order) (map odd_view c.args.laid.now.odd.items) l c.push_lines.new.text.items (map (λ v. v.items) c.deref-4.result.now)
    (length c.deref-5.result.now) (length c.deref-4.result.now) c.report_of.result refl lines places odd (sym (length-map c.deref-4.result.now (λ v. v.items)))
    c.report_of.ensures.text c.report_of.ensures.outcome
