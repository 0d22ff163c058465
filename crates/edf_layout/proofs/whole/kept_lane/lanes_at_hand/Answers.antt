use mir.Syntax.{w128}
use mir.Val.{to_z, of_z}
use Rattle.std.proofs.Common.{◌≡◌, ◌+◌, ◌*◌, ◌<◌, ◌^◌, true, List, length, unsigned_abs, rules, sym, ap, ◌∙◌, subst}
use Rattle.std.specs.Global.{Vec}
use Rattle.std.proofs.lemmas.Int.{to_z-of_z}
use Rattle.edf_header.specs.Heads.{Head, SignalHead}
use Rattle.edf_stream.specs.records.Records.{lane_of, annotation_lanes}
use Rattle.edf_stream.specs.records.RecordsReading.{numbered_lane}
use Rattle.edf_layout.specs.body.PlainOrders.{lane_sizes}
use Rattle.edf_layout.specs.whole.KeptLanes.{record_kept}
use Rattle.edf_layout.specs.declared.whole.kept_lane.KeptLane.{KeptLane}
use Rattle.edf_layout.proofs.reading.KeptFacts.{KeptOf, sizes-among, none-kept, kept-more, kept-same, kept-all, lane-there, samples-there}
use Rattle.edf_layout.proofs.reading.RisingFacts.{start-near}
use Rattle.edf_layout.proofs.whole.kept_lane.lanes_at_hand.Goals.{then-is_annotations+in_ok-keep_lane, else-is_annotations}
use Rattle.edf_layout.proofs.whole.kept_lane.lanes_at_hand.Goals as goal

pub loop-number-init : goal.loop-number-init
loop-number-init c = none-kept c.signals-signals.result.now (c.args.reader.now).current (to_z w128 (of_z w128 c.args.start)) c.new-lanes.result.items c.new-lanes.ensures.items

pub keep_lane-requires-clause-near : goal.keep_lane-requires-clause-near
keep_lane-requires-clause-near c =
    subst (λ z. unsigned_abs z < 10 ^ 21) (sym (to_z-of_z w128 c.args.start (search rules)))
    (subst (λ z. unsigned_abs z < 10 ^ 21) (sym c.requires.start) (start-near ((c.args.reader.now).head) (c.args.reader.now).current))

pub loop-number-preserved : goal.loop-number-preserved
loop-number-preserved c =
    let signals = c.signals-signals.result.now in
    let bytes = (c.args.reader.now).current in
    let start = to_z w128 (of_z w128 c.args.start) in
    let k = c.loop-number.number in
    let x = c.index-signals-number.result in
    let kept = c.loop-number.lanes.items in
    elim c.if-is_annotations.branch [
      | then-is_annotations+in_ok-keep_lane w ↦
          let these : signals ≡ ((c.args.reader.now).head).signals = c.signals-signals.ensures.signals ∙ ap (λ (h : Head). h.signals) c.header.ensures in
          let there : w.run.result.now ≡ lane_of x bytes =
          w.run.ensures.lane ∙ ap (λ xs. numbered_lane xs bytes k) (sym these) ∙ lane-there signals bytes k x c.loop-number-test.true c.index-signals-number.is in
          let long : length w.run.result.now ≡ 2 * x.samples = w.run.ensures.full ∙ samples-there ((c.args.reader.now).head) signals k x these c.loop-number-test.true c.index-signals-number.is in
          subst (λ (lanes : Vec KeptLane). KeptOf signals bytes start (k + 1) c.if-is_annotations.count lanes.items) (sym w.lanes-is)
          (kept-more signals bytes start k c.loop-number.count c.if-is_annotations.count x w.run.result.now kept w.keep_lane.new.lanes.items c.loop-number-test.true c.index-signals-number.is
          (sym c.is_annotations.ensures ∙ w.if-is_annotations.true) w.count-is there long w.in_ok-keep_lane.ensures.few w.in_ok-keep_lane.ensures.kept c.loop-number.invariant)
      | else-is_annotations w ↦
          subst (λ (lanes : Vec KeptLane). KeptOf signals bytes start (k + 1) c.if-is_annotations.count lanes.items) (sym w.lanes-is)
          (subst (λ n. KeptOf signals bytes start (k + 1) n kept) (sym w.count-is)
          (kept-same signals bytes start k c.loop-number.count x kept c.loop-number-test.true c.index-signals-number.is (sym c.is_annotations.ensures ∙ w.if-is_annotations.false) c.loop-number.invariant))
    ]

pub returns : goal.returns
returns c =
    let head = (c.args.reader.now).head in
    let bytes = (c.args.reader.now).current in
    let kept = c.loop-number.lanes.items in
    let start = to_z w128 (of_z w128 c.args.start) in
    let these : c.signals-signals.result.now ≡ head.signals = c.signals-signals.ensures.signals ∙ ap (λ (h : Head). h.signals) c.header.ensures in
    subst (λ z. record_kept true z (lane_sizes head) kept ≡ annotation_lanes head.signals bytes) (to_z-of_z w128 c.args.start (search rules))
    (subst (λ (xs : List SignalHead). record_kept true start (sizes-among xs) kept ≡ annotation_lanes xs bytes) these
    (kept-all c.signals-signals.result.now bytes start c.loop-number.number c.loop-number.count kept c.loop-number-test.false c.loop-number.invariant))
