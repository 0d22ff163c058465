use mir.Syntax.{w128}
use Rattle.std.proofs.Common.{rules, ◌*◌, length, map, ap, ◌∙◌, sym, subst}
use Rattle.std.proofs.Math.Nat.{mul_comm}
use Rattle.std.proofs.lemmas.Int.{to_z-of_z}
use Rattle.std.proofs.lemmas.List.{length-map}
use Rattle.edf_stream.specs.Views.{note_value}
use Rattle.edf_stream.specs.annotation.Notes.{NoteValue}
use Rattle.edf_layout.specs.body.PlainLanes.{order_view, lane_view, AreFull}
use Rattle.edf_layout.specs.body.PlainOrders.{filled, tal_bytes, tal_of_note}
use Rattle.edf_layout.proofs.body.RoomFacts.{bodies-long}
use Rattle.edf_layout.proofs.lanes.PlainLaneFacts.{kept-whole, one-more}
use Rattle.edf_layout.proofs.lanes.RoomSearchFacts.{none-known, full-as}
use Rattle.edf_layout.proofs.plain_lanes.filled_lanes.Goals as goal

pub loop-number-init : goal.loop-number-init
loop-number-init c =
    let all = map note_value c.args.notes.now in
    let is = c.in_ok-lanes.ensures all in
    record {
      long = sym (length-map c.in_ok-lanes.lanes.items (lane_view all)) ∙ ap length is ∙ bodies-long c.args.sizes.now c.args.starts.now ∙ mul_comm (length c.args.starts.now) (length c.args.sizes.now);
      full = none-known c.in_ok-lanes.lanes.items c.in_ok-full.full.items c.len.result (search rules) c.in_ok-full.ensures.long c.in_ok-full.ensures.none;
      filled = ap (filled (order_view c.args.order) c.args.starts.now (length c.args.sizes.now) 0 all) is;
    }

pub loop-number-preserved : goal.loop-number-preserved
loop-number-preserved c =
    let before = c.loop-number.invariant in
    let note = c.index-notes-number.result in
    let same = c.laid-note.ensures in
    let more = one-more (order_view c.args.order) c.args.starts.now (length c.args.sizes.now) c.loop-number.number c.in_ok-need.need (length c.args.sizes.now * c.record_for.result) c.loop-number.lanes.len
    c.args.notes.now note c.loop-number.lanes.items c.deref_mut.result.now c.put_from.new.lanes
    c.loop-number-test.true c.index-notes-number.is c.deref_mut.ensures.value c.deref_mut.ensures.len c.in_ok-put_from.ensures.size
    (c.in_ok-need.ensures ∙ ap (λ (n : NoteValue). tal_bytes (tal_of_note n)) same)
    (ap (λ r. length c.args.sizes.now * r) (c.record_for.ensures.place (note_value note) (rw (to_z-of_z w128 c.laid-note.result.onset (search rules)) (ap (λ (n : NoteValue). n.onset) (sym same)))))
    c.in_ok-put_from.ensures.filled in
    let lanes = kept-whole c.put_from.new.lanes c.loop-number.lanes.items c.loop-number.lanes.len (c.in_ok-put_from.ensures.size ∙ ap length c.deref_mut.ensures.value)
    (sym c.deref_mut.ensures.len ∙ ap length c.deref_mut.ensures.value) in
    let known = kept-whole c.put_from.new.full c.loop-number.full.items c.loop-number.full.len (c.in_ok-put_from.ensures.long ∙ ap length c.deref_mut-in-loop-number.ensures.value)
    (sym c.deref_mut-in-loop-number.ensures.len ∙ ap length c.deref_mut-in-loop-number.ensures.value) in
    record { long = more.long ∙ before.long; full = full-as c.put_from.new.lanes _ c.put_from.new.full _ lanes known c.in_ok-put_from.ensures.full; filled = more.filled ∙ before.filled }

pub put_from-requires-clause-full : goal.put_from-requires-clause-full
put_from-requires-clause-full c =
    subst (λ ls. AreFull ls c.deref_mut-in-loop-number.result.now) (sym c.deref_mut.ensures.value)
    (subst (λ fs. AreFull c.loop-number.lanes.items fs) (sym c.deref_mut-in-loop-number.ensures.value) c.loop-number.invariant.full)
