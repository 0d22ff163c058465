use mir.Syntax.{w128}
use mir.Val.{to_z, of_z}
use Rattle.std.proofs.Common.{◌≡◌, ◌==◌, ◌<◌, ◌^◌, length, unsigned_abs, rules, ap, ◌∙◌, sym, subst}
use Rattle.std.proofs.lemmas.Int.{to_z-of_z}
use Rattle.edf_stream.specs.Views.{note_value}
use Rattle.edf_layout.specs.body.PlainOrders.{lane_sizes}
use Rattle.edf_layout.proofs.lanes.BareLaneFacts.{none_noted}
use Rattle.edf_layout.proofs.reading.KeptFacts.{none-there, rows-added, one-added}
use Rattle.edf_layout.proofs.reading.RisingFacts.{start-near}
use Rattle.edf_layout.proofs.whole.file_body.FileBody.add.Goals as goal

pub returns-then-are_bare-clause-lanes : goal.returns-then-are_bare-clause-lanes
returns-then-are_bare-clause-lanes c =
    let body = c.args.self.now in
    one-added (lane_sizes (c.args.reader.now).head) body.starts.items c.push.new.self.items body.lanes.items c.push-2.new.self.items _ c.in_ok-lanes.lanes _
    c.requires.alike c.in_ok-push.ensures.items c.in_ok-push-2.ensures.items c.in_ok-lanes.ensures

pub returns-then-are_bare-clause-notes : goal.returns-then-are_bare-clause-notes
returns-then-are_bare-clause-notes c =
    let head = (c.args.reader.now).head in
    let bytes = (c.args.reader.now).current in
    let start = to_z w128 (of_z w128 c.start_ps-start.result) in
    let near : unsigned_abs start < 10 ^ 21 =
    subst (λ z. unsigned_abs z < 10 ^ 21) (sym (to_z-of_z w128 c.start_ps-start.result (search rules))) (subst (λ z. unsigned_abs z < 10 ^ 21) (sym c.start_ps-start.ensures.value) (start-near head bytes)) in
    let long : c.in_ok-lanes.lanes.len ≡ length c.in_ok-lanes.lanes.items = search rules in
    none_noted head bytes start (lane_sizes head) c.in_ok-lanes.lanes.items note_value (c.args.self.now).notes.items near
    (none-there c.in_ok-lanes.lanes.items (c.if-are_bare.ensures ∙ ap (λ n. n == 0) long)) c.in_ok-lanes.ensures

pub returns-clause-lanes : goal.returns-clause-lanes
returns-clause-lanes c =
    let body = c.args.self.now in
    rows-added c.push_notes.result (lane_sizes (c.args.reader.now).head) body.starts.items c.push.new.self.items body.lanes.items c.push-2.new.self.items _ c.in_ok-lanes.lanes _
    c.requires.alike c.in_ok-push.ensures.items c.in_ok-push-2.ensures.items c.in_ok-lanes.ensures
