use mir.Syntax.{w128}
use Rattle.std.proofs.Common.{rules, ◌∙◌, ap, sym}
use Rattle.std.proofs.lemmas.Int.{to_z-of_z}
use Rattle.edf_layout.specs.body.PlainLanes.{order_view}
use Rattle.edf_layout.specs.body.PlainOrders.{record_for, record_of_onset}
use Rattle.edf_layout.specs.declared.plain_lanes.Order.{Order}
use Rattle.edf_layout.proofs.plain_lanes.record_for.Goals as goal

pub returns-in-ByTime-clause-place : goal.returns-in-ByTime-clause-place
returns-in-ByTime-clause-place c = λ note is.
    (rw (to_z-of_z w128 c.args.onset (search rules)) at c.record_of_onset.ensures.place) ∙ ap (record_of_onset c.args.starts.now) (sym is)
    ∙ ap (λ (o : Order). record_for (order_view o) c.args.starts.now c.args.number note) (sym c.in-ByTime.is)
