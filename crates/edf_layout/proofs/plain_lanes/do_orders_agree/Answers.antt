use mir.Syntax.{w128}
use Rattle.std.proofs.Common.{rules, arith, sym, ◌∙◌}
use Rattle.std.proofs.lemmas.Int.{to_z-of_z}
use Rattle.edf_stream.specs.Views.{note_value}
use Rattle.edf_layout.proofs.lanes.AgreeFacts.{agree-more, agree-none}
use Rattle.edf_layout.proofs.plain_lanes.do_orders_agree.Goals as goal

pub loop-number-init : goal.loop-number-init
loop-number-init c = λ rest. rest

pub loop-number-preserved : goal.loop-number-preserved
loop-number-preserved c =
    let note = c.index-notes-number.result in
    let onset = sym (to_z-of_z w128 note.onset (search rules)) in
    λ rest. c.loop-number.invariant (agree-more c.args.starts.now c.loop-number.number c.args.notes.now note c.loop-number-test.true c.index-notes-number.is
    (sym (c.record_for-one_by_one.ensures.place (note_value note) onset) ∙ omega (arith, c.if-one_by_one-by_time.false) ∙ c.record_for-by_time.ensures.place (note_value note) onset) rest)

pub returns : goal.returns
returns c = λ yes. c.loop-number.invariant (agree-none c.args.starts.now c.loop-number.number c.loop-number.number c.args.notes.now (omega (arith, c.loop-number-test.false)))
