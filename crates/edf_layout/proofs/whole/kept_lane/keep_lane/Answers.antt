use mir.Syntax.{w128}
use Rattle.std.proofs.Common.{rules, ◌==◌, subst, ℤ}
use Rattle.std.proofs.lemmas.Int.{to_z-of_z}
use Rattle.edf_layout.specs.whole.KeptLanes.{IsBare}
use Rattle.edf_layout.proofs.reading.KeptFacts.{bare-kept, own-kept}
use Rattle.edf_layout.proofs.whole.kept_lane.keep_lane.Goals as goal

pub returns-then-is_bare-clause-kept : goal.returns-then-is_bare-clause-kept
returns-then-is_bare-clause-kept c = λ sizes long.
    bare-kept c.args.number c.args.start sizes c.args.lane.now c.args.lanes.now.items long c.requires.few
    (subst (λ (z : ℤ). IsBare (c.args.number == 0) z c.args.lane.now) (to_z-of_z w128 c.args.start (search rules)) (c.is_bare.ensures.0 c.if-is_bare.true))

pub returns-clause-kept : goal.returns-clause-kept
returns-clause-kept c = λ sizes long.
    own-kept c.args.number c.args.start sizes c.args.lane.now c.in_ok-from_slice.field-0 c.args.lanes.now.items c.push_bare.new.lanes.items c.push.new.self.items long
    c.in_ok-push_bare.ensures.count c.in_ok-push.ensures.items c.in_ok-from_slice.ensures.items (c.in_ok-push_bare.ensures.same c.args.start sizes long)
