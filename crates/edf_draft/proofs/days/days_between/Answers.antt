use Rattle.std.proofs.Common.{rules, arith, ◌≤ℤ◌, ◌<ℤ◌, ◌-ℤ◌, ◌*ℤ◌, pos}
use Rattle.std.proofs.lemmas.Int.{ints, to_z-of_z}
use mir.Val.{SFits}
use mir.Syntax.{w128}
use Rattle.edf_draft.proofs.DayFacts.{never_within, within_then}
use Rattle.edf_draft.proofs.days.days_between.Goals as goal

pub returns-then-moved_back-end-clause-some : goal.returns-then-moved_back-end-clause-some
returns-then-moved_back-end-clause-some c =
    let a : SFits w128 c.args.begin = search rules in
    let b : SFits w128 c.args.end = search rules in
    let d : SFits w128 c.args.from = search rules in
    let e : SFits w128 c.args.to = search rules in
    let f : SFits w128 c.days_from-days.result = search rules in
    let h : SFits w128 c.moved_back.result = search rules in
    let days = simp to_z-of_z at c.days_from-days.ensures.days in
    let moved = simp to_z-of_z at c.moved_back.ensures in
    let test = simp to_z-of_z at c.if-moved_back-end.true in
    let ends : (c.args.to -ℤ (c.days_from-days.result *ℤ pos 86400000000000000)) ≤ℤ c.args.end = omega (arith, ints, moved, test) in
    simp to_z-of_z (within_then c.args.begin c.args.end c.args.from c.args.to c.days_from-days.result days ends)

pub returns-else-moved_back-end-clause-none : goal.returns-else-moved_back-end-clause-none
returns-else-moved_back-end-clause-none c = λ other lies.
    let a : SFits w128 c.args.begin = search rules in
    let b : SFits w128 c.args.end = search rules in
    let d : SFits w128 c.args.from = search rules in
    let e : SFits w128 c.args.to = search rules in
    let f : SFits w128 c.days_from-days.result = search rules in
    let h : SFits w128 c.moved_back.result = search rules in
    let days = simp to_z-of_z at c.days_from-days.ensures.days in
    let moved = simp to_z-of_z at c.moved_back.ensures in
    let test = simp to_z-of_z at c.if-moved_back-end.false in
    let ends : c.args.end <ℤ (c.args.to -ℤ (c.days_from-days.result *ℤ pos 86400000000000000)) = omega (arith, ints, moved, test) in
    never_within c.args.begin c.args.end c.args.from c.args.to c.days_from-days.result other days ends lies
