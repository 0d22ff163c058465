use Rattle.std.proofs.Common.{rules}
use Rattle.std.proofs.lemmas.Int.{to_z-of_z}
use mir.Val.{SFits}
use mir.Syntax.{w128, w64}
use Rattle.edf_draft.proofs.shift.shift_by_days.Goals as goal

pub returns-in-Some : goal.returns-in-Some
returns-in-Some c =
    let a : SFits w128 c.args.begin = search rules in
    let b : SFits w128 c.args.end = search rules in
    let d : SFits w128 c.args.from = search rules in
    let e : SFits w128 c.args.to = search rules in
    let f : SFits w128 c.in-Some.days = search rules in
    let g : SFits w64 c.seconds_of_days.result = search rules in
    let within = simp to_z-of_z at c.in-Some.ensures.some in
    let seconds = simp to_z-of_z at c.seconds_of_days.ensures in
    simp to_z-of_z (c.in-Some.days, within, seconds)
