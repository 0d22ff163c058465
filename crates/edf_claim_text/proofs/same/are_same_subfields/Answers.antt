use Rattle.std.proofs.Common.{rules, arith, ◌≡◌, length, get_or, ◌<◌}
use Rattle.edf_fields.specs.declared.fields.which.Which.TheVariants.{Code}
use Rattle.edf_claim.proofs.ForCallers.{same_more}
use Rattle.edf_claim_text.proofs.same.are_same_subfields.Goals as goal

pub loop-i-preserved : goal.loop-i-preserved
loop-i-preserved c =
    let inv = c.loop-i.invariant in
    let here : get_or c.args.whiches.now c.loop-i.i Code ≡ get_or c.args.others.now c.loop-i.i Code = search rules in
    let within : c.loop-i.i < length c.args.whiches.now = omega arith in
    let beside : c.loop-i.i < length c.args.others.now = omega (arith, inv.long) in
    record { long = inv.long; same = same_more c.args.whiches.now c.args.others.now c.loop-i.i Code Code within beside inv.same here }
