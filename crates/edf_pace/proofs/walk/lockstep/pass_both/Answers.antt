use Rattle.std.proofs.Common.{refl}
use Rattle.edf_pace.proofs.walk.LockstepFacts.{fault_after, fault_of_heads}
use Rattle.edf_pace.proofs.walk.lockstep.pass_both.Goals as goal

pub returns-in-Ok-clause-fault : goal.returns-in-Ok-clause-fault
returns-in-Ok-clause-fault g c = λ ho he a b ato ate.
    let moved = rw c.in-Ok-None.field-0-is at c.in-Ok-None.ensures.moves in
    let fault = rw c.in-Ok-Some-pass.field-0-is at c.in-Ok-Some-pass.ensures.fault in
    let found = c.in-Ok.ensures.found (moved.honesty ho) a (moved.comes ho a ato).there in
    let left = g.O.Source.left c.export_fault.new.source in
    let g' = (c.args.export.now.reader).head in
    fault_of_heads a left b _ _ g' g' c.args.step.turn.part c.in-Ok.found moved.head refl (fault_after a _ left b g' c.args.step.turn.part c.in-Ok-Some-pass.fault c.in-Ok.found (fault he b ate) found.0 found.1)
