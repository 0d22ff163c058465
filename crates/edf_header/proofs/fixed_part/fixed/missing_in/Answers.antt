use Rattle.edf_header.proofs.fixed_part.FixedFacts.{missing-here, there-next}
use Rattle.edf_header.proofs.fixed_part.fixed.missing_in.Goals as goal

pub returns-then-len-from : goal.returns-then-len-from
returns-then-len-from c =
    missing-here c.args.fields.now c.loop-field.field-index c.extent-from.result.0 c.extent-from.result.1 c.args.len
    c.loop-field-test.true c.loop-field.invariant c.extent-from.ensures.from c.extent-from.ensures.count c.if-len-from.true

pub loop-field-preserved : goal.loop-field-preserved
loop-field-preserved c =
    there-next c.args.fields.now c.loop-field.field-index c.extent-from.result.0 c.extent-from.result.1 c.args.len
    c.loop-field-test.true c.loop-field.invariant c.extent-from.ensures.from c.extent-from.ensures.count c.if-len-from.false
