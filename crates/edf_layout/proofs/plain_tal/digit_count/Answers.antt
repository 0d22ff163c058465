use Rattle.std.proofs.Common.{rules, ◌+◌, ◌/◌, refl}
use Rattle.edf_layout.proofs.lanes.StartBytesFacts.{one-counted, all-counted}
use Rattle.edf_layout.proofs.plain_tal.digit_count.Goals as goal

pub loop-rest-preserved : goal.loop-rest-preserved
loop-rest-preserved c =
    one-counted c.args.number c.loop-rest.count c.loop-rest.rest (c.loop-rest.count + 1) (c.loop-rest.rest / 10) (search rules) (search rules)
    c.loop-rest-test.true refl refl c.loop-rest.invariant

pub returns-clause-count : goal.returns-clause-count
returns-clause-count c = all-counted c.args.number c.loop-rest.count c.loop-rest.rest c.loop-rest-test.false c.loop-rest.invariant
