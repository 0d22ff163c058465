use Rattle.std.proofs.Common.{arith, ◌≤◌, length}
use Rattle.std.proofs.lemmas.Int.{ints}
use Rattle.edf_fields.proofs.texts.DigitFacts.{below_power}
use Rattle.edf_fields.proofs.texts.number.whole_of_field.Goals as goal

pub returns-clause-small : goal.returns-clause-small
returns-clause-small c =
    let short : length c.in_ok-is_negative.rest.now ≤ length c.args.field.now = c.in_ok-is_negative.ensures.3 in
    let small = below_power _ _ (length c.args.field.now) c.in_ok-value.ensures.2 short in
    omega (arith, ints, small)
