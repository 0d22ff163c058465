use Rattle.std.proofs.Common.{arith, ◌≤◌, length}
use Rattle.edf_fields.proofs.texts.DigitFacts.{below_power}
use Rattle.edf_fields.proofs.texts.number.unsigned_decimal.Goals as goal

pub in_units-requires-clause-whole : goal.in_units-requires-clause-whole
in_units-requires-clause-whole c =
    let short : length c.split_dot.result.0.now ≤ 8 = omega arith in
    below_power _ _ 8 c.in_ok-whole.ensures.2 short
