use Rattle.std.proofs.Common.{arith, rules, ◌<◌, ◌≤◌, get_or, length, below_more}
use Rattle.edf_fields.proofs.texts.DigitFacts.{weight-take, one_digit_more, fits_18}
use Rattle.edf_fields.proofs.texts.number.digits.Goals as goal

pub overflow_mul-value : goal.overflow_mul-value
overflow_mul-value c = record { fits = omega (arith, fits_18 c.loop-byte.value c.loop-byte.byte-index 0 c.loop-byte.invariant.small (omega arith) (omega arith)) }

pub overflow_add-value : goal.overflow_add-value
overflow_add-value c =
    let digit : (48 ≤ get_or c.args.bytes.now c.loop-byte.byte-index 0) × (get_or c.args.bytes.now c.loop-byte.byte-index 0 ≤ 57) = search rules in
    record { fits = fits_18 c.loop-byte.value c.loop-byte.byte-index c.from.result c.loop-byte.invariant.small (omega arith) (omega arith) }

pub loop-byte-preserved : goal.loop-byte-preserved
loop-byte-preserved c =
    let digit : (48 ≤ get_or c.args.bytes.now c.loop-byte.byte-index 0) × (get_or c.args.bytes.now c.loop-byte.byte-index 0 ≤ 57) = search rules in
    let low : c.loop-byte.byte-index < length c.args.bytes.now = omega arith in
    record {
      digits = below_more _ _ c.loop-byte.invariant.digits digit;
      value = omega (arith, c.loop-byte.invariant.value, weight-take c.args.bytes.now c.loop-byte.byte-index low, c.from.ensures);
      small = one_digit_more _ _ _ c.loop-byte.invariant.small (omega arith);
    }
