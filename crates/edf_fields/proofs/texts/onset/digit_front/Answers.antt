use Rattle.std.proofs.Common.{arith, rules, ◌<◌, ◌≤◌, get_or, length, below_more}
use Rattle.edf_fields.proofs.texts.DigitFacts.{weight-take, one_digit_more}
use Rattle.edf_fields.proofs.texts.onset.digit_front.Goals as goal

pub loop-count-preserved : goal.loop-count-preserved
loop-count-preserved c =
    let i = c.loop-count.count in
    let text = c.args.text.now in
    let digit : (48 ≤ get_or text i 0) × (get_or text i 0 ≤ 57) = search rules in
    let most = c.min-most.ensures in
    let test = c.loop-count-test.true in
    let low : i < length text = omega (arith, most, test) in
    record {
      within = omega (arith, test);
      digits = below_more _ _ c.loop-count.invariant.digits digit;
      value = omega (arith, c.loop-count.invariant.value, weight-take text i low, c.from.ensures);
      small = one_digit_more _ _ _ c.loop-count.invariant.small (omega (arith, c.from.ensures, digit));
    }
