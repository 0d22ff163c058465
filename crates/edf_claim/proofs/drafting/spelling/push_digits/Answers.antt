use Rattle.std.proofs.Common.{rules, ◌≡◌, ◌<◌, ◌-◌, ◌==◌, false, sym, subst, arith}
use Rattle.edf_claim.proofs.SpellingFacts.{digit_more, ten_power}
use Rattle.edf_claim.proofs.drafting.spelling.push_digits.Goals as goal

pub nonzero_div-left : goal.nonzero_div-left
nonzero_div-left c = subst (λ n. 0 < n) (sym c.pow-unit.ensures) (ten_power (c.loop-left.places - 1))

pub nonzero_rem-left-in-loop-left : goal.nonzero_rem-left-in-loop-left
nonzero_rem-left-in-loop-left c = subst (λ n. 0 < n) (sym c.pow-unit.ensures) (ten_power (c.loop-left.places - 1))

pub loop-left-preserved : goal.loop-left-preserved
loop-left-preserved c =
    let before = c.loop-left.invariant in
    let other : (c.loop-left.left == 0) ≡ false = search rules in
    let some : 0 < c.loop-left.places = search rules in
    record {
      within = omega (arith, before.within);
      digits = digit_more c.loop-left.text.items c.push.new.self.items _ c.loop-left.places c.loop-left.left c.pow-unit.result
          some other c.pow-unit.ensures c.in_ok-push.ensures.items before.digits;
    }
