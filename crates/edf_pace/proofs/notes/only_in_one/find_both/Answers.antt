use Rattle.std.proofs.Common.{Bool, true, false, ◌+◌, ◌≡◌, ◌≤◌, ◌∙◌, arith, ap, get_or, subst, sym}
use Rattle.std.specs.Int.{from_bool}
use Rattle.std.specs.Ordering.{is_le, is_ge}
use Rattle.edf_stream.specs.Views.{note_value}
use Rattle.edf_pace.specs.Annotations.{note_cmp}
use Rattle.edf_pace.specs.notes.OnlyInOne.{AreFoundTo}
use Rattle.edf_pace.proofs.notes.OnlyInOneFacts.{step}
use Rattle.edf_pace.proofs.notes.only_in_one.find_both.Goals as goal

one_at_most : (b : Bool) → from_bool b ≤ 1
one_at_most true = omega arith
one_at_most false = omega arith

pub loop-i-preserved : goal.loop-i-preserved
loop-i-preserved c =
    let inv = c.loop-i.invariant in
    let ks = c.args.kept.now in
    let es = c.args.exported.now in
    let i = c.loop-i.i in
    let j = c.loop-i.j in
    let x = c.index-kept-i.result in
    let y = c.index-exported-j.result in
    let li = c.loop-i-test.true in
    let lj = c.if-j-exported.true in
    let oi = one_at_most c.is_le.result in
    let oj = one_at_most c.is_ge.result in
    let order = c.order-which.ensures ∙ ap (λ n. note_cmp (note_value n) (note_value y)) c.index-kept-i.is ∙ ap (λ n. note_cmp (note_value (get_or ks i x)) (note_value n)) c.index-exported-j.is in
    let ei : c.from-i.result ≡ from_bool (is_le c.order-which.result) = c.from-i.ensures ∙ ap from_bool c.is_le.ensures in
    let ej : c.from-j.result ≡ from_bool (is_ge c.order-which.result) = c.from-j.ensures ∙ ap from_bool c.is_ge.ensures in
    let next = step ks es c.loop-i.found c.take_in.new.found i j x y c.order-which.result li lj order c.in_ok-take_in.ensures.missing c.in_ok-take_in.ensures.extra inv.value in
    let first : AreFoundTo ks es c.take_in.new.found (i + c.from-i.result) (j + from_bool (is_ge c.order-which.result)) = subst (λ k. AreFoundTo ks es c.take_in.new.found (i + k) (j + from_bool (is_ge c.order-which.result))) (sym ei) next in
    record {
      here = (let e = c.from-i.ensures in omega (arith, li, e, oi));
      there = (let e = c.from-j.ensures in omega (arith, lj, e, oj));
      value = subst (λ k. AreFoundTo ks es c.take_in.new.found (i + c.from-i.result) (j + k)) (sym ej) first;
    }
