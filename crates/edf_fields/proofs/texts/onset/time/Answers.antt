use Rattle.std.proofs.Common.{◌≡◌, ◌+◌, ◌-◌, ◌*◌, ◌^◌, ◌<◌, length, drop, arith, sym, ap, subst, ◌∙◌}
use Rattle.edf_fields.specs.texts.Numbers.{weight}
use Rattle.edf_fields.specs.texts.OnsetsReading.{IsFraction, without_trailing_zeros}
use Rattle.edf_fields.proofs.ReadFacts.{rest_whole}
use Rattle.edf_fields.proofs.texts.FrontFacts.{plain_time, dotted_missing, dotted_time}
use Rattle.edf_fields.proofs.texts.onset.time.Goals as goal

pub returns-then-front-text : goal.returns-then-front-text
returns-then-front-text c =
    let front = c.digit_front-front.ensures in
    let some = c.if-front-eq0.false in
    let all = c.if-front-text.true in
    let said = plain_time c.args.text.now c.digit_front-front.result.count c.digit_front-front.result.seconds c.joined.result all (omega (arith, some)) front.few front.digits front.seconds c.joined.ensures.value in
    (said.0, said.1, c.joined.ensures.small)

pub returns-in-Some : goal.returns-in-Some
returns-in-Some c =
    let u = c.args.text.now in
    let n = c.digit_front-front.result.count in
    let front = c.digit_front-front.ensures in
    let zero = c.if-front-eq0.false in
    let within : n < length u = (let all = c.if-front-text.false in let le = front.within in omega (arith, all, le)) in
    let more : n + 1 < length u = (let last = c.if-front-text-2.false in omega (arith, last, within)) in
    let found = c.in-Some.ensures in
    let whole = rest_whole (n + 1) u in
    let value : c.in-Some.picoseconds ≡ weight (without_trailing_zeros (drop (n + 1) u)) * 10 ^ (12 - length (without_trailing_zeros (drop (n + 1) u))) =
    found.1 ∙ ap (λ f. weight (without_trailing_zeros f) * 10 ^ (12 - length (without_trailing_zeros f))) whole in
    let said = dotted_time u n within (omega (arith, zero)) front.few front.digits c.if-text-front-ne46.false c.digit_front-front.result.seconds c.in-Some.picoseconds c.joined-in-Some.result more
    (subst IsFraction whole found.0) front.seconds value c.joined-in-Some.ensures.value in
    (said.0, said.1, c.joined-in-Some.ensures.small)

pub returns-in-None : goal.returns-in-None
returns-in-None c =
    let u = c.args.text.now in
    let n = c.digit_front-front.result.count in
    let front = c.digit_front-front.ensures in
    let zero = c.if-front-eq0.false in
    let within : n < length u = (let all = c.if-front-text.false in let le = front.within in omega (arith, all, le)) in
    dotted_missing u n within (omega (arith, zero)) front.few front.digits c.if-text-front-ne46.false
    (λ fraction. c.in-None.ensures (subst IsFraction (sym (rest_whole (n + 1) u)) fraction))
