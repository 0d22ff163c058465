use Rattle.std.proofs.Common.{◌<◌, ◌*◌, sym, subst, arith}
use Rattle.edf_samples.specs.Strides.{IsProportion}
use Rattle.edf_samples.proofs.rates.StrideFacts.{proportion_long, proportion_short}
use Rattle.edf_samples.proofs.counts.strides.proportion.Goals as goal

pub returns-in-Some : goal.returns-in-Some
returns-in-Some c =
    let x = c.args.x in
    let y = c.args.y in
    let px : 0 < x.den = omega (arith, c.requires.x) in
    let py : 0 < y.den = omega (arith, c.requires.y) in
    let long = proportion_long x y c.in-Some.times px py c.in-Some.ensures.some c.requires.rises_here c.in-Some.ensures.value in
    subst (λ a. IsProportion x y a (c.from-here.result * c.from.result)) (sym c.from-there.ensures)
    (subst (λ b. IsProportion x y y.den (b * c.from.result)) (sym c.from-here.ensures) (subst (λ t. IsProportion x y y.den (x.den * t)) (sym c.from.ensures) long))

pub returns-in-Some-times_in : goal.returns-in-Some-times_in
returns-in-Some-times_in c =
    let x = c.args.x in
    let y = c.args.y in
    let px : 0 < x.den = omega (arith, c.requires.x) in
    let py : 0 < y.den = omega (arith, c.requires.y) in
    let short = proportion_short x y c.in-Some-times_in.times px py c.in-Some-times_in.ensures.some c.requires.rises_there c.in-Some-times_in.ensures.value in
    subst (λ b. IsProportion x y (c.from-there.result * c.from-in-Some-times_in.result) b) (sym c.from-here.ensures)
    (subst (λ a. IsProportion x y (a * c.from-in-Some-times_in.result) x.den) (sym c.from-there.ensures) (subst (λ t. IsProportion x y (y.den * t) x.den) (sym c.from-in-Some-times_in.ensures) short))
