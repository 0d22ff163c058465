use Rattle.std.proofs.Common.{◌<◌, arith}
use Rattle.edf_samples.proofs.rates.StrideFacts.{are_strides, strides_of_double, strides_of_half}
use Rattle.edf_samples.proofs.counts.strides.strides_by.Goals as goal

pub returns : goal.returns
returns c =
    let px : 0 < c.args.x.den = omega (arith, c.requires.x) in
    let py : 0 < c.args.y.den = omega (arith, c.requires.y) in
    are_strides c.args.x c.args.y c.args.a c.args.b c.common_divisor-divisor.result _ _ c.requires.rises_here c.requires.rises_there px py c.requires.proportion
    c.common_divisor-divisor.ensures.value c.strides_over-strides.ensures.here c.strides_over-strides.ensures.there c.if-strides.false

pub returns-then-is_twice : goal.returns-then-is_twice
returns-then-is_twice c =
    let px : 0 < c.args.x.den = omega (arith, c.requires.x) in
    let py : 0 < c.args.y.den = omega (arith, c.requires.y) in
    strides_of_half c.args.x c.args.y c.args.a c.args.b c.requires.rises_here c.requires.rises_there px py c.requires.proportion (c.is_twice.ensures.0 c.if-is_twice.true)

pub returns-then-is_twice-2 : goal.returns-then-is_twice-2
returns-then-is_twice-2 c =
    let px : 0 < c.args.x.den = omega (arith, c.requires.x) in
    let py : 0 < c.args.y.den = omega (arith, c.requires.y) in
    strides_of_double c.args.x c.args.y c.args.a c.args.b c.requires.rises_here c.requires.rises_there px py c.requires.proportion (c.is_twice-2.ensures.0 c.if-is_twice-2.true)
