use Rattle.std.proofs.Common.{◌≤◌, ◌^◌, length, lit<, arith}
use Rattle.std.proofs.Math.Nat.{pow-le-pow_right}
use Rattle.std.proofs.lemmas.Int.{ints}
use Rattle.edf_header.proofs.field.count.Goals as goal

pub as_count-requires-clause-high : goal.as_count-requires-clause-high
as_count-requires-clause-high c =
    let spelled = c.in_ok-number.ensures.1 in
    let small = rw spelled at c.header_whole.ensures.small in
    let most : 10 ^ length c.args.field.now ≤ 10 ^ 8 = pow-le-pow_right (lit< tt) c.requires in
    omega (arith, ints, small, most)
