use Rattle.std.proofs.Common.{◌≡◌, ◌+◌, ◌-◌, ◌≤◌, arith}
use Rattle.edf_samples.proofs.FrontFacts.{rest_counted}
use Rattle.edf_samples.proofs.counts.alone.alone_behind.Goals as goal

pub returns : goal.returns
returns c =
    let end = c.count_in-end.result in
    let all = c.count_in-end.ensures.all in
    let some = c.requires.from in
    let le : c.args.from ≤ end = omega (arith, all, some) in
    let first : c.args.from ≡ c.args.from + 0 = omega arith in
    let last : end - 1 ≡ c.args.from + (end - c.args.from - 1) = omega (arith, all, some) in
    rest_counted c.args.mismatch c.args.x c.args.from end c.alone_among.result le c.count_in-end.ensures.within c.count_in-end.ensures.all
    (c.alone_among.ensures (λ k. c.args.from + k) first last)
