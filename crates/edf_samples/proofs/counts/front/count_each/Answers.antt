use Rattle.std.proofs.Common.{◌*◌, ◌≤◌, length, map, filter, arith, refl}
use Rattle.std.specs.List.{range_with_len}
use Rattle.edf_samples.specs.Others.{values_differ}
use Rattle.edf_samples.specs.Tallies.{all_changed, change, counted}
use Rattle.edf_samples.proofs.FrontFacts.{each_counted}
use Rattle.edf_samples.proofs.counts.front.count_each.Goals as goal

pub returns-clause-value : goal.returns-clause-value
returns-clause-value c =
    let x = c.args.x in
    let y = c.args.y in
    let n = c.min-count.result in
    let few = c.min-count.ensures in
    let here = c.count_in.ensures.within in
    let there = c.count_in-2.ensures.within in
    let lx : 2 * n ≤ length x.bytes.now = omega (arith, few, here) in
    let ly : 2 * n ≤ length y.bytes.now = omega (arith, few, there) in
    let test = values_differ 1 x.bytes.now y.bytes.now in
    let changed = counted (map (λ k. change x (1 * k) y (1 * k)) (filter test (range_with_len 0 n))) in
    each_counted c.args.tally.now c.take_changes.new.tally (all_changed changed) changed x y n c.requires.grid lx ly refl refl (c.take_changes.ensures test n c.numbers_of-numbers.ensures.values)
