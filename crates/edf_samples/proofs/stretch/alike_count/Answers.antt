use Rattle.std.proofs.Common.{◌≤◌, ◌*◌, length, length-take, arith, sym, ◌∙◌}
use Rattle.edf_samples.proofs.StretchFacts.{alike_behind, alike_taken}
use Rattle.edf_samples.proofs.stretch.alike_count.Goals as goal

pub returns-clause-value : goal.returns-clause-value
returns-clause-value c =
    let n = 2 * c.args.count in
    let p = c.alike_bytes.result in
    let k = c.whole_samples.result in
    let even : 2 * k ≤ p = c.whole_samples.ensures.within in
    let within : p ≤ n = omega (arith, c.alike_bytes.ensures.within, length-take n c.args.x.bytes.now, c.requires.x_within) in
    let lx : 2 * k ≤ length c.args.x.bytes.now = omega (arith, even, within, c.requires.x_within) in
    let ly : 2 * k ≤ length c.args.y.bytes.now = omega (arith, even, within, c.requires.y_within) in
    alike_behind c.args.x c.args.y k (sym c.is_one_grid.ensures ∙ c.if-not-is_one_grid.false) lx ly
    (alike_taken n p k c.args.x.bytes.now c.args.y.bytes.now c.alike_bytes.ensures.alike even within)
