use Rattle.std.proofs.Common.{◌≡◌, ◌+◌, ◌-◌, ◌≤◌, ⊎_elim, arith, subst}
use Rattle.edf_samples.specs.Others.{AreOthers, differs}
use Rattle.edf_samples.proofs.BlockFacts.{bits_behind}
use Rattle.edf_samples.proofs.counts.blocks.with_last.Goals as goal

pub returns : goal.returns
returns g c =
    let test = differs g.row.STRIDE c.args.long.now c.args.short.now in
    let from = c.args.from in
    let width = g.row.WIDTH in
    let size = c.args.count - from in
    let le = c.requires.from in
    let few = c.requires.few in
    let many = c.requires.many in
    let whole : width - size + size ≡ width = omega (arith, le, few) in
    let far : c.args.count - width + (width - size) ≡ from = omega (arith, le, few, many) in
    let all : from + size ≡ c.args.count = omega (arith, le) in
    let fits : size ≤ 64 = ⊎_elim (λ e. omega (arith, le, few, e)) (λ h. ⊎_elim (λ e. omega (arith, le, few, e)) (λ e. omega (arith, le, few, e)) h) c.requires.width in
    subst (λ n. AreOthers test n c.with_others.result) all
    (c.with_others.ensures test size fits (bits_behind test (c.args.count - width) from width (width - size) size c.others_of.result whole far c.others_of.ensures) c.requires.before)
