use Rattle.std.proofs.Common.{◌≡◌, ℕ, ◌%◌, ◌^◌, ◌+◌, ◌-◌, ◌<◌, ◌≤◌, cond, not, eqb, get_or, length, map, arith, sym, ap, subst, w8, ◌∙◌}
use Rattle.std.proofs.lemmas.Simd.{tops_compared, length-chunk, get_or-chunk, mask_l-mod, length-zip2}
use Rattle.std.proofs.lemmas.Bool.Decides.{nat_tests}
use Rattle.std.specs.Simd.Lanes.{mask_l, zip2, top, chunk}
use Rattle.edf_fields.proofs.ForCallers.{same-lanes}
use Rattle.edf_samples.proofs.bytes.is_same_block.Goals as goal

pub returns : goal.returns
returns c = λ same k low high.
    let i = c.args.place in
    let xs = chunk i 32 c.args.a.now in
    let ys = chunk i 32 c.args.b.now in
    let la : length xs ≡ 32 = length-chunk i 32 c.args.a.now c.requires.a in
    let lb : length ys ≡ 32 = length-chunk i 32 c.args.b.now c.requires.b in
    let mask : mask_l (map (top 7) (zip2 (λ x y. cond (not (eqb x y)) 255 0) xs ys)) % 2 ^ 64 ≡ 0 = grind (arith, nat_tests) in
    let tops = tops_compared w8 (λ x y. not (eqb x y)) xs ys in
    let plain : mask_l (zip2 (λ x y. not (eqb x y)) xs ys) % 2 ^ 64 ≡ 0 = ap (λ ms. mask_l ms % 2 ^ 64) (sym tops) ∙ mask in
    let long : length (zip2 (λ x y. not (eqb x y)) xs ys) ≤ 64 = omega (arith, la, lb, length-zip2 (λ x y. not (eqb x y)) xs ys (la ∙ sym lb)) in
    let clear = sym (mask_l-mod (zip2 (λ x y. not (eqb x y)) xs ys) 64 long) ∙ plain in
    let here : i + (k - i) ≡ k = omega arith in
    let j : k - i < 32 = omega arith in
    let equal = same-lanes xs ys (k - i) (omega (arith, la)) (omega (arith, lb)) clear in
    let moved : get_or c.args.a.now (i + (k - i)) 0 ≡ get_or c.args.b.now (i + (k - i)) 0 =
    sym (get_or-chunk i 32 c.args.a.now (k - i) 0 j) ∙ equal ∙ get_or-chunk i 32 c.args.b.now (k - i) 0 j in
    subst (λ (n : ℕ). get_or c.args.a.now n 0 ≡ get_or c.args.b.now n 0) here moved
