use Rattle.std.proofs.Common.{◌≡◌, ℕ, ◌%◌, ◌^◌, ◌+◌, ◌-◌, ◌<◌, ◌≤◌, cond, not, eqb, get_or, length, map, replicate, arith, sym, ap, subst, w8, ◌∙◌}
use Rattle.std.proofs.lemmas.Simd.{tops_compared, length-chunk, get_or-chunk, mask_l-mod, length-zip2}
use Rattle.std.proofs.lemmas.List.{get_or-replicate}
use Rattle.std.proofs.lemmas.Bool.Decides.{nat_tests}
use Rattle.std.specs.Simd.Lanes.{mask_l, zip2, top, chunk}
use Rattle.edf_fields.proofs.ForCallers.{same-lanes}
use Rattle.edf_tal.proofs.zeros.is_zero_quarter.Goals as goal

pub returns : goal.returns
returns c = λ same k low high.
    let i = c.args.place in
    let xs = chunk i 8 c.args.bytes.now in
    let ys = replicate 8 0 in
    let la : length xs ≡ 8 = length-chunk i 8 c.args.bytes.now c.requires in
    let mask : mask_l (map (top 7) (zip2 (λ x y. cond (not (eqb x y)) 255 0) xs ys)) % 2 ^ 64 ≡ 0 = grind (arith, nat_tests) in
    let tops = tops_compared w8 (λ x y. not (eqb x y)) xs ys in
    let plain : mask_l (zip2 (λ x y. not (eqb x y)) xs ys) % 2 ^ 64 ≡ 0 = ap (λ ms. mask_l ms % 2 ^ 64) (sym tops) ∙ mask in
    let long : length (zip2 (λ x y. not (eqb x y)) xs ys) ≤ 64 = omega (arith, la, length-zip2 (λ x y. not (eqb x y)) xs ys la) in
    let clear = sym (mask_l-mod (zip2 (λ x y. not (eqb x y)) xs ys) 64 long) ∙ plain in
    let here : i + (k - i) ≡ k = omega arith in
    let j : k - i < 8 = omega arith in
    let equal = same-lanes xs ys (k - i) (omega (arith, la)) j clear in
    let moved : get_or c.args.bytes.now (i + (k - i)) 0 ≡ 0 =
    sym (get_or-chunk i 8 c.args.bytes.now (k - i) 0 j) ∙ equal ∙ get_or-replicate 8 (k - i) 0 0 j in
    subst (λ (n : ℕ). get_or c.args.bytes.now n 0 ≡ 0) here moved
