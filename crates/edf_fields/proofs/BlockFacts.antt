-- Blocks of bytes no two lanes of which differ.
use Rattle.std.proofs.Common.{◌≡◌, ℕ, ◌%◌, ◌/◌, ◌^◌, ◌<◌, List, Bool, true, false, cond, not, eqb, length, get_or, arith, refl, sym, ap, ◌∙◌}
use Rattle.std.proofs.lemmas.Simd.{bit_mask_l, get_or-zip2}
use Rattle.std.proofs.Math.Nat.{zero-div}
use Rattle.std.proofs.lemmas.Bool.Decides.{nat_tests}
use Rattle.std.specs.Simd.Lanes.{mask_l, zip2}

clear-bit : (marks : List Bool) (k : ℕ) → mask_l marks ≡ 0 → get_or marks k false ≡ false
clear-bit marks k h =
    let none : 0 / 2 ^ k % 2 ≡ 0 = ap (λ n. n % 2) (zero-div (2 ^ k)) in
    let bit : cond {A = ℕ} (get_or marks k false) 1 0 ≡ 0 = sym (bit_mask_l marks k) ∙ ap (λ n. n / 2 ^ k % 2) h ∙ none in
    elim (get_or marks k false) as (λ (b : Bool). cond {A = ℕ} b 1 0 ≡ 0 → b ≡ false) [ true ↦ λ e. cc | false ↦ λ e. refl ] bit

equal-if : (a b : ℕ) → not (eqb a b) ≡ false → a ≡ b
equal-if a b h = grind (arith, nat_tests)

-- where the mask of the lanes that differ is 0, each lane is the same
pub same-lanes : (xs ys : List ℕ) (k : ℕ) → k < length xs → k < length ys → mask_l (zip2 (λ a b. not (eqb a b)) xs ys) ≡ 0 → get_or xs k 0 ≡ get_or ys k 0
same-lanes xs ys k p q h =
    equal-if (get_or xs k 0) (get_or ys k 0)
    (sym (get_or-zip2 (λ a b. not (eqb a b)) xs ys k 0 0 false p q) ∙ clear-bit (zip2 (λ a b. not (eqb a b)) xs ys) k h)
