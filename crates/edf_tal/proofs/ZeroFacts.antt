-- Zeros in front of what is left.
use Rattle.std.proofs.Common.{◌≡◌, ℕ, zero, suc, ◌≤◌, ◌==◌, List, [], ◌∷◌, length, drop, arith, refl, sym, ap, ◌∙◌, ◌&&◌}
use Rattle.edf_tal.specs.Reading.{are_zeros}
use Rattle.edf_tal.specs.Zeros.{HasZerosBefore}

-- zeros in front don't count
pub zeros_behind : (n : ℕ) (bytes : List ℕ) → n ≤ length bytes → HasZerosBefore n bytes → are_zeros (drop n bytes) ≡ are_zeros bytes
zeros_behind zero bytes le zeros = refl
zeros_behind (suc n) [] le zeros = absurd (omega (arith, le))
zeros_behind (suc n) (b ∷ bs) le zeros =
    let first : b ≡ 0 = zeros 0 (omega arith) in
    let rest : are_zeros (drop n bs) ≡ are_zeros bs = zeros_behind n bs (omega (arith, le)) (λ k lt. zeros (suc k) (omega (arith, lt))) in
    rest ∙ sym (ap (λ x. (x == 0) && are_zeros bs) first)
