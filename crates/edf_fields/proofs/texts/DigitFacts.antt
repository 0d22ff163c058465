-- Facts on digits and their weight.
use Rattle.std.proofs.Common.{◌≡◌, ℕ, ◌+◌, ◌-◌, ◌*◌, ◌^◌, ◌<◌, ◌≤◌, List, [], ◌∷◌, ◌++◌, length, get_or, take, arith, suc, ap, ◌∙◌, sym, add-one, lit<, lit≤}
use Rattle.std.proofs.Math.Nat.{pow-succ', pow-le-pow_right, mul-lt-mul_of_pos_right}
use Rattle.std.proofs.lemmas.Nat.{pow-add}
use Rattle.std.proofs.lemmas.Grind.{common_steps}
use Rattle.std.proofs.lemmas.List.{take_more}
use Rattle.edf_fields.specs.texts.Numbers.{weight}

-- one more digit
pub weight-snoc : (ds : List ℕ) (c : ℕ) → weight (ds ++ c ∷ []) ≡ weight ds * 10 + (c - 48)
weight-snoc [] c = grind arith
weight-snoc (d ∷ ds) c =
    let long : length (ds ++ c ∷ []) ≡ suc (length ds) = grind (arith, common_steps) in
    let power : 10 ^ length (ds ++ c ∷ []) ≡ 10 * 10 ^ length ds = ap (λ n. 10 ^ n) long ∙ pow-succ' 10 (length ds) in
    let rest : weight (ds ++ c ∷ []) ≡ weight ds * 10 + (c - 48) = weight-snoc ds c in
    let first : (d - 48) * 10 ^ length (ds ++ c ∷ []) ≡ (d - 48) * (10 * 10 ^ length ds) = ap (λ n. (d - 48) * n) power in
    omega (arith, first, rest)

pub weight-take : (xs : List ℕ) (i : ℕ) → i < length xs → weight (take (i + 1) xs) ≡ weight (take i xs) * 10 + (get_or xs i 0 - 48)
weight-take xs i h = ap weight (take_more xs i 0 h) ∙ weight-snoc (take i xs) (get_or xs i 0)

-- a number of i digits, and one more digit
pub one_digit_more : (v i d : ℕ) → v < 10 ^ i → d ≤ 9 → v * 10 + d < 10 ^ (i + 1)
one_digit_more v i d h e =
    let power : 10 ^ (i + 1) ≡ 10 * 10 ^ i = ap (λ n. 10 ^ n) (add-one i) ∙ pow-succ' 10 i in
    omega (arith, power)

-- eighteen digits fit a `u64`
pub fits_18 : (v i d : ℕ) → v < 10 ^ i → i < 18 → d ≤ 9 → v * 10 + d < 2 ^ 64
fits_18 v i d h low e =
    let more : v * 10 + d < 10 ^ (i + 1) = one_digit_more v i d h e in
    let next : i + 1 ≤ 18 = omega arith in
    let most : 10 ^ (i + 1) ≤ 10 ^ 18 = pow-le-pow_right (lit< tt) next in
    let fits : 10 ^ 18 ≤ 2 ^ 64 = lit≤ tt in
    omega arith

-- fewer digits are less
pub below_power : (v m n : ℕ) → v < 10 ^ m → m ≤ n → v < 10 ^ n
below_power v m n h low =
    let most : 10 ^ m ≤ 10 ^ n = pow-le-pow_right (lit< tt) low in
    omega arith

-- a fraction of at most seven places is less than one
pub fraction_below : (f p : ℕ) → p ≤ 7 → f < 10 ^ p → f * 10 ^ (7 - p) < 10 ^ 7
fraction_below f p low h =
    let some : 0 < 10 ^ (7 - p) = pow-le-pow_right (lit< tt) (let z : 0 ≤ 7 - p = omega arith in z) in
    let less : f * 10 ^ (7 - p) < 10 ^ p * 10 ^ (7 - p) = mul-lt-mul_of_pos_right h some in
    let whole : 10 ^ p * 10 ^ (7 - p) ≡ 10 ^ 7 = sym (pow-add 10 p (7 - p)) ∙ ap (λ n. 10 ^ n) (let e : p + (7 - p) ≡ 7 = omega arith in e) in
    omega (arith, less, whole)
