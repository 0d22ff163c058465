-- Digits that have one weight are the same, where they are as many.
use Rattle.std.proofs.Common.{◌≡◌, inl, inr, ℕ, suc, ◌+◌, ◌-◌, ◌*◌, ◌^◌, ◌<◌, ◌≤◌, List, [], ◌∷◌, length, arith, refl, ap, ◌∙◌, subst, lit<}
use Rattle.std.proofs.Math.Nat.{pow-succ', mul-le-mul_right}
use Rattle.std.proofs.lemmas.Bool.{cases_lt}
use Rattle.edf_fields.specs.texts.Numbers.{AreDigits, weight}

pub digits-tail : (c : ℕ) (cs : List ℕ) → AreDigits (c ∷ cs) → AreDigits cs
digits-tail c cs h = λ k low. h (suc k) (omega arith)

pub digit-head : (c : ℕ) (cs : List ℕ) → AreDigits (c ∷ cs) → (48 ≤ c) × (c ≤ 57)
digit-head c cs h = h 0 (omega arith)

pub weight-below : (ds : List ℕ) → AreDigits ds → weight ds < 10 ^ length ds
weight-below [] h = lit< tt
weight-below (c ∷ cs) h =
    let rest = weight-below cs (digits-tail c cs h) in
    let power : 10 ^ suc (length cs) ≡ 10 * 10 ^ length cs = pow-succ' 10 (length cs) in
    let first = digit-head c cs h in
    let most : (c - 48) * 10 ^ length cs ≤ 9 * 10 ^ length cs = mul-le-mul_right (10 ^ length cs) (let few : c - 48 ≤ 9 = omega (arith, first) in few) in
    omega (arith, rest, power, most)

-- a quotient and a remainder
pub split-same : (a b x y p : ℕ) → x < p → y < p → a * p + x ≡ b * p + y → (a ≡ b) × (x ≡ y)
split-same a b x y p low less e = elim (cases_lt a b) [
  | inl under ↦ absurd (let more : (a + 1) * p ≤ b * p = mul-le-mul_right p (let z : a + 1 ≤ b = omega arith in z) in omega (arith, more))
  | inr from ↦ elim (cases_lt b a) [
    | inl over ↦ absurd (let more : (b + 1) * p ≤ a * p = mul-le-mul_right p (let z : b + 1 ≤ a = omega arith in z) in omega (arith, more))
    | inr to ↦
        let same : a ≡ b = omega arith in
        let product : a * p ≡ b * p = ap (λ n. n * p) same in
        (same, omega (arith, product))
  ]
]

-- the length is written apart, so that it can be that of the other digits
digits-match : (xs ys : List ℕ) → AreDigits xs → AreDigits ys → length xs ≡ length ys → weight xs ≡ weight ys → xs ≡ ys
digits-match [] [] h k long same = refl
digits-match [] (d ∷ ds) h k long same = absurd (omega arith)
digits-match (c ∷ cs) [] h k long same = absurd (omega arith)
digits-match (c ∷ cs) (d ∷ ds) h k long same =
    let short : length cs ≡ length ds = omega arith in
    let power : 10 ^ length cs ≡ 10 ^ length ds = ap (λ n. 10 ^ n) short in
    let left : weight cs < 10 ^ length ds = subst (λ p. weight cs < p) power (weight-below cs (digits-tail c cs h)) in
    let right = weight-below ds (digits-tail d ds k) in
    let first = digit-head c cs h in
    let other = digit-head d ds k in
    let spelled : (c - 48) * 10 ^ length ds + weight cs ≡ (d - 48) * 10 ^ length ds + weight ds = subst (λ p. (c - 48) * p + weight cs ≡ (d - 48) * 10 ^ length ds + weight ds) power same in
    let parts = split-same (c - 48) (d - 48) (weight cs) (weight ds) (10 ^ length ds) left right spelled in
    let here : c ≡ d = omega (arith, first, other, parts.0) in
    ap (λ b. b ∷ cs) here ∙ ap (λ r. d ∷ r) (digits-match cs ds (digits-tail c cs h) (digits-tail d ds k) short parts.1)

pub digits-same : (xs ys : List ℕ) → AreDigits xs → AreDigits ys → length xs ≡ length ys → weight xs ≡ weight ys → xs ≡ ys
digits-same xs ys h k long same = digits-match xs ys h k long same
