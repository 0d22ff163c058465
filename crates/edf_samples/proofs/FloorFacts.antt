-- The floor of an instant is that of each fraction for it.
use Rattle.std.proofs.Common.{◌≡◌, ℕ, suc, ◌<◌, ◌≤◌, ◌+◌, ◌*◌, ◌/◌, ℤ, pos, negsuc, ◌*ℤ◌, arith, sym, ◌∙◌, ap}
use Rattle.std.proofs.lemmas.Int.{ints}
use Rattle.std.proofs.Math.Nat.{mul-div-mul_right, lt-div-mul-add, div-mul-le_self, lt_of_mul-lt-mul_right, mul-lt-mul_of_pos_right}
use Rattle.std.specs.Int.{int_div_euclid}
use Rattle.edf_stream.specs.declared.times.instant.Instant.{Instant}
use Rattle.edf_stream.specs.times.Instants.{IsSame}
use Rattle.edf_samples.specs.InstantOrder.{floor_of}

-- two fractions that aren't negative: both are quotients of the same products
quotients : (a b n m : ℕ) → 0 < n → 0 < m → a * m ≡ b * n → a / n ≡ b / m
quotients a b n m pn pm e =
    let left : a * m / (n * m) ≡ a / n = mul-div-mul_right a n pm in
    let right : b * n / (m * n) ≡ b / m = mul-div-mul_right b m pn in
    let turned : n * m ≡ m * n = omega arith in
    sym left ∙ ap (λ x. x / (n * m)) e ∙ ap (λ x. b * n / x) turned ∙ right

-- of two negative ones the quotient of one isn't above that of the other
not-above : (a b n m q r : ℕ) → 0 < m → suc a * m ≡ suc b * n → q * n ≤ a → b < r * m + m → q ≤ r
not-above a b n m q r pm e low high =
    let s : q * n < suc a = omega arith in
    let t : q * n * m < suc a * m = mul-lt-mul_of_pos_right s pm in
    let u : (q * m) * n < suc b * n = omega arith in
    let v : q * m < suc b = lt_of_mul-lt-mul_right n u in
    let w : q * m < (r + 1) * m = omega arith in
    let x : q < r + 1 = lt_of_mul-lt-mul_right m w in
    omega arith

negative : (a b n m : ℕ) → 0 < n → 0 < m → suc a * m ≡ suc b * n → a / n ≡ b / m
negative a b n m pn pm e =
    let p : a / n ≤ b / m = not-above a b n m (a / n) (b / m) pm e (div-mul-le_self a n) (lt-div-mul-add pm) in
    let q : b / m ≤ a / n = not-above b a m n (b / m) (a / n) pn (sym e) (div-mul-le_self b m) (lt-div-mul-add pn) in
    omega arith

floors : (a b : ℤ) (n m : ℕ) → 0 < n → 0 < m → a *ℤ pos m ≡ b *ℤ pos n → int_div_euclid a (pos n) ≡ int_div_euclid b (pos m)
floors (pos a) (pos b) n m pn pm e = ap pos (quotients a b n m pn pm (omega (arith, ints)))
floors (pos a) (negsuc b) n m pn pm e = absurd (omega (arith, ints))
floors (negsuc a) (pos b) n m pn pm e = absurd (omega (arith, ints))
floors (negsuc a) (negsuc b) n m pn pm e = ap negsuc (negative a b n m pn pm (omega (arith, ints)))

pub floor-same : (p q : Instant) → 0 < p.den → 0 < q.den → IsSame p q → floor_of p ≡ floor_of q
floor-same p q pp pq s = floors p.num q.num p.den q.den pp pq s
