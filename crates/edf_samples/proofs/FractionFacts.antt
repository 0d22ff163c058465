-- The order of fractions with positive denominators.
use Rattle.std.proofs.Common.{◌+ℤ◌, zero, suc, ◌≡◌, true, false, ℕ, ◌<◌, ◌≤◌, ◌+◌, ◌*◌, ℤ, pos, ◌*ℤ◌, ◌<ℤ◌, ◌&&◌, arith, ap, ◌∙◌, sym}
use Rattle.std.specs.Bool.{Decides}
use Rattle.std.specs.Ordering.{int_eq}
use Rattle.std.proofs.lemmas.Bool.Decides.{Decides-int_eq, same_from_decides}
use Rattle.std.proofs.lemmas.Int.{ints, by_lt_z}
use Rattle.std.proofs.Math.Nat.{lt_of_mul-lt-mul_right, mul-lt-mul_of_pos_right, mul-le-mul_right}
use borrow.Author.Differences.{up, down, true_is_lt, false_is_lt}
use Rattle.edf_stream.specs.declared.times.instant.Instant.{Instant}
use Rattle.edf_stream.specs.times.Instants.{IsSame}
use Rattle.edf_stream.specs.times.InstantOrder.{IsNotBefore}
use Rattle.edf_samples.specs.declared.stretch.Stretch.{Stretch}
use Rattle.edf_samples.specs.InstantOrder.{IsBefore, is_before}
use Rattle.edf_samples.specs.Stretches.{IsPart, are_on_one_grid}

pub self_above : (t : Instant) → IsNotBefore t t
self_above t = omega (arith, ints)

-- with a - a' over n, and so on: the first is below the second, the second at most the third
cross_lt_le : (a a' b b' c c' n m k : ℕ) → 0 < k → a * m + b' * n < b * n + a' * m → b * k + c' * m ≤ c * m + b' * k → a * k + c' * n < c * n + a' * k
cross_lt_le a a' b b' c c' n m k pk p q =
    let p' : (a * m + b' * n) * k < (b * n + a' * m) * k = mul-lt-mul_of_pos_right p pk in
    let q' : (b * k + c' * m) * n ≤ (c * m + b' * k) * n = mul-le-mul_right n q in
    let r : (a * k + c' * n) * m < (c * n + a' * k) * m = omega arith in
    lt_of_mul-lt-mul_right m r

cross_le_lt : (a a' b b' c c' n m k : ℕ) → 0 < n → a * m + b' * n ≤ b * n + a' * m → b * k + c' * m < c * m + b' * k → a * k + c' * n < c * n + a' * k
cross_le_lt a a' b b' c c' n m k pn p q =
    let p' : (a * m + b' * n) * k ≤ (b * n + a' * m) * k = mul-le-mul_right k p in
    let q' : (b * k + c' * m) * n < (c * m + b' * k) * n = mul-lt-mul_of_pos_right q pn in
    let r : (a * k + c' * n) * m < (c * n + a' * k) * m = omega arith in
    lt_of_mul-lt-mul_right m r

-- p < q and q ≤ r give p < r
pub before-not_before : (p q r : Instant) → 0 < r.den → IsBefore p q → IsNotBefore r q → IsBefore p r
before-not_before p q r pos_r f g =
    let h : up p.num * r.den + down r.num * p.den < up r.num * p.den + down p.num * r.den =
    cross_lt_le (up p.num) (down p.num) (up q.num) (down q.num) (up r.num) (down r.num) p.den q.den r.den pos_r (omega (arith, ints)) (omega (arith, ints)) in
    omega (arith, ints)

-- p ≤ q and q < r give p < r
pub not_before-before : (p q r : Instant) → 0 < p.den → IsNotBefore q p → IsBefore q r → IsBefore p r
not_before-before p q r pos_p f g =
    let h : up p.num * r.den + down r.num * p.den < up r.num * p.den + down p.num * r.den =
    cross_le_lt (up p.num) (down p.num) (up q.num) (down q.num) (up r.num) (down r.num) p.den q.den r.den pos_p (omega (arith, ints)) (omega (arith, ints)) in
    omega (arith, ints)

pub same_below : (p q : Instant) → IsSame p q → IsNotBefore q p
same_below p q s = omega (arith, ints)

pub same_above : (p q : Instant) → IsSame p q → IsNotBefore p q
same_above p q s = omega (arith, ints)

pub before_below : (p q : Instant) → IsBefore p q → IsNotBefore q p
before_below p q s = omega (arith, ints)

pub before_same : (p q : Instant) → IsBefore p q → IsSame p q → ⊥
before_same p q f s = absurd (omega (arith, ints))

pub before_same_back : (p q : Instant) → IsBefore p q → IsSame q p → ⊥
before_same_back p q f s = absurd (omega (arith, ints))

pub before_not : (p q : Instant) → IsBefore p q → IsNotBefore p q → ⊥
before_not p q f s = absurd (omega (arith, ints))

pub same_back : (p q : Instant) → IsSame p q → IsSame q p
same_back p q s = sym s

pub is_before-true : (p q : Instant) → is_before p q ≡ true → IsBefore p q
is_before-true p q e = omega (arith, ints)

pub is_before-false : (p q : Instant) → is_before p q ≡ false → IsNotBefore p q
is_before-false p q e = omega (arith, ints)

pub true-is_before : (p q : Instant) → IsBefore p q → is_before p q ≡ true
true-is_before p q e = sym (true_is_lt (p.num *ℤ pos q.den) (q.num *ℤ pos p.den) (omega (arith, ints)))

pub false-is_before : (p q : Instant) → IsNotBefore p q → is_before p q ≡ false
false-is_before p q e = sym (false_is_lt (p.num *ℤ pos q.den) (q.num *ℤ pos p.den) (omega (arith, ints)))

pub both_same : (p q : Instant) → IsNotBefore p q → IsNotBefore q p → IsSame p q
both_same p q f g = omega (arith, ints)

-- of two numerators over one denominator
pub before_over : (a b : ℤ) (n : ℕ) → 0 < n → a <ℤ b → IsBefore (record { num = a; den = n }) (record { num = b; den = n })
before_over a b n pn h =
    let e : up a + down b < up b + down a = omega (arith, ints) in
    let f : (up a + down b) * n < (up b + down a) * n = mul-lt-mul_of_pos_right e pn in
    omega (arith, ints)

same-over : (a b : ℤ) (n : ℕ) → 0 < n → a *ℤ pos n ≡ b *ℤ pos n → a ≡ b
same-over a b n pn e =
    by_lt_z a b (λ lt. let f = before_over a b n pn lt in absurd (omega (arith, ints)))
    (λ ge. by_lt_z b a (λ lt. let f = before_over b a n pn lt in absurd (omega (arith, ints))) (λ le. omega (arith, ints)))

-- over one denominator two numerators are the same where their products are
is-same-over : (a b : ℤ) (n m : ℕ) → 0 < n → n ≡ m → int_eq a b ≡ int_eq (a *ℤ pos m) (b *ℤ pos n)
is-same-over a b n m pn e = same_from_decides (int_eq a b) (int_eq (a *ℤ pos n) (b *ℤ pos n)) decided (Decides-int_eq (a *ℤ pos n) (b *ℤ pos n)) ∙ ap (λ k. int_eq (a *ℤ pos k) (b *ℤ pos n)) e
  where
    decided : Decides (int_eq a b) (a *ℤ pos n ≡ b *ℤ pos n)
    decided = (λ t. ap (λ z. z *ℤ pos n) ((Decides-int_eq a b).0 t), λ h. (Decides-int_eq a b).1 (same-over a b n pn h))

pub same_grid : (x y : Stretch) → IsPart x → x.den ≡ y.den → (int_eq x.num y.num && int_eq x.step y.step) ≡ are_on_one_grid x y
same_grid x y part e =
    let px : 0 < x.den = omega (arith, part) in
    ap (λ b. b && int_eq x.step y.step) (is-same-over x.num y.num x.den y.den px e) ∙ ap (λ b. int_eq (x.num *ℤ pos y.den) (y.num *ℤ pos x.den) && b) (is-same-over x.step y.step x.den y.den px e)

pub by_before : {P : Type 0} (p q : Instant) → (IsBefore p q → P) → (IsNotBefore p q → P) → P
by_before p q f g = by_lt_z (p.num *ℤ pos q.den) (q.num *ℤ pos p.den) f g

-- two instants that are both the same as a third
pub same_through : (p q r : Instant) → 0 < p.den → 0 < q.den → 0 < r.den → IsSame p q → IsSame q r → IsSame p r
same_through p q r pp pq pr s t =
    by_before p r
    (λ b. absurd (before_same q r (not_before-before q p r pq (same_above p q s) b) t))
    (λ f. by_before r p
    (λ b. absurd (before_same_back r q (before-not_before r p q pq b (same_below p q s)) t))
    (λ g. both_same p r f g))

pub same_before : (p q r : Instant) → 0 < p.den → IsSame p q → IsBefore q r → IsBefore p r
same_before p q r pos_p s b = not_before-before p q r pos_p (same_below p q s) b

-- r ≤ q and q ≤ p give r ≤ p
pub from_below : (p q r : Instant) → 0 < q.den → IsNotBefore p q → IsNotBefore q r → IsNotBefore p r
from_below p q r pq f g =
    by_before p r (λ b. absurd (before_not q r (not_before-before q p r pq f b) g)) (λ h. h)

-- a multiple of a sum
pub scaled : (n : ℕ) (x y z : ℤ) → z ≡ x +ℤ y → pos n *ℤ z ≡ (pos n *ℤ x) +ℤ (pos n *ℤ y)
scaled zero x y z e = omega (arith, ints)
scaled (suc n) x y z e = let r : pos n *ℤ z ≡ (pos n *ℤ x) +ℤ (pos n *ℤ y) = scaled n x y z e in omega (arith, ints)
