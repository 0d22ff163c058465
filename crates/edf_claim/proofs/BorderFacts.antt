-- Between two times at which no interval begins or ends, a claim keeps all or nothing.
use Rattle.std.proofs.Common.{◌≡◌, ℕ, zero, suc, length, get_or, ◌+◌, ◌*◌, ◌≤◌, ◌<◌, ℤ, pos, ◌*ℤ◌, ◌≤ℤ◌, ◌<ℤ◌, Bool, true, false, int_le, int_lt, ◌&&◌, ◌||◌, List, [], ◌∷◌, ◌⊎◌, inl, inr, ⊎_elim, refl, sym, ap, ◌∙◌, arith}
use Rattle.std.specs.List.{list_any}
use Rattle.std.specs.List.Sorted.{IsPartitionedBy, IsPartitionPoint}
use Rattle.std.proofs.lemmas.List.Elements.{All-head}
use Rattle.std.proofs.lemmas.Int.{ints}
use Rattle.std.proofs.Math.Nat.{mul-le-mul_right, lt_of_mul-lt-mul_right}
use borrow.Author.Differences.{up, down}
use Rattle.edf_claim.specs.Claims.{IsInterval}
use Rattle.edf_claim.specs.ClaimValues.{ClaimValue}
use Rattle.edf_claim.specs.declared.kept.interval.Interval.{Interval}
use Rattle.edf_claim.specs.Keeps.{keeps_instant}
use Rattle.edf_claim.specs.KeepsReading.{AreKept, IsOutside, IsUncut, HasBorder, is_within}
use Rattle.edf_claim.proofs.OrderFacts.{kept-tail, ends-before}
use Rattle.edf_fields.specs.Lists.{Has}

pub outside_earlier : (t u v b : ℤ) → v ≤ℤ u → IsOutside t u b → IsOutside t v b
outside_earlier t u v b l o = ⊎_elim (λ h. inl h) (λ h. inr (omega (arith, ints))) o

-- behind an interval that ends at v or later, none begins or ends before v
uncut-behind : (i : Interval) (is : List Interval) (t v : ℤ) → AreKept (i ∷ is) → v ≤ℤ i.to_ps → IsUncut is t v
uncut-behind i [] t v h l = tt
uncut-behind i (j ∷ is) t v h l =
    let next : i.to_ps ≤ℤ j.from_ps = h.in_order.0 in
    let tail = kept-tail i (j ∷ is) h in
    let order : j.from_ps <ℤ j.to_ps = (All-head IsInterval j is tail.each).order in
    (inr (omega (arith, ints, l, next)), inr (omega (arith, ints, l, next, order)), uncut-behind j is t v tail (omega (arith, ints, l, next, order)))

-- the first r intervals end at t or before, and the one behind them doesn't: no border lies between t and v where none of that one does
uncut-at : (r : ℕ) (is : List Interval) (d : Interval) (t v : ℤ) → AreKept is → r < length is → ((k : ℕ) → k < r → (get_or is k d).to_ps ≤ℤ t)
    → v ≤ℤ (get_or is r d).to_ps → IsOutside t v (get_or is r d).from_ps → IsOutside t v (get_or is r d).to_ps → IsUncut is t v
uncut-at r [] d t v h lt ended l f g = absurd (omega (arith, lt))
uncut-at zero (i ∷ is) d t v h lt ended l f g = (f, g, uncut-behind i is t v h l)
uncut-at (suc r) (i ∷ is) d t v h lt ended l f g =
    let order : i.from_ps <ℤ i.to_ps = (All-head IsInterval i is h.each).order in
    let over : i.to_ps ≤ℤ t = ended 0 (omega arith) in
    (inl (omega (arith, ints, order, over)), inl over, uncut-at r is d t v (kept-tail i is h) (omega (arith, lt)) (λ k m. ended (suc k) (omega (arith, m))) l f g)

uncut-over : (is : List Interval) (d : Interval) (t v : ℤ) → AreKept is → ((k : ℕ) → k < length is → (get_or is k d).to_ps ≤ℤ t) → IsUncut is t v
uncut-over [] d t v h ended = tt
uncut-over (i ∷ is) d t v h ended =
    let order : i.from_ps <ℤ i.to_ps = (All-head IsInterval i is h.each).order in
    let over : i.to_ps ≤ℤ t = ended 0 (omega arith) in
    (inl (omega (arith, ints, order, over)), inl over, uncut-over is d t v (kept-tail i is h) (λ k m. ended (suc k) (omega (arith, m))))

has-at-place : (intervals : List Interval) (i : ℕ) (d : Interval) → i < length intervals → Has intervals (get_or intervals i d)
has-at-place [] i d lt = absurd (omega (arith, lt))
has-at-place (x ∷ xs) zero d lt = inl refl
has-at-place (x ∷ xs) (suc i) d lt = inr (has-at-place xs i d (omega (arith, lt)))

by-test : (b : Bool) (P : Bool → Type 0) → (b ≡ true → P true) → (b ≡ false → P false) → P b
by-test true P f g = f refl
by-test false P f g = g refl

le-true : (x y : ℤ) → x ≤ℤ y → int_le x y ≡ true
le-true x y h = by-test (int_le x y) (λ b. b ≡ true) (λ e. refl) (λ e. absurd (omega (arith, ints)))

le-false : (x y : ℤ) → y <ℤ x → int_le x y ≡ false
le-false x y h = by-test (int_le x y) (λ b. b ≡ false) (λ e. absurd (omega (arith, ints))) (λ e. refl)

-- ---- the interval that ends first behind a time

order-at : (is : List Interval) (k : ℕ) (d : Interval) → AreKept is → k < length is → (get_or is k d).from_ps <ℤ (get_or is k d).to_ps
order-at [] k d h lt = absurd (omega (arith, lt))
order-at (i ∷ is) zero d h lt = (All-head IsInterval i is h.each).order
order-at (i ∷ is) (suc k) d h lt = order-at is k d (kept-tail i is h) (omega (arith, lt))

ends-mono : (is : List Interval) (j k : ℕ) (d : Interval) → AreKept is → j ≤ k → k < length is → (get_or is j d).to_ps ≤ℤ (get_or is k d).to_ps
ends-mono [] j k d h le lt = absurd (omega (arith, lt))
ends-mono (i ∷ is) zero zero d h le lt = omega (arith, ints)
ends-mono (i ∷ is) zero (suc k) d h le lt =
    let l : k < length is = omega (arith, lt) in
    let next = ends-before i is k d h l in
    let order = order-at is k d (kept-tail i is h) l in
    omega (arith, ints, next, order)
ends-mono (i ∷ is) (suc j) zero d h le lt = absurd (omega (arith, le))
ends-mono (i ∷ is) (suc j) (suc k) d h le lt = ends-mono is j k d (kept-tail i is h) (omega (arith, le)) (omega (arith, lt))

pub ends_rise : (is : List Interval) (t : ℤ) → AreKept is → IsPartitionedBy (λ i. int_le i.to_ps t) is
ends_rise is t h j k d le lt e =
    let l = ends-mono is j k d h le lt in
    le-true (get_or is j d).to_ps t (omega (arith, ints, l, e))

pub uncut_there : (is : List Interval) (r : ℕ) (d : Interval) (t v : ℤ) → AreKept is → IsPartitionPoint (λ i. int_le i.to_ps t ≡ true) (λ i. int_le i.to_ps t ≡ false) is r → r < length is
    → IsOutside t v (get_or is r d).from_ps → IsOutside t v (get_or is r d).to_ps → IsUncut is t v
uncut_there is r d t v h p lt f g =
    let ahead = p.1 r d (omega arith) lt in
    let l : v ≤ℤ (get_or is r d).to_ps = ⊎_elim (λ over. absurd (omega (arith, ints, over, ahead))) (λ l. l) g in
    uncut-at r is d t v h lt (λ k m. let e = p.0 k d (omega arith) m in omega (arith, ints, e)) l f g

pub uncut_nowhere : (is : List Interval) (r : ℕ) (t v : ℤ) → AreKept is → IsPartitionPoint (λ i. int_le i.to_ps t ≡ true) (λ i. int_le i.to_ps t ≡ false) is r → length is ≤ r → IsUncut is t v
uncut_nowhere is r t v h p le = uncut-over is none t v h (λ k m. let e = p.0 k none (omega arith) (omega (arith, le, m)) in omega (arith, ints, e))
  where
    none : Interval
    none = record { from_ps = pos 0; to_ps = pos 0 }

pub border_there : (is : List Interval) (r : ℕ) (d : Interval) (to v : ℤ) → r < length is
    → (v ≡ to) ⊎ (v ≡ (get_or is r d).from_ps) ⊎ (v ≡ (get_or is r d).to_ps) → (v ≡ to) ⊎ HasBorder is v
border_there is r d to v lt one =
    let x = get_or is r d in
    let there : Has is x = has-at-place is r d lt in
    ⊎_elim (λ e. inl e) (λ o. ⊎_elim (λ e. inr (x, there, inl (sym e))) (λ e. inr (x, there, inr (sym e))) o) one

-- ---- all or nothing

lt-true : (x y : ℤ) → x <ℤ y → int_lt x y ≡ true
lt-true x y h = by-test (int_lt x y) (λ b. b ≡ true) (λ e. refl) (λ e. absurd (omega (arith, ints)))

lt-false : (x y : ℤ) → y ≤ℤ x → int_lt x y ≡ false
lt-false x y h = by-test (int_lt x y) (λ b. b ≡ false) (λ e. absurd (omega (arith, ints))) (λ e. refl)

scaled : (n : ℕ) (a b : ℤ) → a ≤ℤ b → (a *ℤ pos n) ≤ℤ (b *ℤ pos n)
scaled n a b h =
    let p : up a + down b ≤ up b + down a = omega (arith, ints) in
    let q : (up a + down b) * n ≤ (up b + down a) * n = mul-le-mul_right n p in
    omega (arith, ints)

below : (n : ℕ) (a b : ℤ) → (a *ℤ pos n) <ℤ (b *ℤ pos n) → a <ℤ b
below n a b h =
    let q : (up a + down b) * n < (up b + down a) * n = omega (arith, ints) in
    let p : up a + down b < up b + down a = lt_of_mul-lt-mul_right n q in
    omega (arith, ints)

-- an instant and the time t lie on one side of a border that isn't between t and u
same-begin : (n : ℕ) (num b t u : ℤ) → IsOutside t u b → (t *ℤ pos n) ≤ℤ num → num <ℤ (u *ℤ pos n) → int_le (b *ℤ pos n) num ≡ int_le (b *ℤ pos 1) t
same-begin n num b t u o f g =
    ⊎_elim
    (λ l. let s = scaled n b t l in le-true (b *ℤ pos n) num (omega (arith, ints)) ∙ sym (le-true (b *ℤ pos 1) t (omega (arith, ints))))
    (λ l. let s = scaled n u b l in let lt : t <ℤ u = below n t u (omega (arith, ints)) in
    le-false (b *ℤ pos n) num (omega (arith, ints)) ∙ sym (le-false (b *ℤ pos 1) t (omega (arith, ints)))) o

same-end : (n : ℕ) (num b t u : ℤ) → IsOutside t u b → (t *ℤ pos n) ≤ℤ num → num <ℤ (u *ℤ pos n) → int_lt num (b *ℤ pos n) ≡ int_lt t (b *ℤ pos 1)
same-end n num b t u o f g =
    ⊎_elim
    (λ l. let s = scaled n b t l in lt-false num (b *ℤ pos n) (omega (arith, ints)) ∙ sym (lt-false t (b *ℤ pos 1) (omega (arith, ints))))
    (λ l. let s = scaled n u b l in let lt : t <ℤ u = below n t u (omega (arith, ints)) in
    lt-true num (b *ℤ pos n) (omega (arith, ints)) ∙ sym (lt-true t (b *ℤ pos 1) (omega (arith, ints)))) o

same-within : (is : List Interval) (n : ℕ) (num t u : ℤ) → IsUncut is t u → (t *ℤ pos n) ≤ℤ num → num <ℤ (u *ℤ pos n) → list_any (λ i. is_within i num n) is ≡ list_any (λ i. is_within i t 1) is
same-within [] n num t u o f g = refl
same-within (i ∷ is) n num t u o f g =
    ap (λ a. (a && int_lt num (i.to_ps *ℤ pos n)) || list_any (λ j. is_within j num n) is) (same-begin n num i.from_ps t u o.0 f g)
    ∙ ap (λ a. (int_le (i.from_ps *ℤ pos 1) t && a) || list_any (λ j. is_within j num n) is) (same-end n num i.to_ps t u o.1 f g)
    ∙ ap (λ a. is_within i t 1 || a) (same-within is n num t u o.2 f g)

pub kept-alike : (c : ClaimValue) (n : ℕ) (num t u : ℤ) → IsUncut c.keep t u → (t *ℤ pos n) ≤ℤ num → num <ℤ (u *ℤ pos n) → keeps_instant c num n ≡ keeps_instant c t 1
kept-alike c n num t u o f g = same-within c.keep n num t u o f g
