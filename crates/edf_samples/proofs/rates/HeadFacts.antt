-- The samples at which a merge stands, by their instants times both denominators.
use Rattle.std.proofs.Common.{◌≡◌, ℕ, ◌+◌, ◌-◌, ◌*◌, ◌^◌, ◌<◌, ◌≤◌, suc, true, false, cond, ℤ, pos, ◌+ℤ◌, ◌*ℤ◌, ◌<ℤ◌, ◌≤ℤ◌, unsigned_abs, Option, Some, None, refl, sym, ap, ◌∙◌, subst, arith}
use Rattle.std.specs.Ordering.{int_eq}
use Rattle.std.proofs.Math.Nat.{mul-le-mul_right}
use Rattle.std.proofs.lemmas.Int.{ints, unsigned_abs-mul}
use Rattle.edf_stream.specs.samples.Values.{digital_value}
use Rattle.edf_verdict.specs.declared.verdict.SampleMismatch.TheVariants.{Missing, Extra}
use Rattle.edf_samples.specs.declared.difference.PointDifference.{PointDifference}
use Rattle.edf_samples.specs.declared.counts.head.Head.{Head}
use Rattle.edf_samples.specs.declared.stretch.Stretch.{Stretch}
use Rattle.edf_samples.specs.InstantOrder.{is_before}
use Rattle.edf_samples.specs.Differences.{heads, instant}
use Rattle.edf_samples.specs.Stretches.{IsHead, sample_at}
use Rattle.edf_samples.specs.Tallies.{alone, change}
use Rattle.edf_samples.proofs.FractionFacts.{false-is_before, true-is_before}
use Rattle.edf_samples.proofs.StretchFacts.{one-on, sum-scaled}

-- ---- the next sample

next_time : (x : Stretch) (m : ℕ) (h : Head) → IsHead x m h → h.time +ℤ h.step ≡ (x.num +ℤ pos (h.place + 1) *ℤ x.step) *ℤ pos m
next_time x m h is =
    let e : suc h.place ≡ h.place + 1 = omega arith in
    ap (λ z. z +ℤ h.step) is.0 ∙ ap (λ z. ((x.num +ℤ pos h.place *ℤ x.step) *ℤ pos m) +ℤ z) is.1
    ∙ sym (sum-scaled m (x.num +ℤ pos h.place *ℤ x.step) x.step (x.num +ℤ pos (suc h.place) *ℤ x.step) (sym (one-on x.num x.step h.place)))
    ∙ ap (λ k. (x.num +ℤ pos k *ℤ x.step) *ℤ pos m) e

num-small : (a d : ℤ) (k : ℕ) → unsigned_abs a < 3 * 2 ^ 102 + 2 ^ 93 → unsigned_abs d < 2 ^ 68 → k ≤ 2 ^ 23 → unsigned_abs (a +ℤ pos k *ℤ d) ≤ 2 ^ 104 - 1
num-small a d k la ld lk =
    let product : unsigned_abs (pos k *ℤ d) ≡ k * unsigned_abs d = unsigned_abs-mul (pos k) d in
    let few : k * unsigned_abs d ≤ 2 ^ 23 * unsigned_abs d = mul-le-mul_right (unsigned_abs d) lk in
    let small : unsigned_abs (pos k *ℤ d) ≤ 2 ^ 91 = omega (arith, product, few, ld) in
    added-small a (pos k *ℤ d) la small
  where
    added-small : (a b : ℤ) → unsigned_abs a < 3 * 2 ^ 102 + 2 ^ 93 → unsigned_abs b ≤ 2 ^ 91 → unsigned_abs (a +ℤ b) ≤ 2 ^ 104 - 1
    added-small a b la lb = omega (arith, ints)

pub next_small : (x : Stretch) (m : ℕ) (h : Head) → IsHead x m h → unsigned_abs x.num < 3 * 2 ^ 102 + 2 ^ 93 → unsigned_abs x.step < 2 ^ 68 → h.place < 2 ^ 23 → m ≤ 2 ^ 23 → unsigned_abs (h.time +ℤ h.step) < 2 ^ 127
next_small x m h is ln ls lp lm =
    let num : ℤ = x.num +ℤ pos (h.place + 1) *ℤ x.step in
    let product : unsigned_abs (num *ℤ pos m) ≡ unsigned_abs num * m = unsigned_abs-mul num (pos m) in
    let few : unsigned_abs num * m ≤ (2 ^ 104 - 1) * m = mul-le-mul_right m (num-small x.num x.step (h.place + 1) ln ls (omega (arith, lp))) in
    let small : unsigned_abs (num *ℤ pos m) < 2 ^ 127 = omega (arith, product, few, lm) in
    let P : ℤ → Type 0 = λ z. unsigned_abs z < 2 ^ 127 in
    subst P (sym (next_time x m h is)) small

pub next_is : (x : Stretch) (m : ℕ) (h n : Head) → IsHead x m h → n.place ≡ h.place + 1 → n.time ≡ h.time +ℤ h.step → n.step ≡ h.step → IsHead x m n
next_is x m h n is p t s =
    (t ∙ next_time x m h is ∙ ap (λ k. (x.num +ℤ pos k *ℤ x.step) *ℤ pos m) (sym p), s ∙ is.1)

-- ---- the difference of two

earlier-head : (x y : Stretch) (h k : Head) → IsHead x y.den h → IsHead y x.den k → h.time <ℤ k.time → is_before (instant x.den (sample_at x h.place)) (instant y.den (sample_at y k.place)) ≡ true
earlier-head x y h k is also lt =
    let P : ℤ → Type 0 = λ z. z <ℤ k.time in
    let Q : ℤ → Type 0 = λ z. ((x.num +ℤ pos h.place *ℤ x.step) *ℤ pos y.den) <ℤ z in
    true-is_before (instant x.den (sample_at x h.place)) (instant y.den (sample_at y k.place)) (subst Q also.0 (subst P is.0 lt))

later-head : (x y : Stretch) (h k : Head) → IsHead x y.den h → IsHead y x.den k → k.time ≤ℤ h.time → is_before (instant x.den (sample_at x h.place)) (instant y.den (sample_at y k.place)) ≡ false
later-head x y h k is also le =
    let P : ℤ → Type 0 = λ z. z ≤ℤ h.time in
    let Q : ℤ → Type 0 = λ z. ((y.num +ℤ pos k.place *ℤ y.step) *ℤ pos x.den) ≤ℤ z in
    false-is_before (instant x.den (sample_at x h.place)) (instant y.den (sample_at y k.place)) (subst Q is.0 (subst P also.0 le))

pub head_missing : (x y : Stretch) (h k : Head) → IsHead x y.den h → IsHead y x.den k → h.time <ℤ k.time → Some (alone Missing x h.place) ≡ heads x.den (sample_at x h.place) y.den (sample_at y k.place)
head_missing x y h k is also lt = sym (rw (earlier-head x y h k is also lt) refl)

pub head_extra : (x y : Stretch) (h k : Head) → IsHead x y.den h → IsHead y x.den k → k.time <ℤ h.time → Some (alone Extra y k.place) ≡ heads x.den (sample_at x h.place) y.den (sample_at y k.place)
head_extra x y h k is also lt = sym (rw (later-head x y h k is also (omega (arith, ints, lt)), earlier-head y x k h also is lt) refl)

pub head_both : (x y : Stretch) (h k : Head) (found : Option PointDifference) → IsHead x y.den h → IsHead y x.den k → k.time ≤ℤ h.time → h.time ≤ℤ k.time
    → found ≡ cond (int_eq (digital_value x.bytes.now h.place) (digital_value y.bytes.now k.place)) None (Some (change x h.place y k.place))
    → found ≡ heads x.den (sample_at x h.place) y.den (sample_at y k.place)
head_both x y h k found is also le ge e = e ∙ sym (rw (later-head x y h k is also le, later-head y x k h also is ge) refl)
