-- The limits of a time: by its value and the bytes behind the 12th, and by the zeros that don't count.
use Rattle.std.proofs.Common.{◌≡◌, ◌⊎◌, inl, inr, ℕ, zero, suc, ℤ, ◌+◌, ◌-◌, ◌*◌, ◌^◌, ◌<◌, ◌≤◌, ◌==◌, Bool, ◌&&◌, true, false, cond, List, [], ◌∷◌, length, take, drop, refl, ap, ◌∙◌, sym, subst, arith, lit<, eqb-true, Option, Some, None, MatchOption, pos, unsigned_abs, ◌≤ℤ◌, ◌<ℤ◌}
use Rattle.std.specs.List.{list_all}
use Rattle.std.proofs.Math.Nat.{pow-le-pow_right, mul-le-mul_right, mul_assoc}
use Rattle.std.proofs.lemmas.Nat.{pow-add}
use Rattle.std.proofs.lemmas.Bool.{cases_Bool, cases_lt}
use Rattle.std.proofs.lemmas.Bool.Decides.{nat_tests}
use Rattle.std.proofs.lemmas.List.{length-take}
use Rattle.edf_fields.specs.texts.Numbers.{AreDigits, weight, signed, has_minus, before_dot, behind_dot, decimal}
use Rattle.edf_fields.specs.texts.Onsets.{IsTime, time_of, SpellsOnset}
use Rattle.edf_fields.specs.texts.OnsetsReading.{without_leading_zeros, without_trailing_zeros, IsTimeRead, time_read, ReadsOnset, ReadsSpan, SpellsSpan, onset_of, span_of, OnsetIsSpelled, SpanIsSpelled}
use Rattle.edf_fields.proofs.texts.DigitFacts.{below_power}
use Rattle.edf_fields.proofs.texts.ValueFacts.{weight-below}
use Rattle.edf_fields.proofs.texts.OnsetFacts.{onset_of_read, onset_of_found, onset_of_missing, span_of_read, span_of_found, span_of_missing, onset_read_small, span_read_small}
use Rattle.edf_fields.proofs.texts.ZeroFacts.{leading_digits, weight_leading}

and_true : (a b : Bool) → (a && b) ≡ true → (a ≡ true) × (b ≡ true)
and_true true b h = (refl, h)
and_true false b h = absurd (let f : false ≡ true = h in cc)

-- ---- seconds

-- what is left of digits without the zeros in front is nothing, or begins with another digit
record BeginsHigh (w : List ℕ) : Type 0 where
  digit : ℕ
  digits : List ℕ
  is : w ≡ digit ∷ digits
  high : 49 ≤ digit

leading-first : (w : List ℕ) → AreDigits w → (without_leading_zeros w ≡ []) ⊎ BeginsHigh (without_leading_zeros w)
leading-first [] h = inl refl
leading-first (c ∷ cs) h = elim (cases_Bool (c == 48)) [
  | inl nought ↦ rw nought (leading-first cs (λ k lt. h (suc k) (omega (arith, lt))))
  | inr other ↦ inr (rw other (record { digit = c; digits = cs; is = refl; high = above c (h 0 (omega arith)).0 other }))
]
  where
    above : (c : ℕ) → 48 ≤ c → (c == 48) ≡ false → 49 ≤ c
    above c low other = grind (arith, nat_tests)

-- such a number has at least the value of its first place
first-place : (c : ℕ) (cs : List ℕ) → 49 ≤ c → 10 ^ length cs ≤ weight (c ∷ cs)
first-place c cs h =
    let one : 1 ≤ c - 48 = omega (arith, h) in
    let top : 1 * 10 ^ length cs ≤ (c - 48) * 10 ^ length cs = mul-le-mul_right (10 ^ length cs) one in
    omega (arith, top)

few-seconds : (w : List ℕ) → AreDigits w → weight w < 10 ^ 9 → length (without_leading_zeros w) ≤ 9
few-seconds w h low = elim (leading-first w h) [
  | inl none ↦ let short : length (without_leading_zeros w) ≡ 0 = ap length none in omega (arith, short)
  | inr some ↦
      let size : length (without_leading_zeros w) ≡ suc (length some.digits) = ap length some.is in
      let value : weight (some.digit ∷ some.digits) ≡ weight w = ap weight (sym some.is) ∙ weight_leading w in
      let above : 10 ^ length some.digits ≤ weight (some.digit ∷ some.digits) = first-place some.digit some.digits some.high in
      elim (cases_lt (length some.digits) 9) [
        | inl lt ↦ omega (arith, size, lt)
        | inr ge ↦
            let big : 10 ^ 9 ≤ 10 ^ length some.digits = pow-le-pow_right (lit< tt) ge in
            absurd (omega (arith, low, value, above, big))
      ]
]

low-seconds : (w : List ℕ) → AreDigits w → length (without_leading_zeros w) ≤ 9 → weight w < 10 ^ 9
low-seconds w h few =
    subst (λ n. n < 10 ^ 9) (weight_leading w) (below_power _ _ 9 (weight-below (without_leading_zeros w) (leading_digits w h)) few)

-- ---- the fraction

gone : (c : ℕ) (cs : List ℕ) → list_all (λ b. b == 48) (c ∷ cs) ≡ true → without_trailing_zeros (c ∷ cs) ≡ []
gone c cs h = ap (λ b. cond b [] (c ∷ without_trailing_zeros cs)) h

kept : (c : ℕ) (cs : List ℕ) → list_all (λ b. b == 48) (c ∷ cs) ≡ false → without_trailing_zeros (c ∷ cs) ≡ c ∷ without_trailing_zeros cs
kept c cs h = ap (λ b. cond b [] (c ∷ without_trailing_zeros cs)) h

all-behind : (n : ℕ) (f : List ℕ) → list_all (λ b. b == 48) f ≡ true → list_all (λ b. b == 48) (drop n f) ≡ true
all-behind zero f h = h
all-behind (suc n) [] h = refl
all-behind (suc n) (c ∷ cs) h = all-behind n cs (and_true (c == 48) (list_all (λ b. b == 48) cs) h).1

zeros-behind : (n : ℕ) (f : List ℕ) → length (without_trailing_zeros f) ≤ n → list_all (λ b. b == 48) (drop n f) ≡ true
zeros-behind zero [] few = refl
zeros-behind (suc n) [] few = refl
zeros-behind zero (c ∷ cs) few = elim (cases_Bool (list_all (λ b. b == 48) (c ∷ cs))) [
  | inl all ↦ all
  | inr some ↦ let size : length (without_trailing_zeros (c ∷ cs)) ≡ suc (length (without_trailing_zeros cs)) = ap length (kept c cs some) in absurd (omega (arith, size, few))
]
zeros-behind (suc n) (c ∷ cs) few = elim (cases_Bool (list_all (λ b. b == 48) (c ∷ cs))) [
  | inl all ↦ all-behind (suc n) (c ∷ cs) all
  | inr some ↦
      let size : length (without_trailing_zeros (c ∷ cs)) ≡ suc (length (without_trailing_zeros cs)) = ap length (kept c cs some) in
      zeros-behind n cs (omega (arith, size, few))
]

few-places : (n : ℕ) (f : List ℕ) → list_all (λ b. b == 48) (drop n f) ≡ true → length (without_trailing_zeros f) ≤ n
few-places zero [] h = omega arith
few-places zero (c ∷ cs) h = let size : length (without_trailing_zeros (c ∷ cs)) ≡ 0 = ap length (gone c cs h) in omega (arith, size)
few-places (suc n) [] h = omega arith
few-places (suc n) (c ∷ cs) h = elim (cases_Bool (list_all (λ b. b == 48) (c ∷ cs))) [
  | inl all ↦ let size : length (without_trailing_zeros (c ∷ cs)) ≡ 0 = ap length (gone c cs all) in omega (arith, size)
  | inr some ↦
      let size : length (without_trailing_zeros (c ∷ cs)) ≡ suc (length (without_trailing_zeros cs)) = ap length (kept c cs some) in
      let rest = few-places n cs h in
      omega (arith, size, rest)
]

-- digits behind a dot in units of the n-th place
abbrev places : ℕ → List ℕ → ℕ
places n f = weight f * 10 ^ (n - length f)

one-more : (n c : ℕ) (f : List ℕ) → length f ≤ n → places (suc n) (c ∷ f) ≡ (c - 48) * 10 ^ n + places n f
one-more n c f few =
    let left : suc n - length (c ∷ f) ≡ n - length f = omega arith in
    let power : 10 ^ length f * 10 ^ (n - length f) ≡ 10 ^ n = sym (pow-add 10 (length f) (n - length f)) ∙ ap (λ k. 10 ^ k) (let e : length f + (n - length f) ≡ n = omega (arith, few) in e) in
    let first : (c - 48) * 10 ^ length f * 10 ^ (n - length f) ≡ (c - 48) * 10 ^ n =
    mul_assoc (c - 48) (10 ^ length f) (10 ^ (n - length f)) ∙ ap (λ k. (c - 48) * k) power in
    let both : ((c - 48) * 10 ^ length f + weight f) * 10 ^ (n - length f) ≡ (c - 48) * 10 ^ length f * 10 ^ (n - length f) + weight f * 10 ^ (n - length f) = omega arith in
    ap (λ k. weight (c ∷ f) * 10 ^ k) left ∙ both ∙ ap (λ k. k + weight f * 10 ^ (n - length f)) first

weight-zeros : (n : ℕ) (f : List ℕ) → list_all (λ b. b == 48) f ≡ true → weight (take n f) ≡ 0
weight-zeros zero f h = refl
weight-zeros (suc n) [] h = refl
weight-zeros (suc n) (c ∷ cs) h =
    let parts = and_true (c == 48) (list_all (λ b. b == 48) cs) h in
    let none : c - 48 ≡ 0 = (let is : c ≡ 48 = eqb-true c 48 parts.0 in omega (arith, is)) in
    let rest = weight-zeros n cs parts.1 in
    ap (λ k. k * 10 ^ length (take n cs) + weight (take n cs)) none ∙ (let e : 0 * 10 ^ length (take n cs) + weight (take n cs) ≡ weight (take n cs) = omega arith in e) ∙ rest

nothing : (n k : ℕ) (f : List ℕ) → list_all (λ b. b == 48) f ≡ true → places n (take k f) ≡ 0
nothing n k f h = ap (λ w. w * 10 ^ (n - length (take k f))) (weight-zeros k f h) ∙ (let e : 0 * 10 ^ (n - length (take k f)) ≡ 0 = omega arith in e)

same-places : (n : ℕ) (f : List ℕ) → list_all (λ b. b == 48) (drop n f) ≡ true → places n (without_trailing_zeros f) ≡ places n (take n f)
same-places zero [] h = refl
same-places zero (c ∷ cs) h = ap (places 0) (gone c cs h)
same-places (suc n) [] h = refl
same-places (suc n) (c ∷ cs) h = elim (cases_Bool (list_all (λ b. b == 48) (c ∷ cs))) [
  | inl all ↦
      ap (places (suc n)) (gone c cs all) ∙ (let e : 0 * 10 ^ (suc n - 0) ≡ 0 = omega arith in e) ∙ sym (nothing (suc n) (suc n) (c ∷ cs) all)
  | inr some ↦
      let short : length (take n cs) ≤ n = omega (arith, length-take n cs) in
      ap (places (suc n)) (kept c cs some) ∙ one-more n c (without_trailing_zeros cs) (few-places n cs h)
      ∙ ap (λ k. (c - 48) * 10 ^ n + k) (same-places n cs h) ∙ sym (one-more n c (take n cs) short)
]

-- ---- times

pub time_is_read : (u : List ℕ) → IsTime u → IsTimeRead u
time_is_read u h = (
  (h.0.0, h.1, few-seconds (before_dot u) h.0.0 h.2),
  (h.0.1, few-places 12 (behind_dot u) h.3),
  h.4,
)

pub read_is_time : (u : List ℕ) → IsTimeRead u → IsTime u
read_is_time u h =
    let some : 0 < length (before_dot u) = h.0.1 in (
      (h.0.0, h.1.0, omega (arith, some)),
      some,
      low-seconds (before_dot u) h.0.0 h.0.2,
      zeros-behind 12 (behind_dot u) h.1.1,
      h.2,
    )

pub read_value : (u : List ℕ) → IsTimeRead u → time_read u ≡ time_of u
read_value u h =
    ap (λ k. k * 10 ^ 12 + places 12 (without_trailing_zeros (behind_dot u))) (weight_leading (before_dot u))
    ∙ ap (λ k. weight (before_dot u) * 10 ^ 12 + k) (same-places 12 (behind_dot u) (zeros-behind 12 (behind_dot u) h.1.1))

pub onset_is_read : (t : List ℕ) (v : ℤ) → SpellsOnset t v → ReadsOnset t v
onset_is_read t v h =
    let time = time_is_read (drop 1 t) h.1 in
    (h.0, time, h.2 ∙ ap (signed (has_minus t)) (sym (read_value (drop 1 t) time)))

pub read_is_onset : (t : List ℕ) (v : ℤ) → ReadsOnset t v → SpellsOnset t v
read_is_onset t v h = (h.0, read_is_time (drop 1 t) h.1, h.2 ∙ ap (signed (has_minus t)) (read_value (drop 1 t) h.1))

pub span_is_read : (t : List ℕ) (v : ℤ) → SpellsSpan t v → ReadsSpan t v
span_is_read t v h =
    let time = time_is_read t h.0 in
    (time, h.1 ∙ ap (λ n. pos n) (sym (read_value t time)))

pub read_is_span : (t : List ℕ) (v : ℤ) → ReadsSpan t v → SpellsSpan t v
read_is_span t v h = (read_is_time t h.0, h.1 ∙ ap (λ n. pos n) (read_value t h.0))

-- what is read of a text is what it spells
pub onset_spelled : (o : Option ℤ) (t : List ℕ) → MatchOption o ((v : ℤ) → ReadsOnset t v → ⊥) (ReadsOnset t) → MatchOption o ((v : ℤ) → SpellsOnset t v → ⊥) (SpellsOnset t)
onset_spelled None t h = λ v s. h v (onset_is_read t v s)
onset_spelled (Some v) t h = read_is_onset t v h

pub span_spelled : (o : Option ℤ) (t : List ℕ) → MatchOption o ((v : ℤ) → ReadsSpan t v → ⊥) (ReadsSpan t) → MatchOption o ((v : ℤ) → SpellsSpan t v → ⊥) (SpellsSpan t)
span_spelled None t h = λ v s. h v (span_is_read t v s)
span_spelled (Some v) t h = read_is_span t v h

pub onset_of_spelled : (t : List ℕ) (v : ℤ) → SpellsOnset t v → onset_of t ≡ Some v
onset_of_spelled t v h = onset_of_read t v (onset_is_read t v h)

pub onset_of_none : (t : List ℕ) → ((v : ℤ) → SpellsOnset t v → ⊥) → onset_of t ≡ None
onset_of_none t h = onset_of_missing t (λ v r. h v (read_is_onset t v r))

pub onset_of_some : (t : List ℕ) (v : ℤ) → onset_of t ≡ Some v → SpellsOnset t v
onset_of_some t v h = read_is_onset t v (onset_of_found t v h)

pub span_of_spelled : (t : List ℕ) (v : ℤ) → SpellsSpan t v → span_of t ≡ Some v
span_of_spelled t v h = span_of_read t v (span_is_read t v h)

pub span_of_none : (t : List ℕ) → ((v : ℤ) → SpellsSpan t v → ⊥) → span_of t ≡ None
span_of_none t h = span_of_missing t (λ v r. h v (read_is_span t v r))

pub span_of_some : (t : List ℕ) (v : ℤ) → span_of t ≡ Some v → SpellsSpan t v
span_of_some t v h = read_is_span t v (span_of_found t v h)

pub onset_is_spelled : OnsetIsSpelled
onset_is_spelled t v = (onset_of_some t v, onset_of_spelled t v)

pub span_is_spelled : SpanIsSpelled
span_is_spelled t v = (span_of_some t v, span_of_spelled t v)

-- an onset is less than 10^9 seconds in size, and so is a duration, which isn't below 0
pub onset_small : (t : List ℕ) (v : ℤ) → SpellsOnset t v → unsigned_abs v < 10 ^ 21
onset_small t v h = onset_read_small t v (onset_is_read t v h)

pub span_small : (t : List ℕ) (v : ℤ) → SpellsSpan t v → (pos 0 ≤ℤ v) × (v <ℤ pos (10 ^ 21))
span_small t v h = span_read_small t v (span_is_read t v h)
