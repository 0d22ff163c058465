-- The time of a text, as a relation and as a function.
use Rattle.std.proofs.Common.{◌≡◌, ℕ, ℤ, Bool, true, false, not, [], ◌∷◌, ◌^◌, ◌*◌, ◌-◌, ◌<◌, ◌≤◌, ◌≤ℤ◌, ◌<ℤ◌, lit<, List, length, drop, arith, refl, ap, ◌∙◌, sym, Option, Some, None, MatchOption, nat_le, nat_lt, ◌&&◌, ◌||◌, cond, pos, unsigned_abs, subst, ◌==◌}
use Rattle.std.specs.List.{list_all, list_any}
use Rattle.std.proofs.lemmas.Bool.Decides.{nat_tests}
use Rattle.std.proofs.lemmas.Grind.{common_steps}
use Rattle.std.proofs.lemmas.Int.{ints}
use Rattle.std.proofs.Math.Nat.{pow-le-pow_right}
use Rattle.edf_fields.specs.texts.Numbers.{AreDigits, weight, signed, has_minus, before_dot, behind_dot, has_sign}
use Rattle.edf_fields.specs.texts.NumbersReading.{is_digit}
use Rattle.edf_fields.specs.texts.OnsetsReading.{are_seconds, is_fraction, is_time, onset_of, span_of, AreSeconds, IsFraction, ReadsSpan, without_leading_zeros, without_trailing_zeros, IsTimeRead, time_read, ReadsOnset}
use Rattle.edf_fields.proofs.texts.DigitFacts.{below_power}
use Rattle.edf_fields.proofs.texts.NumberFacts.{digits_tested, tested_digits}
use Rattle.edf_fields.proofs.texts.ZeroFacts.{leading_digits, digits_leading, trailing_digits, digits_trailing, fraction_under}
use Rattle.edf_fields.proofs.texts.ValueFacts.{weight-below}

-- the seconds that digits are, where there is a digit
pub seconds_read : (o : Option ℕ) (w : List ℕ) → 0 < length w → length (without_leading_zeros w) ≤ 9
    → MatchOption o (AreDigits (without_leading_zeros w) → ⊥) (λ v. AreDigits (without_leading_zeros w) × (v ≡ weight (without_leading_zeros w)) × (v < 10 ^ length (without_leading_zeros w)))
    → MatchOption o (AreSeconds w → ⊥) (λ v. AreSeconds w × (v ≡ weight (without_leading_zeros w)) × (v < 10 ^ 9))
seconds_read None w some few h = λ seconds. h (leading_digits w seconds.0)
seconds_read (Some v) w some few h = ((digits_leading w h.0, some, few), h.1, below_power v _ 9 h.2 few)

-- the picoseconds that digits behind a dot are
pub fraction_missing : (f : List ℕ) → (AreDigits (without_trailing_zeros f) → ⊥) → IsFraction f → ⊥
fraction_missing f h fraction = h (trailing_digits f fraction.0)

pub fraction_read : (f : List ℕ) → AreDigits (without_trailing_zeros f) → length (without_trailing_zeros f) ≤ 12 → IsFraction f
fraction_read f h few = (digits_trailing f h, few)

-- a dot stands in a text that goes on behind what stands before the dot
pub dot_stands : (u : List ℕ) → list_any (λ b. b == 46) u ≡ nat_lt (length (before_dot u)) (length u)
dot_stands [] = refl
dot_stands (c ∷ cs) = grind (arith, nat_tests, common_steps, dot_stands cs)

-- both tests
both : (a b : Bool) → a ≡ true → b ≡ true → (a && b) ≡ true
both a b p q = cc

pub and_true : (a b : Bool) → (a && b) ≡ true → (a ≡ true) × (b ≡ true)
and_true true b h = (refl, h)
and_true false b h = absurd (let f : false ≡ true = h in cc)

le_true : (a b : ℕ) → a ≤ b → nat_le a b ≡ true
le_true a b h = grind (arith, nat_tests)

true_le : (a b : ℕ) → nat_le a b ≡ true → a ≤ b
true_le a b h = grind (arith, nat_tests)

lt_true : (a b : ℕ) → a < b → nat_lt a b ≡ true
lt_true a b h = grind (arith, nat_tests)

true_lt : (a b : ℕ) → nat_lt a b ≡ true → a < b
true_lt a b h = grind (arith, nat_tests)

unless_true : (a b : Bool) → (a ≡ true → b ≡ true) → (not a || b) ≡ true
unless_true true b h = h refl
unless_true false b h = refl

true_unless : (a b : Bool) → (not a || b) ≡ true → a ≡ true → b ≡ true
true_unless true b h e = h
true_unless false b h e = absurd (cc)

-- a time, as a relation and as a test
time_tested : (u : List ℕ) → IsTimeRead u → is_time u ≡ true
time_tested u h =
    both (are_seconds (before_dot u)) (is_fraction (behind_dot u) && (not (list_any (λ b. b == 46) u) || nat_lt 0 (length (behind_dot u))))
    (both (list_all is_digit (before_dot u)) _ (digits_tested _ h.0.0) (both _ _ (lt_true 0 (length (before_dot u)) h.0.1) (le_true _ _ h.0.2)))
    (both (is_fraction (behind_dot u)) (not (list_any (λ b. b == 46) u) || nat_lt 0 (length (behind_dot u)))
    (both (list_all is_digit (behind_dot u)) _ (digits_tested _ h.1.0) (le_true _ _ h.1.1))
    (unless_true (list_any (λ b. b == 46) u) _ (λ dot. lt_true 0 (length (behind_dot u)) (h.2 dot))))

tested_time : (u : List ℕ) → is_time u ≡ true → IsTimeRead u
tested_time u h =
    let outer = and_true (are_seconds (before_dot u)) (is_fraction (behind_dot u) && (not (list_any (λ b. b == 46) u) || nat_lt 0 (length (behind_dot u)))) h in
    let seconds = and_true (list_all is_digit (before_dot u)) (nat_lt 0 (length (before_dot u)) && nat_le (length (without_leading_zeros (before_dot u))) 9) outer.0 in
    let count = and_true (nat_lt 0 (length (before_dot u))) (nat_le (length (without_leading_zeros (before_dot u))) 9) seconds.1 in
    let inner = and_true (is_fraction (behind_dot u)) (not (list_any (λ b. b == 46) u) || nat_lt 0 (length (behind_dot u))) outer.1 in
    let fraction = and_true (list_all is_digit (behind_dot u)) (nat_le (length (without_trailing_zeros (behind_dot u))) 12) inner.0 in (
      (tested_digits _ seconds.0, true_lt _ _ count.0, true_le _ _ count.1),
      (tested_digits _ fraction.0, true_le _ _ fraction.1),
      λ dot. true_lt 0 (length (behind_dot u)) (true_unless (list_any (λ b. b == 46) u) (nat_lt 0 (length (behind_dot u))) inner.1 dot),
    )

-- from the relations to the functions
cond_none : (t : Bool) (x : ℤ) → (t ≡ true → ⊥) → cond t (Some x) None ≡ None
cond_none true x h = absurd (h refl)
cond_none false x h = refl

cond_is : (t : Bool) (x v : ℤ) → cond t (Some x) None ≡ Some v → (t ≡ true) × (v ≡ x)
cond_is true x v h = (refl, cc)
cond_is false x v h = absurd (cc)

pub onset_of_read : (t : List ℕ) (v : ℤ) → ReadsOnset t v → onset_of t ≡ Some v
unfolding onset_of
onset_of_read t v h =
    let test : (has_sign t && is_time (drop 1 t)) ≡ true = both _ _ h.0 (time_tested (drop 1 t) h.1) in
    ap (λ b. cond b (Some (signed (has_minus t) (time_read (drop 1 t)))) None) test ∙ ap Some (sym h.2)

pub onset_of_missing : (t : List ℕ) → ((v : ℤ) → ReadsOnset t v → ⊥) → onset_of t ≡ None
unfolding onset_of
onset_of_missing t h =
    cond_none (has_sign t && is_time (drop 1 t)) (signed (has_minus t) (time_read (drop 1 t)))
    (λ test.
    let found = and_true (has_sign t) (is_time (drop 1 t)) test in
    h _ (found.0, tested_time (drop 1 t) found.1, refl))

pub onset_of_found : (t : List ℕ) (v : ℤ) → onset_of t ≡ Some v → ReadsOnset t v
unfolding onset_of
onset_of_found t v h =
    let found = cond_is (has_sign t && is_time (drop 1 t)) (signed (has_minus t) (time_read (drop 1 t))) v h in
    let tests = and_true (has_sign t) (is_time (drop 1 t)) found.0 in
    (tests.0, tested_time (drop 1 t) tests.1, found.1)

pub span_of_read : (t : List ℕ) (v : ℤ) → ReadsSpan t v → span_of t ≡ Some v
unfolding span_of
span_of_read t v h = ap (λ b. cond b (Some (pos (time_read t))) None) (time_tested t h.0) ∙ ap Some (sym h.1)

pub span_of_missing : (t : List ℕ) → ((v : ℤ) → ReadsSpan t v → ⊥) → span_of t ≡ None
unfolding span_of
span_of_missing t h = cond_none (is_time t) (pos (time_read t)) (λ test. h _ (tested_time t test, refl))

pub span_of_found : (t : List ℕ) (v : ℤ) → span_of t ≡ Some v → ReadsSpan t v
unfolding span_of
span_of_found t v h =
    let found = cond_is (is_time t) (pos (time_read t)) v h in
    (tested_time t found.0, found.1)

-- a time is below 10^9 seconds
time_below : (u : List ℕ) → IsTimeRead u → time_read u < 10 ^ 21
time_below u h =
    let w : List ℕ = without_leading_zeros (before_dot u) in
    let f : List ℕ = without_trailing_zeros (behind_dot u) in
    let whole : weight w < 10 ^ length w = weight-below w (leading_digits (before_dot u) h.0.0) in
    let most : 10 ^ length w ≤ 10 ^ 9 = pow-le-pow_right (lit< tt) h.0.2 in
    let rest : weight f * 10 ^ (12 - length f) < 10 ^ 12 = fraction_under (weight f) (length f) h.1.1 (weight-below f (trailing_digits (behind_dot u) h.1.0)) in
    omega (arith, whole, most, rest)

-- a duration isn't below 0, and it is below 10^9 seconds
pub span_read_small : (t : List ℕ) (v : ℤ) → ReadsSpan t v → (pos 0 ≤ℤ v) × (v <ℤ pos (10 ^ 21))
span_read_small t v h =
    let below : time_read t < 10 ^ 21 = time_below t h.0 in
    let value : v ≡ pos (time_read t) = h.1 in
    (omega (arith, ints, value), omega (arith, ints, value, below))

-- an onset is less than 10^9 seconds in size
pub onset_read_small : (t : List ℕ) (v : ℤ) → ReadsOnset t v → unsigned_abs v < 10 ^ 21
onset_read_small t v h =
    let below : time_read (drop 1 t) < 10 ^ 21 = time_below (drop 1 t) h.1 in
    subst (λ (z : ℤ). unsigned_abs z < 10 ^ 21) (sym h.2) (near (has_minus t) (time_read (drop 1 t)) below)
  where
    near : (b : Bool) (n : ℕ) → n < 10 ^ 21 → unsigned_abs (signed b n) < 10 ^ 21
    near true n lt = omega (arith, ints, lt)
    near false n lt = lt

pub onset_read : (o : Option ℤ) (t : List ℕ) → MatchOption o ((v : ℤ) → ReadsOnset t v → ⊥) (ReadsOnset t) → o ≡ onset_of t
onset_read None t h = sym (onset_of_missing t h)
onset_read (Some v) t h = sym (onset_of_read t v h)

pub span_read : (o : Option ℤ) (t : List ℕ) → MatchOption o ((v : ℤ) → ReadsSpan t v → ⊥) (ReadsSpan t) → o ≡ span_of t
span_read None t h = sym (span_of_missing t h)
span_read (Some v) t h = sym (span_of_read t v h)
