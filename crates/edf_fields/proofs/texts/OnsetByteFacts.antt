-- Which bytes stand in a text that spells an onset or a duration.
use Rattle.std.proofs.Common.{◌≡◌, ℕ, ℤ, Bool, true, zero, suc, ◌<◌, ◌≤◌, List, [], ◌∷◌, length, drop, slice_index, arith, refl, Some, nat_eq, ◌||◌, ◌==◌}
use Rattle.std.specs.List.{list_all}
use Rattle.std.proofs.lemmas.Bool.Decides.{nat_tests}
use Rattle.std.proofs.lemmas.Grind.{common_steps}
use Rattle.edf_fields.specs.texts.Numbers.{before_dot, behind_dot, has_sign}
use Rattle.edf_fields.specs.texts.NumbersReading.{is_digit}
use Rattle.edf_fields.specs.texts.OnsetsReading.{onset_of, span_of}
use Rattle.edf_fields.proofs.texts.NumberFacts.{digits_tested}
use Rattle.edf_fields.proofs.texts.OnsetFacts.{and_true, onset_of_found, span_of_found}

-- the byte is a digit or a dot
abbrev pub is_time_byte : ℕ → Bool
is_time_byte b = is_digit b || (b == 46)

-- the byte is a digit, a dot or a sign
abbrev pub is_onset_byte : ℕ → Bool
is_onset_byte b = is_time_byte b || (nat_eq b 43 || nat_eq b 45)

digits_pass : (ds : List ℕ) → list_all is_digit ds ≡ true → list_all is_time_byte ds ≡ true
digits_pass [] h = refl
digits_pass (d ∷ ds) h = grind (arith, common_steps, digits_pass ds)

around_dot : (u : List ℕ) → list_all is_digit (before_dot u) ≡ true → list_all is_digit (behind_dot u) ≡ true → list_all is_time_byte u ≡ true
around_dot [] p q = refl
around_dot (c ∷ cs) p q = grind (arith, common_steps, around_dot cs, digits_pass cs)

times_pass : (u : List ℕ) → list_all is_time_byte u ≡ true → list_all is_onset_byte u ≡ true
times_pass [] h = refl
times_pass (c ∷ cs) h = grind (arith, common_steps, times_pass cs)

sign_passes : (t : List ℕ) → has_sign t ≡ true → list_all is_onset_byte (drop 1 t) ≡ true → list_all is_onset_byte t ≡ true
sign_passes [] h k = refl
sign_passes (c ∷ cs) h k = grind (arith, nat_tests, common_steps)

-- what spells a duration is digits and dots
pub span_bytes : (t : List ℕ) (v : ℤ) → span_of t ≡ Some v → list_all is_time_byte t ≡ true
span_bytes t v h =
    let spelled = span_of_found t v h in
    around_dot t (digits_tested _ spelled.0.0.0) (digits_tested _ spelled.0.1.0)

-- what spells an onset is digits, dots and signs
pub onset_bytes : (t : List ℕ) (v : ℤ) → onset_of t ≡ Some v → list_all is_onset_byte t ≡ true
onset_bytes t v h =
    let spelled = onset_of_found t v h in
    sign_passes t spelled.0 (times_pass (drop 1 t) (around_dot (drop 1 t) (digits_tested _ spelled.1.0.0) (digits_tested _ spelled.1.1.0)))

time_byte_low : (b : ℕ) → is_time_byte b ≡ true → 46 ≤ b
time_byte_low b h = grind (arith, nat_tests)

onset_byte_low : (b : ℕ) → is_onset_byte b ≡ true → 43 ≤ b
onset_byte_low b h = grind (arith, nat_tests)

passing_at : (p : ℕ → Bool) (xs : List ℕ) → list_all p xs ≡ true → (k : ℕ) → k < length xs → p (slice_index xs k) ≡ true
passing_at p [] h k lt = absurd (omega arith)
passing_at p (x ∷ xs) h zero lt = (and_true (p x) (list_all p xs) h).0
passing_at p (x ∷ xs) h (suc j) lt = passing_at p xs (and_true (p x) (list_all p xs) h).1 j (omega arith)

-- each byte of it is at least the dot
pub span_bytes_from : (t : List ℕ) (v : ℤ) → span_of t ≡ Some v → (k : ℕ) → k < length t → 46 ≤ slice_index t k
span_bytes_from t v h k lt = time_byte_low _ (passing_at is_time_byte t (span_bytes t v h) k lt)

-- each byte of it is at least the plus
pub onset_bytes_from : (t : List ℕ) (v : ℤ) → onset_of t ≡ Some v → (k : ℕ) → k < length t → 43 ≤ slice_index t k
onset_bytes_from t v h k lt = onset_byte_low _ (passing_at is_onset_byte t (onset_bytes t v h) k lt)
