-- Zeros in front of digits and at their end.
use Rattle.std.proofs.Common.{◌≡◌, ℕ, true, ◌+◌, ◌-◌, ◌*◌, ◌^◌, ◌<◌, ◌≤◌, ◌≢◌, List, [], ◌∷◌, ◌++◌, length, get_or, take, drop, drop-cons, add-one, arith, refl, ap, ◌∙◌, sym, lit<, ◌==◌}
use Rattle.std.specs.List.{list_all}
use Rattle.std.proofs.Math.Nat.{pow-le-pow_right, mul-lt-mul_of_pos_right}
use Rattle.std.proofs.Math.ListN.{drop_of_length-le}
use Rattle.std.proofs.lemmas.Nat.{pow-add}
use Rattle.std.proofs.lemmas.Bool.Decides.{nat_tests}
use Rattle.std.proofs.lemmas.Grind.{common_steps}
use Rattle.std.proofs.lemmas.List.{take_more}
use Rattle.edf_fields.specs.texts.Numbers.{AreDigits, weight}
use Rattle.edf_fields.specs.texts.NumbersReading.{is_digit}
use Rattle.edf_fields.specs.texts.OnsetsReading.{without_leading_zeros, without_trailing_zeros}
use Rattle.edf_fields.proofs.texts.NumberFacts.{digits_tested, tested_digits}

-- a byte in front, and the bytes behind it
leading_cons : (b : ℕ) (r : List ℕ) → b ≡ 48 → without_leading_zeros (b ∷ r) ≡ without_leading_zeros r
leading_cons b r e = grind (arith, common_steps)

leading_other : (b : ℕ) (r : List ℕ) → b ≢ 48 → without_leading_zeros (b ∷ r) ≡ b ∷ r
leading_other b r e = grind (arith, common_steps)

pub at_place : (xs : List ℕ) (i : ℕ) → i < length xs → drop i xs ≡ get_or xs i 0 ∷ drop (i + 1) xs
at_place xs i h = rw (add-one, drop-cons xs i 0)

pub leading_zero : (xs : List ℕ) (i : ℕ) → i < length xs → get_or xs i 0 ≡ 48 → without_leading_zeros (drop (i + 1) xs) ≡ without_leading_zeros (drop i xs)
leading_zero xs i h e = sym (ap without_leading_zeros (at_place xs i h) ∙ leading_cons (get_or xs i 0) (drop (i + 1) xs) e)

pub leading_digit : (xs : List ℕ) (i : ℕ) → i < length xs → get_or xs i 0 ≢ 48 → drop i xs ≡ without_leading_zeros (drop i xs)
leading_digit xs i h e = at_place xs i h ∙ sym (ap without_leading_zeros (at_place xs i h) ∙ leading_other (get_or xs i 0) (drop (i + 1) xs) e)

pub leading_end : (xs : List ℕ) (i : ℕ) → length xs ≤ i → drop i xs ≡ without_leading_zeros (drop i xs)
leading_end xs i h = let e : drop i xs ≡ [] = drop_of_length-le xs h in e ∙ sym (ap without_leading_zeros e)

-- a zero at the end doesn't count
trailing_snoc : (bs : List ℕ) → without_trailing_zeros (bs ++ 48 ∷ []) ≡ without_trailing_zeros bs
trailing_snoc [] = refl
trailing_snoc (c ∷ cs) = grind (arith, common_steps, trailing_snoc cs)

-- another byte at the end stays
trailing_other : (bs : List ℕ) (b : ℕ) → b ≢ 48 → without_trailing_zeros (bs ++ b ∷ []) ≡ bs ++ b ∷ []
trailing_other [] b h = grind (arith, common_steps)
trailing_other (c ∷ cs) b h = grind (arith, common_steps, trailing_other cs b h)

pub trailing_zero : (xs : List ℕ) (n : ℕ) → 0 < n → n ≤ length xs → get_or xs (n - 1) 0 ≡ 48 → without_trailing_zeros (take (n - 1) xs) ≡ without_trailing_zeros (take n xs)
trailing_zero xs n some within e =
    let low : n - 1 < length xs = omega arith in
    let next : n - 1 + 1 ≡ n = omega arith in
    let last = ap without_trailing_zeros (take_more xs (n - 1) 0 low ∙ ap (λ b. take (n - 1) xs ++ b ∷ []) e) ∙ trailing_snoc (take (n - 1) xs) in
    sym last ∙ ap (λ k. without_trailing_zeros (take k xs)) next

pub trailing_digit : (xs : List ℕ) (n : ℕ) → 0 < n → n ≤ length xs → get_or xs (n - 1) 0 ≢ 48 → take n xs ≡ without_trailing_zeros (take n xs)
trailing_digit xs n some within e =
    let low : n - 1 < length xs = omega arith in
    let next : n - 1 + 1 ≡ n = omega arith in
    let last : take n xs ≡ take (n - 1) xs ++ get_or xs (n - 1) 0 ∷ [] = ap (λ k. take k xs) (sym next) ∙ take_more xs (n - 1) 0 low in
    last ∙ sym (ap without_trailing_zeros last ∙ trailing_other (take (n - 1) xs) (get_or xs (n - 1) 0) e)

-- zeros in front have no weight
pub weight_leading : (w : List ℕ) → weight (without_leading_zeros w) ≡ weight w
weight_leading [] = refl
weight_leading (c ∷ cs) = grind (arith, nat_tests, common_steps, weight_leading cs)

-- the zeros left out are digits
leading_tested : (ds : List ℕ) → list_all is_digit (without_leading_zeros ds) ≡ list_all is_digit ds
leading_tested [] = refl
leading_tested (d ∷ ds) = grind (arith, nat_tests, common_steps, leading_tested ds)

zeros_tested : (ds : List ℕ) → list_all (λ b. b == 48) ds ≡ true → list_all is_digit ds ≡ true
zeros_tested [] h = refl
zeros_tested (d ∷ ds) h = grind (arith, nat_tests, common_steps, zeros_tested ds)

trailing_tested : (ds : List ℕ) → list_all is_digit (without_trailing_zeros ds) ≡ list_all is_digit ds
trailing_tested [] = refl
trailing_tested (d ∷ ds) = grind (arith, nat_tests, common_steps, trailing_tested ds, zeros_tested (d ∷ ds))

pub leading_digits : (ds : List ℕ) → AreDigits ds → AreDigits (without_leading_zeros ds)
leading_digits ds h = tested_digits _ (leading_tested ds ∙ digits_tested ds h)

pub digits_leading : (ds : List ℕ) → AreDigits (without_leading_zeros ds) → AreDigits ds
digits_leading ds h = tested_digits _ (sym (leading_tested ds) ∙ digits_tested _ h)

pub trailing_digits : (ds : List ℕ) → AreDigits ds → AreDigits (without_trailing_zeros ds)
trailing_digits ds h = tested_digits _ (trailing_tested ds ∙ digits_tested ds h)

pub digits_trailing : (ds : List ℕ) → AreDigits (without_trailing_zeros ds) → AreDigits ds
digits_trailing ds h = tested_digits _ (sym (trailing_tested ds) ∙ digits_tested _ h)

-- a fraction of at most twelve places is less than one
pub fraction_under : (f p : ℕ) → p ≤ 12 → f < 10 ^ p → f * 10 ^ (12 - p) < 10 ^ 12
fraction_under f p low h =
    let some : 0 < 10 ^ (12 - p) = pow-le-pow_right (lit< tt) (let z : 0 ≤ 12 - p = omega arith in z) in
    let less : f * 10 ^ (12 - p) < 10 ^ p * 10 ^ (12 - p) = mul-lt-mul_of_pos_right h some in
    let whole : 10 ^ p * 10 ^ (12 - p) ≡ 10 ^ 12 = sym (pow-add 10 p (12 - p)) ∙ ap (λ n. 10 ^ n) (let e : p + (12 - p) ≡ 12 = omega arith in e) in
    omega (arith, less, whole)
