-- How many bytes the TAL takes that keeps the time from a whole second on.
use Rattle.std.proofs.Common.{◌≡◌, ℕ, ℤ, pos, cond, ◌+◌, ◌/◌, ◌%◌, ◌^◌, ◌==◌, ◌<◌, ◌≤◌, int_lt, unsigned_abs, [], ◌∷◌, ◌++◌, length, arith, ap, ◌∙◌, sym, length-append}
use Rattle.std.specs.Fmt.{decimal}
use Rattle.std.specs.Int.Digits.{digits_of}
use Rattle.std.proofs.Math.Nat.{div-add-mod, div-le_self, mod-lt}
use Rattle.std.proofs.lemmas.Fmt.{decimal-digits_of, decimal_digit, decimal_nonempty, length-decimal-le}
use Rattle.std.proofs.lemmas.Int.Digits.{length-digits_of_step}
use Rattle.std.proofs.lemmas.List.{append-nil, length-map}
use Rattle.edf_layout.specs.body.PlainOrders.{last_digits, plain_time, tal_bytes, tal_of_start}

-- a number has one digit more than its tenth
pub digits-step : (n : ℕ) → 10 ≤ n → n < 2 ^ 64 → length (decimal n) ≡ length (decimal (n / 10)) + 1
digits-step n most fits =
    let parts = div-add-mod n 10 in
    let low : n % 10 < 10 = mod-lt n (let z : 0 < 10 = omega arith in z) in
    let some : 0 < n / 10 = omega (arith, parts, low, most) in
    let self = div-le_self n 10 in
    let under : n / 10 < 2 ^ 64 = omega (arith, self, fits) in
    let long : length (decimal n) ≡ length (digits_of 10 n) = ap length (decimal-digits_of n (omega (arith, most)) fits) ∙ length-map (digits_of 10 n) (λ d. 48 + d) in
    let short : length (decimal (n / 10)) ≡ length (digits_of 10 (n / 10)) = ap length (decimal-digits_of (n / 10) some under) ∙ length-map (digits_of 10 (n / 10)) (λ d. 48 + d) in
    long ∙ length-digits_of_step 10 n (omega arith) (omega (arith, most)) ∙ ap (λ k. k + 1) (sym short)

-- the digits that are counted, and those of what is left
pub record Counted (number count rest : ℕ) : Type 0 where
  pub told : count + length (decimal rest) ≡ length (decimal number) + 1
  pub few : count ≤ 20

pub none-counted : (number : ℕ) → Counted number 1 number
none-counted number = record { told = omega arith; few = omega arith }

pub one-counted : (number count rest after tenth : ℕ) → number < 2 ^ 64 → rest < 2 ^ 64 → 10 ≤ rest → after ≡ count + 1 → tenth ≡ rest / 10 → Counted number count rest → Counted number after tenth
one-counted number count rest after tenth fits under most more is c =
    let step = digits-step rest most under in
    let before = c.told in
    let same : length (decimal tenth) ≡ length (decimal (rest / 10)) = ap (λ n. length (decimal n)) is in
    let told : after + length (decimal tenth) ≡ length (decimal number) + 1 = omega (arith, step, before, same, more) in
    let long = length-decimal-le 20 number (omega arith) (let z : number < 10 ^ 20 = below number fits in z) fits in
    let self = div-le_self rest 10 in
    let left = decimal_nonempty tenth (let z : tenth < 2 ^ 64 = omega (arith, self, is, under) in z) in
    record { told = told; few = omega (arith, told, long, left) }
  where
    below : (n : ℕ) → n < 2 ^ 64 → n < 10 ^ 20
    below n h = omega (arith, h)

pub all-counted : (number count rest : ℕ) → rest < 10 → Counted number count rest → count ≡ length (decimal number)
all-counted number count rest low c =
    let one : length (decimal rest) ≡ 1 = ap length (decimal_digit rest low) in
    let told = c.told in
    omega (arith, one, told)

-- a sign, the seconds, the bytes 20 and 20, and the byte 0
pub whole-start : (start : ℤ) (seconds count : ℕ) → seconds ≡ unsigned_abs start / 10 ^ 12 → unsigned_abs start % 10 ^ 12 ≡ 0 → count ≡ length (decimal seconds)
    → count + 4 ≡ tal_bytes (tal_of_start start)
unfolding plain_time
whole-start start seconds count is none digits =
    let ps : ℕ = unsigned_abs start in
    let sign : ℕ = cond (int_lt start (pos 0)) 45 43 in
    let text : plain_time ps ≡ decimal seconds =
    ap (λ r. decimal (ps / 10 ^ 12) ++ cond (r == 0) [] (46 ∷ last_digits 12 r)) none ∙ append-nil (decimal (ps / 10 ^ 12)) ∙ ap decimal (sym is) in
    let one = length-append ((sign ∷ decimal seconds) ++ []) (20 ∷ 20 ∷ []) in
    let two = ap length (append-nil (sign ∷ decimal seconds)) in
    let bytes : count + 4 ≡ length (((sign ∷ decimal seconds) ++ []) ++ 20 ∷ 20 ∷ []) + 1 = omega (arith, one, two, digits) in
    bytes ∙ ap (λ t. length (((sign ∷ t) ++ []) ++ 20 ∷ 20 ∷ []) + 1) (sym text)
