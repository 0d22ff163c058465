-- How large the numbers are that fields spell.
use Rattle.std.proofs.Common.{◌≡◌, ℕ, ℤ, Bool, true, false, suc, ◌+◌, ◌-◌, ◌*◌, ◌^◌, ◌<◌, ◌≤◌, List, [], ◌∷◌, length, arith, ap, ◌∙◌, lit<, length-drop, ◌==◌}
use Rattle.std.specs.Prelude.{unsigned_abs}
use Rattle.std.specs.List.{position_or_len}
use Rattle.std.proofs.Math.Nat.{pow-succ', mul-le-mul_right}
use Rattle.std.proofs.lemmas.Int.{ints}
use Rattle.std.proofs.lemmas.Grind.{common_steps}
use Rattle.std.proofs.lemmas.List.{length-take}
use Rattle.edf_fields.specs.texts.Numbers.{weight, unsigned, signed, has_minus, before_dot, behind_dot, decimal, AreDigits}
use Rattle.edf_fields.specs.texts.NumbersReading.{SpellsHeaderNumber, SpellsWholeNumber}
use Rattle.edf_fields.specs.Parts.{text_of}
use Rattle.edf_fields.proofs.PartFacts.{length-text_of}
use Rattle.edf_fields.proofs.texts.DigitFacts.{below_power, fraction_below}

-- n digits are less than 10^n
pub weight-below : (ds : List ℕ) → AreDigits ds → weight ds < 10 ^ length ds
weight-below [] h = lit< tt
weight-below (d ∷ ds) h =
    let first : (48 ≤ d) × (d ≤ 57) = h 0 (omega arith) in
    let rest : AreDigits ds = λ k lt. h (suc k) (omega arith) in
    let small : weight ds < 10 ^ length ds = weight-below ds rest in
    let nine : d - 48 ≤ 9 = omega (arith, first.1) in
    let top : (d - 48) * 10 ^ length ds ≤ 9 * 10 ^ length ds = mul-le-mul_right (10 ^ length ds) nine in
    let power : 10 ^ suc (length ds) ≡ 10 * 10 ^ length ds = pow-succ' 10 (length ds) in
    omega (arith, small, top, power)

-- a sign doesn't change the size
pub size-signed : (b : Bool) (n : ℕ) → unsigned_abs (signed b n) ≡ n
size-signed true n = omega (arith, ints)
size-signed false n = omega (arith, ints)

pub length-unsigned : (t : List ℕ) → length (unsigned t) ≤ length t
length-unsigned t = grind (arith, common_steps)

pub length-before_dot : (u : List ℕ) → length (before_dot u) ≤ length u
length-before_dot u = omega (arith, length-take (position_or_len (λ b. b == 46) u) u)

pub length-behind_dot : (u : List ℕ) → length (behind_dot u) ≤ length u - 1
length-behind_dot u = omega (arith, length-drop (position_or_len (λ b. b == 46) u + 1) u)

-- a whole number has at most as many digits as its field has bytes
pub whole_number-below : (field : List ℕ) (v : ℤ) → SpellsWholeNumber field v → unsigned_abs v < 10 ^ length field
whole_number-below field v h =
    let few : length (unsigned (text_of field)) ≤ length field = omega (arith, length-unsigned (text_of field), length-text_of field) in
    let small : weight (unsigned (text_of field)) < 10 ^ length field = below_power _ _ _ (weight-below (unsigned (text_of field)) h.1.0) few in
    let size : unsigned_abs v ≡ weight (unsigned (text_of field)) = ap unsigned_abs h.1.2 ∙ size-signed (has_minus (text_of field)) _ in
    omega (arith, small, size)

-- a header number has at most eight digits before the dot, and seven behind it
pub header_number-below : (field : List ℕ) (v : ℤ) → SpellsHeaderNumber field v → unsigned_abs v < 10 ^ 15
header_number-below field v h =
    let short : length (unsigned (text_of field)) ≤ 8 = omega (arith, length-unsigned (text_of field), length-text_of field, h.0) in
    let whole_few : length (before_dot (unsigned (text_of field))) ≤ 8 = omega (arith, short, length-before_dot (unsigned (text_of field))) in
    let fraction_few : length (behind_dot (unsigned (text_of field))) ≤ 7 = omega (arith, short, length-behind_dot (unsigned (text_of field))) in
    let whole_small : weight (before_dot (unsigned (text_of field))) < 10 ^ 8 = below_power _ _ 8 (weight-below _ h.1.0.0) whole_few in
    let fraction_small = fraction_below _ _ fraction_few (weight-below _ h.1.0.1) in
    let size : unsigned_abs v ≡ decimal 7 (before_dot (unsigned (text_of field))) (behind_dot (unsigned (text_of field))) = ap unsigned_abs h.1.1 ∙ size-signed (has_minus (text_of field)) _ in
    omega (arith, whole_small, fraction_small, size)
