-- The numbers of fields of at most 8 bytes, and a duration in picoseconds.
use Rattle.std.proofs.Common.{◌≡◌, ℕ, ℤ, pos, Bool, true, false, ◌+◌, ◌-◌, ◌*◌, ◌^◌, ◌≤◌, List, length, drop, arith, ap, ◌∙◌, sym, refl}
use Rattle.std.specs.Prelude.{◌*ℤ◌}
use Rattle.std.proofs.Math.Nat.{mul_left_comm}
use Rattle.std.proofs.lemmas.Nat.{pow-add}
use Rattle.std.proofs.lemmas.Int.{ints}
use Rattle.std.proofs.lemmas.List.{length-take}
use Rattle.edf_fields.specs.Parts.{part, text_of}
use Rattle.edf_fields.specs.texts.Numbers.{weight, has_minus, unsigned, signed, before_dot, behind_dot, decimal, SpellsWhole, SpellsDecimal}
use Rattle.edf_fields.specs.texts.NumbersReading.{SpellsWholeNumber, SpellsHeaderNumber}
use Rattle.edf_fields.proofs.PartFacts.{length-text_of}
use Rattle.edf_fields.proofs.texts.ValueFacts.{length-unsigned, length-behind_dot}

-- a part of at most 8 bytes is as short as the field of a number
part-short : (bytes : List ℕ) (at w : ℕ) → w ≤ 8 → length (part bytes at w) ≤ 8
part-short bytes at w few = omega (arith, few, length-take w (drop at bytes))

pub whole_in : (bytes : List ℕ) (at w : ℕ) (v : ℤ) → w ≤ 8 → SpellsWhole (text_of (part bytes at w)) v → SpellsWholeNumber (part bytes at w) v
whole_in bytes at w v few h = (part-short bytes at w few, h)

pub decimal_in : (bytes : List ℕ) (at w : ℕ) (v : ℤ) → w ≤ 8 → SpellsDecimal 7 (text_of (part bytes at w)) v → SpellsHeaderNumber (part bytes at w) v
decimal_in bytes at w v few h = (part-short bytes at w few, h)

-- with at most 7 digits behind the dot a number of 10^-12 is that of 10^-7, times 100000
units-of : (w f : List ℕ) → length f ≤ 7 → decimal 12 w f ≡ 100000 * decimal 7 w f
units-of w f few =
    let places : 12 - length f ≡ 5 + (7 - length f) = omega (arith, few) in
    let power : 10 ^ (12 - length f) ≡ 100000 * 10 ^ (7 - length f) = ap (λ k. 10 ^ k) places ∙ pow-add 10 5 (7 - length f) in
    let rest : weight f * 10 ^ (12 - length f) ≡ 100000 * (weight f * 10 ^ (7 - length f)) =
    ap (λ k. weight f * k) power ∙ mul_left_comm (weight f) 100000 (10 ^ (7 - length f)) in
    omega (arith, rest)

signed-units : (b : Bool) (n : ℕ) → signed b (100000 * n) ≡ signed b n *ℤ pos 100000
signed-units true n = omega (arith, ints)
signed-units false n = omega (arith, ints)

few-behind : (field : List ℕ) → length field ≤ 8 → length (behind_dot (unsigned (text_of field))) ≤ 7
few-behind field short = omega (arith, short, length-text_of field, length-unsigned (text_of field), length-behind_dot (unsigned (text_of field)))

in-twelve : (field : List ℕ) → length field ≤ 8 → signed (has_minus (text_of field)) (decimal 12 (before_dot (unsigned (text_of field))) (behind_dot (unsigned (text_of field))))
    ≡ signed (has_minus (text_of field)) (decimal 7 (before_dot (unsigned (text_of field))) (behind_dot (unsigned (text_of field)))) *ℤ pos 100000
in-twelve field short =
    let u = unsigned (text_of field) in
    ap (signed (has_minus (text_of field))) (units-of (before_dot u) (behind_dot u) (few-behind field short))
    ∙ signed-units (has_minus (text_of field)) (decimal 7 (before_dot u) (behind_dot u))

-- a duration in picoseconds is the number of 10^-7 s that its field spells, times 100000
pub to_picoseconds : (field : List ℕ) (units : ℤ) → SpellsHeaderNumber field units → SpellsDecimal 12 (text_of field) (units *ℤ pos 100000)
to_picoseconds field units h = (h.1.0, ap (λ z. z *ℤ pos 100000) h.1.1 ∙ sym (in-twelve field h.0))

pub from_picoseconds : (bytes : List ℕ) (at w : ℕ) (d : ℤ) → w ≤ 8 → SpellsDecimal 12 (text_of (part bytes at w)) d
    → (units : ℤ) × SpellsHeaderNumber (part bytes at w) units × (d ≡ units *ℤ pos 100000)
from_picoseconds bytes at w d few h =
    let field = part bytes at w in
    let short = part-short bytes at w few in
    let u = unsigned (text_of field) in
    (signed (has_minus (text_of field)) (decimal 7 (before_dot u) (behind_dot u)), (short, (h.0, refl)), h.1 ∙ in-twelve field short)
