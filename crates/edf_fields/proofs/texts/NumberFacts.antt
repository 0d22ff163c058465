-- The number of a field, as a relation and as a function.
use Rattle.std.proofs.Common.{◌≡◌, ℕ, ℤ, Bool, true, false, zero, suc, ◌+◌, ◌<◌, ◌≤◌, List, [], ◌∷◌, length, arith, refl, ap, ◌∙◌, sym, Option, Some, None, MatchOption, nat_le, nat_lt, ◌&&◌, cond}
use Rattle.std.specs.List.{list_all}
use Rattle.std.proofs.lemmas.Bool.Decides.{nat_tests}
use Rattle.edf_fields.specs.texts.Numbers.{weight, unsigned, signed, has_minus, before_dot, behind_dot, decimal, AreDigits}
use Rattle.edf_fields.specs.texts.NumbersReading.{SpellsOneHeaderNumber, SpellsOneWholeNumber, is_digit, is_whole, is_decimal, whole_number_of, header_number_of, WholeNumberIsSpelled, HeaderNumberIsSpelled, SpellsHeaderNumber, SpellsWholeNumber}
use Rattle.edf_fields.specs.Parts.{text_of}

digit_tested : (d : ℕ) → 48 ≤ d → d ≤ 57 → is_digit d ≡ true
digit_tested d low high = grind (arith, nat_tests)

tested_digit : (d : ℕ) → is_digit d ≡ true → (48 ≤ d) × (d ≤ 57)
tested_digit d h = grind (arith, nat_tests)

both_true : (a b : Bool) → a ≡ true → b ≡ true → (a && b) ≡ true
both_true a b p q = cc

and_true : (a b : Bool) → (a && b) ≡ true → (a ≡ true) × (b ≡ true)
and_true true b h = (refl, h)
and_true false b h = absurd (let f : false ≡ true = h in cc)

pub digits_tested : (ds : List ℕ) → AreDigits ds → list_all is_digit ds ≡ true
digits_tested [] h = refl
digits_tested (d ∷ ds) h =
    let first : (48 ≤ d) × (d ≤ 57) = h 0 (omega arith) in
    let rest : AreDigits ds = λ k lt. h (suc k) (omega arith) in
    both_true (is_digit d) (list_all is_digit ds) (digit_tested d first.0 first.1) (digits_tested ds rest)

pub tested_digits : (ds : List ℕ) → list_all is_digit ds ≡ true → AreDigits ds
tested_digits [] h k lt = absurd (omega arith)
tested_digits (d ∷ ds) h zero lt = tested_digit d (and_true (is_digit d) (list_all is_digit ds) h).0
tested_digits (d ∷ ds) h (suc j) lt = tested_digits ds (and_true (is_digit d) (list_all is_digit ds) h).1 j (omega arith)

cond_none : (t : Bool) (x : ℤ) → (t ≡ true → ⊥) → cond t (Some x) None ≡ None
cond_none true x h = absurd (h refl)
cond_none false x h = refl

le_true : (a b : ℕ) → a ≤ b → nat_le a b ≡ true
le_true a b h = grind (arith, nat_tests)

true_le : (a b : ℕ) → nat_le a b ≡ true → a ≤ b
true_le a b h = grind (arith, nat_tests)

lt_true : (a b : ℕ) → a < b → nat_lt a b ≡ true
lt_true a b h = grind (arith, nat_tests)

true_lt : (a b : ℕ) → nat_lt a b ≡ true → a < b
true_lt a b h = grind (arith, nat_tests)

pub whole_number_of-spelled : (field : List ℕ) (v : ℤ) → SpellsWholeNumber field v → whole_number_of field ≡ Some v
unfolding whole_number_of
whole_number_of-spelled field v h =
    let test : (nat_le (length field) 8 && is_whole (text_of field)) ≡ true =
    both_true _ _ (le_true _ _ h.0) (both_true _ _ (digits_tested _ h.1.0) (lt_true _ _ h.1.1)) in
    ap (λ b. cond b (Some (signed (has_minus (text_of field)) (weight (unsigned (text_of field))))) None) test ∙ ap Some (sym h.1.2)

pub whole_number_of-none : (field : List ℕ) → ((v : ℤ) → SpellsWholeNumber field v → ⊥) → whole_number_of field ≡ None
unfolding whole_number_of
whole_number_of-none field h =
    cond_none (nat_le (length field) 8 && is_whole (text_of field)) (signed (has_minus (text_of field)) (weight (unsigned (text_of field))))
    (λ test.
    let outer = and_true (nat_le (length field) 8) (is_whole (text_of field)) test in
    let inner = and_true (list_all is_digit (unsigned (text_of field))) (nat_lt 0 (length (unsigned (text_of field)))) outer.1 in
    h _ (true_le _ _ outer.0, (tested_digits _ inner.0, true_lt _ _ inner.1, refl)))

pub whole_number_read : (o : Option ℤ) (field : List ℕ) → MatchOption o ((v : ℤ) → SpellsWholeNumber field v → ⊥) (SpellsWholeNumber field) → o ≡ whole_number_of field
whole_number_read None field h = sym (whole_number_of-none field h)
whole_number_read (Some v) field h = sym (whole_number_of-spelled field v h)

-- the same for header numbers
pub header_number_of-spelled : (field : List ℕ) (v : ℤ) → SpellsHeaderNumber field v → header_number_of field ≡ Some v
unfolding header_number_of
header_number_of-spelled field v h =
    let some = lt_true 0 (length (before_dot (unsigned (text_of field))) + length (behind_dot (unsigned (text_of field)))) h.1.0.2 in
    let digits = both_true _ _ (digits_tested _ h.1.0.0) (both_true _ _ (digits_tested _ h.1.0.1) some) in
    let test : (nat_le (length field) 8 && is_decimal (text_of field)) ≡ true = both_true _ _ (le_true _ _ h.0) digits in
    ap (λ b. cond b (Some (signed (has_minus (text_of field)) (decimal 7 (before_dot (unsigned (text_of field))) (behind_dot (unsigned (text_of field)))))) None) test ∙ ap Some (sym h.1.1)

pub header_number_of-none : (field : List ℕ) → ((v : ℤ) → SpellsHeaderNumber field v → ⊥) → header_number_of field ≡ None
unfolding header_number_of
header_number_of-none field h =
    cond_none (nat_le (length field) 8 && is_decimal (text_of field)) (signed (has_minus (text_of field)) (decimal 7 (before_dot (unsigned (text_of field))) (behind_dot (unsigned (text_of field)))))
    (λ test.
    let outer = and_true (nat_le (length field) 8) (is_decimal (text_of field)) test in
    let inner = and_true (list_all is_digit (before_dot (unsigned (text_of field)))) (list_all is_digit (behind_dot (unsigned (text_of field))) && nat_lt 0 (length (before_dot (unsigned (text_of field))) + length (behind_dot (unsigned (text_of field))))) outer.1 in
    let last = and_true (list_all is_digit (behind_dot (unsigned (text_of field)))) (nat_lt 0 (length (before_dot (unsigned (text_of field))) + length (behind_dot (unsigned (text_of field))))) inner.1 in
    h _ (true_le _ _ outer.0, ((tested_digits _ inner.0, tested_digits _ last.0, true_lt _ _ last.1), refl)))

pub header_number_read : (o : Option ℤ) (field : List ℕ) → MatchOption o ((v : ℤ) → SpellsHeaderNumber field v → ⊥) (SpellsHeaderNumber field) → o ≡ header_number_of field
header_number_read None field h = sym (header_number_of-none field h)
header_number_read (Some v) field h = sym (header_number_of-spelled field v h)

-- a field spells one number at most
pub one_header_number : SpellsOneHeaderNumber
one_header_number field v w h k = h.1.1 ∙ sym k.1.1

pub one_whole_number : SpellsOneWholeNumber
one_whole_number field v w h k = h.1.2 ∙ sym k.1.2

-- back from the function to the relation
cond_is : (t : Bool) (x v : ℤ) → cond t (Some x) None ≡ Some v → (t ≡ true) × (v ≡ x)
cond_is true x v h = (refl, cc)
cond_is false x v h = absurd (cc)

pub whole_number_of-some : (field : List ℕ) (v : ℤ) → whole_number_of field ≡ Some v → SpellsWholeNumber field v
unfolding whole_number_of
whole_number_of-some field v h =
    let found = cond_is (nat_le (length field) 8 && is_whole (text_of field)) (signed (has_minus (text_of field)) (weight (unsigned (text_of field)))) v h in
    let outer = and_true (nat_le (length field) 8) (is_whole (text_of field)) found.0 in
    let inner = and_true (list_all is_digit (unsigned (text_of field))) (nat_lt 0 (length (unsigned (text_of field)))) outer.1 in
    (true_le _ _ outer.0, (tested_digits _ inner.0, true_lt _ _ inner.1, found.1))

pub header_number_of-some : (field : List ℕ) (v : ℤ) → header_number_of field ≡ Some v → SpellsHeaderNumber field v
unfolding header_number_of
header_number_of-some field v h =
    let found = cond_is (nat_le (length field) 8 && is_decimal (text_of field)) (signed (has_minus (text_of field)) (decimal 7 (before_dot (unsigned (text_of field))) (behind_dot (unsigned (text_of field))))) v h in
    let outer = and_true (nat_le (length field) 8) (is_decimal (text_of field)) found.0 in
    let inner = and_true (list_all is_digit (before_dot (unsigned (text_of field)))) (list_all is_digit (behind_dot (unsigned (text_of field))) && nat_lt 0 (length (before_dot (unsigned (text_of field))) + length (behind_dot (unsigned (text_of field))))) outer.1 in
    let last = and_true (list_all is_digit (behind_dot (unsigned (text_of field)))) (nat_lt 0 (length (before_dot (unsigned (text_of field))) + length (behind_dot (unsigned (text_of field))))) inner.1 in
    (true_le _ _ outer.0, ((tested_digits _ inner.0, tested_digits _ last.0, true_lt _ _ last.1), found.1))

-- the number that is read of a field is the one that it spells
pub whole_number_is_spelled : WholeNumberIsSpelled
whole_number_is_spelled field v = (whole_number_of-some field v, whole_number_of-spelled field v)

pub header_number_is_spelled : HeaderNumberIsSpelled
header_number_is_spelled field v = (header_number_of-some field v, header_number_of-spelled field v)
