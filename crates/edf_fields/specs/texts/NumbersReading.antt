-- The number fields of a header, as they are read.
use Rattle.std.specs.Prelude.{◌≡◌, ℕ, ℤ, Bool, Option, Some, None, nat_le, nat_lt, ◌&&◌, ◌+◌, ◌≤◌, List, length, if◌then◌else◌, ◌↔◌}
use Rattle.std.specs.List.{list_all}
use Rattle.edf_fields.specs.Parts.{text_of}
use Rattle.edf_fields.specs.texts.Numbers.{weight, has_minus, unsigned, signed, before_dot, behind_dot, decimal, SpellsDecimal, SpellsWhole}

-- a field of at most 8 bytes whose text is a decimal, in units of 10^-7: it has at most 7 digits behind its dot
abbrev pub SpellsHeaderNumber : List ℕ → ℤ → Type 0
SpellsHeaderNumber field v = (length field ≤ 8) × SpellsDecimal 7 (text_of field) v

-- a field of at most 8 bytes whose text is a whole number
abbrev pub SpellsWholeNumber : List ℕ → ℤ → Type 0
SpellsWholeNumber field v = (length field ≤ 8) × SpellsWhole (text_of field) v

-- the byte is a decimal digit
abbrev pub is_digit : ℕ → Bool
is_digit b = nat_le 48 b && nat_le b 57

-- the text is an optional sign and at least one digit
abbrev pub is_whole : List ℕ → Bool
is_whole t = list_all is_digit (unsigned t) && nat_lt 0 (length (unsigned t))

-- the text is an optional sign, digits, and maybe a dot and digits, with at least one digit in all
abbrev pub is_decimal : List ℕ → Bool
is_decimal t =
    list_all is_digit (before_dot (unsigned t))
    && (list_all is_digit (behind_dot (unsigned t)) && nat_lt 0 (length (before_dot (unsigned t)) + length (behind_dot (unsigned t))))

-- the number that a field spells by `SpellsHeaderNumber`, or none
unfoldable pub header_number_of : List ℕ → Option ℤ
header_number_of field =
    if nat_le (length field) 8 && is_decimal (text_of field)
    then Some (signed (has_minus (text_of field)) (decimal 7 (before_dot (unsigned (text_of field))) (behind_dot (unsigned (text_of field)))))
    else None

-- the number that a field spells by `SpellsWholeNumber`, or none
unfoldable pub whole_number_of : List ℕ → Option ℤ
whole_number_of field =
    if nat_le (length field) 8 && is_whole (text_of field)
    then Some (signed (has_minus (text_of field)) (weight (unsigned (text_of field))))
    else None

-- a field spells at most one header number
abbrev pub SpellsOneHeaderNumber : Type 0
SpellsOneHeaderNumber =
    (field : List ℕ) (v w : ℤ) → SpellsHeaderNumber field v → SpellsHeaderNumber field w → v ≡ w

-- a field spells at most one whole number
abbrev pub SpellsOneWholeNumber : Type 0
SpellsOneWholeNumber =
    (field : List ℕ) (v w : ℤ) → SpellsWholeNumber field v → SpellsWholeNumber field w → v ≡ w

-- the whole number that is read of a field is the one that it spells
abbrev pub WholeNumberIsSpelled : Type 0
WholeNumberIsSpelled = (field : List ℕ) (v : ℤ) → (whole_number_of field ≡ Some v) ↔ SpellsWholeNumber field v

-- the number that is read of a field is the one that it spells
abbrev pub HeaderNumberIsSpelled : Type 0
HeaderNumberIsSpelled = (field : List ℕ) (v : ℤ) → (header_number_of field ≡ Some v) ↔ SpellsHeaderNumber field v
