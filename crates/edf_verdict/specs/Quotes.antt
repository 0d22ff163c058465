-- Texts between quotation marks.
use Rattle.std.specs.Prelude.{ℕ, ◌+◌, ◌/◌, ◌%◌, Bool, not, ◌&&◌, ◌==◌, nat_le, nat_lt, if◌then◌else◌, List, [], ◌∷◌, ◌++◌}
use Rattle.std.specs.List.{flat_map}

-- the byte stands for itself: it is no control byte, quotation mark or backslash
abbrev pub is_plain : ℕ → Bool
is_plain byte = nat_le 32 byte && not (byte == 34) && not (byte == 92) && not (byte == 127)

-- the lower-case hexadecimal digit of this value: 48 is `0`, and 87 + 10 is `a`
abbrev pub hex_digit : ℕ → ℕ
hex_digit value = if nat_lt value 10 then 48 + value else 87 + value

-- a byte between the quotation marks: itself, or `\x` and its two digits
abbrev pub quoted_byte : ℕ → List ℕ
quoted_byte byte = if is_plain byte then byte ∷ [] else 92 ∷ 120 ∷ hex_digit (byte / 16) ∷ hex_digit (byte % 16) ∷ []

-- the text between two quotation marks
abbrev pub quoted : List ℕ → List ℕ
quoted text = 34 ∷ (flat_map quoted_byte text ++ (34 ∷ []))

-- the words, and the text between quotation marks
unfoldable pub with_quoted : List ℕ → List ℕ → List ℕ
with_quoted words text = words ++ quoted text
