-- The plain spelling of a number (this project's profile): no needless sign, zero or dot, and one digit at least before a dot.
use Rattle.std.specs.Prelude.{ℕ, Bool, true, not, ◌&&◌, ◌||◌, ◌==◌, ◌-◌, nat_le, nat_lt, List, length, slice_index, codes}
use Rattle.std.specs.List.{position}
use Rattle.std.specs.Option.{option_map_or}
use Rattle.std.specs.Str.{bytes_eq}
use Rattle.edf_fields.specs.texts.Numbers.{has_minus, unsigned, before_dot, behind_dot}

-- at least one digit, and no zero before others
abbrev pub is_plain_whole : List ℕ → Bool
is_plain_whole w = nat_lt 0 (length w) && (nat_le (length w) 1 || not (slice_index w 0 == 48))

-- at least one digit, and no zero behind the others
abbrev pub is_plain_fraction : List ℕ → Bool
is_plain_fraction f = nat_lt 0 (length f) && not (slice_index f (length f - 1) == 48)

-- what stands behind the sign, or the whole text where there is none
unfoldable pub is_plain_unsigned : List ℕ → Bool
is_plain_unsigned u = is_plain_whole (before_dot u) && option_map_or (λ k. is_plain_fraction (behind_dot u)) (position (λ b. b == 46) u) true

-- the text of a number of a header: it begins with no plus, and 0 has no minus
unfoldable pub is_plain_number : List ℕ → Bool
is_plain_number t =
    not (slice_index t 0 == 43)
    && (is_plain_unsigned (unsigned t) && not (has_minus t && bytes_eq (unsigned t) (codes "0")))
