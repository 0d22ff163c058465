-- Which texts spell a number, and which number.
use Rattle.std.specs.Prelude.{◌≡◌, ℕ, ℤ, Bool, ◌||◌, ◌==◌, ◌+◌, ◌-◌, ◌*◌, ◌^◌, ◌<◌, pos, neg_ℤ, List, [], ◌∷◌, length, slice_index, drop, if◌then◌else◌, ◌≤◌}
use Rattle.std.specs.List.{before_first, after_first}

-- each byte is a decimal digit
abbrev pub AreDigits : List ℕ → Type 0
AreDigits ds = (k : ℕ) → k < length ds → (48 ≤ slice_index ds k) × (slice_index ds k ≤ 57)

-- the sum of each digit times its power of ten
abbrev pub weight : List ℕ → ℕ
weight [] = 0
weight (c ∷ cs) = (c - 48) * 10 ^ length cs + weight cs

-- the text begins with a minus
abbrev pub has_minus : List ℕ → Bool
has_minus t = slice_index t 0 == 45

-- the text begins with a plus or a minus
abbrev pub has_sign : List ℕ → Bool
has_sign t = has_minus t || (slice_index t 0 == 43)

-- what stands behind a sign, or the whole text where there is none
abbrev pub unsigned : List ℕ → List ℕ
unsigned t = if has_sign t then drop 1 t else t

-- -n where there is a minus, and else n
abbrev pub signed : Bool → ℕ → ℤ
signed minus n = if minus then neg_ℤ (pos n) else pos n

-- what stands before the first dot, the decimal separator (EDF+, "Additional specifications in EDF+"), or the whole text where there is none
abbrev pub before_dot : List ℕ → List ℕ
before_dot u = before_first (λ b. b == 46) u

-- what stands behind the first dot, or nothing where there is none
abbrev pub behind_dot : List ℕ → List ℕ
behind_dot u = after_first (λ b. b == 46) u

-- whole digits w and fraction digits f, of which there are at most k, in units of 10^-k
abbrev pub decimal : ℕ → List ℕ → List ℕ → ℕ
decimal k w f = weight w * 10 ^ k + weight f * 10 ^ (k - length f)

-- the text is an optional sign and at least one digit, and has this value (EDF, "Header record": all counts, digital minimum and maximum; which forms spell a number is this project's profile)
abbrev pub SpellsWhole : List ℕ → ℤ → Type 0
SpellsWhole t v =
    AreDigits (unsigned t)
    × (0 < length (unsigned t))
    × (v ≡ signed (has_minus t) (weight (unsigned t)))

-- the text with no sign is digits, and maybe a dot and digits, with at least one digit in all
abbrev pub IsDecimal : List ℕ → Type 0
IsDecimal u =
    AreDigits (before_dot u)
    × AreDigits (behind_dot u)
    × (0 < length (before_dot u) + length (behind_dot u))

-- the text is an optional sign and a decimal, and has this value in units of 10^-k (EDF, "Header record": physical extremes, duration; which forms spell a number is this project's profile); a field of 8 bytes has at most 7 digits behind its dot
abbrev pub SpellsDecimal : ℕ → List ℕ → ℤ → Type 0
SpellsDecimal k t v =
    IsDecimal (unsigned t) × (v ≡ signed (has_minus t) (decimal k (before_dot (unsigned t)) (behind_dot (unsigned t))))
