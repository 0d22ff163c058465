-- Onsets and durations, as they are read.
use Rattle.std.specs.Prelude.{◌≡◌, ◌<◌, ◌≤◌, slice_index, ℕ, ℤ, Bool, IsTrue, not, ◌==◌, Option, Some, None, nat_le, nat_lt, ◌&&◌, ◌||◌, pos, List, [], ◌∷◌, length, drop, if◌then◌else◌, ◌↔◌}
use Rattle.std.specs.List.{list_all, list_any}
use Rattle.edf_fields.specs.texts.Numbers.{AreDigits, before_dot, behind_dot, decimal, has_minus, has_sign, signed}
use Rattle.edf_fields.specs.texts.NumbersReading.{is_digit}
use Rattle.edf_fields.specs.texts.Onsets.{IsTime, time_of, SpellsOnset}

-- the text is a time with no sign, and has this value in picoseconds
abbrev pub SpellsSpan : List ℕ → ℤ → Type 0
SpellsSpan t v = IsTime t × (v ≡ pos (time_of t))

-- the first n bytes are digits
abbrev pub AreDigitsBefore : ℕ → List ℕ → Type 0
AreDigitsBefore n u = (k : ℕ) → k < n → (48 ≤ slice_index u k) × (slice_index u k ≤ 57)

-- the digits without the zeros in front, which don't count
abbrev pub without_leading_zeros : List ℕ → List ℕ
without_leading_zeros [] = []
without_leading_zeros (c ∷ cs) = if c == 48 then without_leading_zeros cs else c ∷ cs

-- the digits without the zeros at their end, which don't count
abbrev pub without_trailing_zeros : List ℕ → List ℕ
without_trailing_zeros [] = []
without_trailing_zeros (c ∷ cs) = if list_all (λ b. b == 48) (c ∷ cs) then [] else c ∷ without_trailing_zeros cs

-- at least one digit, and at most 9 of them without the zeros in front
abbrev pub AreSeconds : List ℕ → Type 0
AreSeconds w = AreDigits w × (0 < length w) × (length (without_leading_zeros w) ≤ 9)

-- digits, at most 12 of them without the zeros at their end
abbrev pub IsFraction : List ℕ → Type 0
IsFraction f = AreDigits f × (length (without_trailing_zeros f) ≤ 12)

-- `AreSeconds` as a test
abbrev pub are_seconds : List ℕ → Bool
are_seconds w = list_all is_digit w && (nat_lt 0 (length w) && nat_le (length (without_leading_zeros w)) 9)

-- `IsFraction` as a test
abbrev pub is_fraction : List ℕ → Bool
is_fraction f = list_all is_digit f && nat_le (length (without_trailing_zeros f)) 12

-- `IsTime`, by the zeros that don't count
abbrev pub IsTimeRead : List ℕ → Type 0
IsTimeRead u =
    AreSeconds (before_dot u)
    × IsFraction (behind_dot u)
    × (IsTrue (list_any (λ b. b == 46) u) → 0 < length (behind_dot u))

-- `time_of`, without these zeros
abbrev pub time_read : List ℕ → ℕ
time_read u = decimal 12 (without_leading_zeros (before_dot u)) (without_trailing_zeros (behind_dot u))

-- `SpellsOnset`, so read
abbrev pub ReadsOnset : List ℕ → ℤ → Type 0
ReadsOnset t v = IsTrue (has_sign t) × IsTimeRead (drop 1 t) × (v ≡ signed (has_minus t) (time_read (drop 1 t)))

-- `SpellsSpan`, so read
abbrev pub ReadsSpan : List ℕ → ℤ → Type 0
ReadsSpan t v = IsTimeRead t × (v ≡ pos (time_read t))

-- `IsTime` as a test
abbrev pub is_time : List ℕ → Bool
is_time u =
    are_seconds (before_dot u)
    && (is_fraction (behind_dot u) && (not (list_any (λ b. b == 46) u) || nat_lt 0 (length (behind_dot u))))

-- the onset that a text spells by `SpellsOnset`, or none
unfoldable pub onset_of : List ℕ → Option ℤ
onset_of t = if has_sign t && is_time (drop 1 t) then Some (signed (has_minus t) (time_read (drop 1 t))) else None

-- the duration that a text spells by `SpellsSpan`, or none
unfoldable pub span_of : List ℕ → Option ℤ
span_of t = if is_time t then Some (pos (time_read t)) else None

-- a text spells at most one onset
abbrev pub SpellsOneOnset : Type 0
SpellsOneOnset = (t : List ℕ) (v w : ℤ) → SpellsOnset t v → SpellsOnset t w → v ≡ w

-- a text spells at most one duration
abbrev pub SpellsOneSpan : Type 0
SpellsOneSpan = (t : List ℕ) (v w : ℤ) → SpellsSpan t v → SpellsSpan t w → v ≡ w

-- the onset that is read of a text is the one that it spells
abbrev pub OnsetIsSpelled : Type 0
OnsetIsSpelled = (t : List ℕ) (v : ℤ) → (onset_of t ≡ Some v) ↔ SpellsOnset t v

-- the duration that is read of a text is the one that it spells
abbrev pub SpanIsSpelled : Type 0
SpanIsSpelled = (t : List ℕ) (v : ℤ) → (span_of t ≡ Some v) ↔ SpellsSpan t v
