-- Which texts spell the onset or the duration of an annotation, and which time.
use Rattle.std.specs.Prelude.{◌≡◌, ℕ, ℤ, IsTrue, ◌==◌, ◌<◌, ◌^◌, List, length, take, drop}
use Rattle.std.specs.List.{list_all, list_any}
use Rattle.edf_fields.specs.texts.Numbers.{weight, before_dot, behind_dot, IsDecimal, decimal, has_minus, has_sign, signed}

-- the text is seconds of at least one digit, and maybe a dot and a fraction of at least one digit (EDF+, "Time-stamped Annotations Lists
-- (TALs) in an 'EDF Annotations' signal"); that the seconds are below 10^9, and that zeros alone stand behind the 12th digit of the
-- fraction, is this project's profile
abbrev pub IsTime : List ℕ → Type 0
IsTime u =
    IsDecimal u
    × (0 < length (before_dot u)) × (weight (before_dot u) < 10 ^ 9)
    × IsTrue (list_all (λ b. b == 48) (drop 12 (behind_dot u)))
    × (IsTrue (list_any (λ b. b == 46) u) → 0 < length (behind_dot u))

-- the time that a text without a sign spells, in picoseconds (the unit is this project's profile)
abbrev pub time_of : List ℕ → ℕ
time_of u = decimal 12 (before_dot u) (take 12 (behind_dot u))

-- the text is a sign and a time, and has this value in picoseconds (EDF+, "Time-stamped Annotations Lists (TALs) in an 'EDF Annotations' signal": the onset)
abbrev pub SpellsOnset : List ℕ → ℤ → Type 0
SpellsOnset t v = IsTrue (has_sign t) × IsTime (drop 1 t) × (v ≡ signed (has_minus t) (time_of (drop 1 t)))
