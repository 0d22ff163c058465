-- Which texts name a day or a time of the day, and which one.
use Rattle.std.specs.Prelude.{◌≡◌, ℕ, ℤ, pos, nat_le, ◌+◌, ◌*◌, ◌≤◌, List, [], ◌∷◌, length, slice_index, codes, if◌then◌else◌}
use Rattle.std.specs.List.{position}
use Rattle.std.specs.Option.{option_map_or}
use Rattle.std.specs.Str.{bytes_eq}
use Rattle.jiff.specs.Types.{Date}
use Rattle.jiff.specs.Words.{IsYmd, epoch_day}
use Rattle.edf_fields.specs.texts.Numbers.{AreDigits, weight}
use Rattle.edf_fields.specs.Parts.{part}

-- the number that the n digits from place `at` on spell
abbrev pub number_at : List ℕ → ℕ → ℕ → ℕ
number_at t at n = weight (part t at n)

-- the day with this year, month and day exists and has this number, 0 for 1970-01-01 (in the proleptic Gregorian calendar)
abbrev pub IsDayNumber : ℕ → ℕ → ℕ → ℤ → Type 0
IsDayNumber year month day n = (date : Date) × IsYmd (pos year) (pos month) (pos day) date × (n ≡ epoch_day date)

-- two digits, a dot, two digits, a dot and two digits (EDF, "Header record": dd.mm.yy and hh.mm.ss)
pub record IsDotted (t : List ℕ) : Type 0 where
  pub len : length t ≡ 8
  pub dots : (slice_index t 2 ≡ 46) × (slice_index t 5 ≡ 46)
  pub first : AreDigits (part t 0 2)
  pub second : AreDigits (part t 3 2)
  pub third : AreDigits (part t 6 2)

-- the year that two digits stand for: 85 to 99 are 1985 to 1999, and 00 to 84 are 2000 to 2084 (EDF+, "Additional specifications in EDF+": 1985 is the clipping date)
abbrev pub full_year : ℕ → ℕ
full_year yy = if nat_le 85 yy then 1900 + yy else 2000 + yy

-- the text is dd.mm.yy and names the day with this number (EDF, "Header record": startdate)
abbrev pub NamesDottedDay : List ℕ → ℤ → Type 0
NamesDottedDay t n =
    IsDotted t × IsDayNumber (full_year (number_at t 6 2)) (number_at t 3 2) (number_at t 0 2) n

-- the text is dd.mm.yy with the letters yy, of this day, 01 to 31, and this month, 01 to 12 (EDF+, "Additional specifications in EDF+": the startdate after 2084)
pub record NamesDayMonth (t : List ℕ) (day month : ℕ) : Type 0 where
  pub len : length t ≡ 8
  pub dots : (slice_index t 2 ≡ 46) × (slice_index t 5 ≡ 46)
  pub letters : (slice_index t 6 ≡ 121) × (slice_index t 7 ≡ 121)
  pub digits : AreDigits (part t 0 2) × AreDigits (part t 3 2)
  pub its_day : (day ≡ number_at t 0 2) × (1 ≤ day) × (day ≤ 31)
  pub its_month : (month ≡ number_at t 3 2) × (1 ≤ month) × (month ≤ 12)

-- the text is hh.mm.ss, from 00.00.00 to 23.59.59, and this is its second of the day (EDF, "Header record": starttime)
abbrev pub NamesClockTime : List ℕ → ℕ → Type 0
NamesClockTime t second =
    IsDotted t
    × (number_at t 0 2 ≤ 23) × (number_at t 3 2 ≤ 59) × (number_at t 6 2 ≤ 59)
    × (second ≡ number_at t 0 2 * 3600 + number_at t 3 2 * 60 + number_at t 6 2)

-- the number of the month with this name of three capitals, from 1 on, and 0 where no month has it (EDF+, "Additional specifications in EDF+")
abbrev pub month_of : List ℕ → ℕ
month_of name = option_map_or (λ k. k + 1) (position (bytes_eq name) (
    codes "JAN" ∷ codes "FEB" ∷ codes "MAR" ∷ codes "APR" ∷ codes "MAY" ∷ codes "JUN"
    ∷ codes "JUL" ∷ codes "AUG" ∷ codes "SEP" ∷ codes "OCT" ∷ codes "NOV" ∷ codes "DEC" ∷ [])) 0

-- two digits, a minus, three bytes, a minus and four digits
pub record IsDashed (t : List ℕ) : Type 0 where
  pub len : length t ≡ 11
  pub dashes : (slice_index t 2 ≡ 45) × (slice_index t 6 ≡ 45)
  pub day : AreDigits (part t 0 2)
  pub year : AreDigits (part t 7 4)

-- the text is dd-MMM-yyyy and names the day with this number (EDF+, "Additional specifications in EDF+": birthdate and startdate; that years run from 0000 to 9999 is this project's profile)
abbrev pub NamesDashedDay : List ℕ → ℤ → Type 0
NamesDashedDay t n =
    IsDashed t × IsDayNumber (number_at t 7 4) (month_of (part t 3 3)) (number_at t 0 2) n

-- a day of the calendar
pub record CivilDay : Type 0 where
  pub year : ℤ
  pub month : ℕ
  pub day : ℕ

-- the day that a date is
abbrev pub civil_day : Date → CivilDay
civil_day date = record { year = date.year; month = date.month; day = date.day }
