-- Dates and times of day, as they are read.
use Rattle.std.specs.Prelude.{◌≡◌, ℕ, ℤ, pos, Bool, Option, Some, None, nat_le, ◌&&◌, ◌==◌, ◌+◌, ◌*◌, List, length, slice_index, if◌then◌else◌, ◌↔◌}
use Rattle.std.specs.List.{list_all}
use Rattle.jiff.specs.Types.{Date}
use Rattle.jiff.specs.Words.{epoch_day, days_in_month}
use Rattle.edf_fields.specs.texts.NumbersReading.{is_digit}
use Rattle.edf_fields.specs.Parts.{part}
use Rattle.edf_fields.specs.texts.Dates.{number_at, full_year, NamesDottedDay, NamesDayMonth, NamesClockTime, month_of, NamesDashedDay, CivilDay, civil_day}

-- the calendar has this day
abbrev pub is_day : ℕ → ℕ → ℕ → Bool
is_day year month day =
    nat_le year 9999
    && (nat_le 1 month && (nat_le month 12
    && (nat_le 1 day && nat_le day (days_in_month (pos year) month))))

-- the day with this year, month and day, or none
abbrev pub day_if_any : ℕ → ℕ → ℕ → Option CivilDay
day_if_any year month day =
    if is_day year month day then Some (record { year = pos year; month = month; day = day }) else None

-- `IsDotted` as a test
abbrev pub is_dotted : List ℕ → Bool
is_dotted t =
    (length t == 8)
    && (((slice_index t 2 == 46) && (slice_index t 5 == 46))
    && (list_all is_digit (part t 0 2) && (list_all is_digit (part t 3 2) && list_all is_digit (part t 6 2))))

-- `IsDashed` as a test
abbrev pub is_dashed : List ℕ → Bool
is_dashed t =
    (length t == 11)
    && (((slice_index t 2 == 45) && (slice_index t 6 == 45))
    && (list_all is_digit (part t 0 2) && list_all is_digit (part t 7 4)))

-- the day that a text names by `NamesDottedDay`, or none
unfoldable pub dotted_day_of : List ℕ → Option CivilDay
dotted_day_of t =
    if is_dotted t then day_if_any (full_year (number_at t 6 2)) (number_at t 3 2) (number_at t 0 2) else None

-- the tests of `NamesDayMonth`, but for what its numbers are
abbrev pub is_day_month : List ℕ → Bool
is_day_month t =
    (length t == 8)
    && (((slice_index t 2 == 46) && (slice_index t 5 == 46))
    && (((slice_index t 6 == 121) && (slice_index t 7 == 121))
    && ((list_all is_digit (part t 0 2) && list_all is_digit (part t 3 2))
    && ((nat_le 1 (number_at t 0 2) && nat_le (number_at t 0 2) 31)
    && (nat_le 1 (number_at t 3 2) && nat_le (number_at t 3 2) 12)))))

-- the day of the month and the month that a text names by `NamesDayMonth`, or none
unfoldable pub day_month_of : List ℕ → Option (ℕ × ℕ)
day_month_of t = if is_day_month t then Some (number_at t 0 2, number_at t 3 2) else None

-- the day that a text names by `NamesDashedDay`, or none
unfoldable pub dashed_day_of : List ℕ → Option CivilDay
dashed_day_of t =
    if is_dashed t then day_if_any (number_at t 7 4) (month_of (part t 3 3)) (number_at t 0 2) else None

-- the second of the day that a text names by `NamesClockTime`, or none
unfoldable pub clock_time_of : List ℕ → Option ℕ
clock_time_of t =
    if is_dotted t && (nat_le (number_at t 0 2) 23 && (nat_le (number_at t 3 2) 59 && nat_le (number_at t 6 2) 59))
    then Some (number_at t 0 2 * 3600 + number_at t 3 2 * 60 + number_at t 6 2)
    else None

-- a text names at most one day in the form dd.mm.yy
abbrev pub NamesOneDottedDay : Type 0
NamesOneDottedDay = (t : List ℕ) (m n : ℤ) → NamesDottedDay t m → NamesDottedDay t n → m ≡ n

-- a text names at most one day in the form dd-MMM-yyyy
abbrev pub NamesOneDashedDay : Type 0
NamesOneDashedDay = (t : List ℕ) (m n : ℤ) → NamesDashedDay t m → NamesDashedDay t n → m ≡ n

-- a text names at most one time of the day
abbrev pub NamesOneClockTime : Type 0
NamesOneClockTime = (t : List ℕ) (m n : ℕ) → NamesClockTime t m → NamesClockTime t n → m ≡ n

-- the day of the month and the month that are read of a text are those that it names
abbrev pub DayMonthIsNamed : Type 0
DayMonthIsNamed = (t : List ℕ) (day month : ℕ) → (day_month_of t ≡ Some (day, month)) ↔ NamesDayMonth t day month

-- the day that is read of a text is the one that it names, in the form dd.mm.yy
abbrev pub DottedDayIsNamed : Type 0
DottedDayIsNamed = (t : List ℕ) (day : CivilDay) → (dotted_day_of t ≡ Some day) ↔ ((date : Date) × NamesDottedDay t (epoch_day date) × (civil_day date ≡ day))

-- and in the form dd-MMM-yyyy
abbrev pub DashedDayIsNamed : Type 0
DashedDayIsNamed = (t : List ℕ) (day : CivilDay) → (dashed_day_of t ≡ Some day) ↔ ((date : Date) × NamesDashedDay t (epoch_day date) × (civil_day date ≡ day))

-- the second that is read of a text is the one that it names
abbrev pub ClockTimeIsNamed : Type 0
ClockTimeIsNamed = (t : List ℕ) (second : ℕ) → (clock_time_of t ≡ Some second) ↔ NamesClockTime t second
