-- The day and the time of a text, as relations and as functions.
use Rattle.std.proofs.Common.{◌+◌, ◌*◌, ◌≡◌, ◌≤◌, ◌<◌, subst, ℕ, ℤ, Bool, true, false, nat_le, List, length, drop, get_or, Option, Some, None, MatchOption, option_map, refl, ap, sym, ◌∙◌, pos, arith, cond, is_some, ◌&&◌}
use Rattle.std.specs.Bool.{Decides}
use Rattle.std.specs.List.{list_all}
use Rattle.std.proofs.lemmas.Bool.Decides.{Decides-and, Decides-like, Decides-at, Decides-eqb, nat_tests}
use Rattle.std.proofs.lemmas.Int.{ints}
use Rattle.std.proofs.lemmas.List.{get_or-take, get_or-drop, length-take, length-drop}
use Rattle.jiff.specs.Types.{Date}
use Rattle.jiff.specs.Words.{IsYmd, epoch_day, days_in_month}
use Rattle.jiff.proofs.Family.{epoch_day_injective, epoch_day_same}
use Rattle.edf_fields.specs.texts.Numbers.{AreDigits}
use Rattle.edf_fields.specs.texts.NumbersReading.{is_digit}
use Rattle.edf_fields.specs.Parts.{part}
use Rattle.edf_fields.specs.texts.Dates.{number_at, full_year, month_of, IsDayNumber, IsDotted, IsDashed, NamesDottedDay, NamesDayMonth, NamesDashedDay, NamesClockTime, CivilDay, civil_day}
use Rattle.edf_fields.specs.texts.DatesReading.{is_day, day_if_any, is_dotted, is_dashed, is_day_month, dotted_day_of, day_month_of, dashed_day_of, clock_time_of, NamesOneDottedDay, NamesOneDashedDay, NamesOneClockTime, DottedDayIsNamed, DayMonthIsNamed, DashedDayIsNamed, ClockTimeIsNamed}
use Rattle.edf_fields.proofs.texts.NumberFacts.{digits_tested, tested_digits}

-- what a reader of a day says
abbrev pub IsDayOf : ℕ → ℕ → ℕ → Option Date → Type 0
IsDayOf year month day o =
    MatchOption o ((n : ℤ) → IsDayNumber year month day n → ⊥) (λ date. IsYmd (pos year) (pos month) (pos day) date)

pub dotted_named : (o : Option Date) (t : List ℕ) (y m d : ℕ) → IsDotted t → y ≡ full_year (number_at t 6 2) → m ≡ number_at t 3 2 → d ≡ number_at t 0 2 → IsDayOf y m d o
    → MatchOption o ((n : ℤ) → NamesDottedDay t n → ⊥) (λ date. NamesDottedDay t (epoch_day date))
dotted_named None t y m d dotted e f g h = λ n named. h n (rw (e, f, g) named.1)
dotted_named (Some date) t y m d dotted e f g h = (dotted, (date, rw (← e, ← f, ← g) h, refl))

pub dashed_named : (o : Option Date) (t : List ℕ) (y m d : ℕ) → IsDashed t → y ≡ number_at t 7 4 → m ≡ month_of (part t 3 3) → d ≡ number_at t 0 2 → IsDayOf y m d o
    → MatchOption o ((n : ℤ) → NamesDashedDay t n → ⊥) (λ date. NamesDashedDay t (epoch_day date))
dashed_named None t y m d dashed e f g h = λ n named. h n (rw (e, f, g) named.1)
dashed_named (Some date) t y m d dashed e f g h = (dashed, (date, rw (← e, ← f, ← g) h, refl))

-- the tests decide what they say
digits_decided : (ds : List ℕ) → Decides (list_all is_digit ds) (AreDigits ds)
digits_decided ds = (tested_digits ds, digits_tested ds)

pub dotted_decided : (t : List ℕ) → Decides (is_dotted t) (IsDotted t)
dotted_decided t =
    Decides-like (is_dotted t)
    (λ h. record { len = h.0; dots = h.1.0; first = h.1.1.0; second = h.1.1.1.0; third = h.1.1.1.1 })
    (λ h. (h.len, (h.dots, (h.first, (h.second, h.third)))))
    (Decides-and _ _ (Decides-eqb _ _) (Decides-and _ _ (Decides-and _ _ (Decides-eqb _ _) (Decides-eqb _ _))
    (Decides-and _ _ (digits_decided (part t 0 2)) (Decides-and _ _ (digits_decided (part t 3 2)) (digits_decided (part t 6 2))))))

pub dashed_decided : (t : List ℕ) → Decides (is_dashed t) (IsDashed t)
dashed_decided t =
    Decides-like (is_dashed t)
    (λ h. record { len = h.0; dashes = h.1.0; day = h.1.1.0; year = h.1.1.1 })
    (λ h. (h.len, (h.dashes, (h.day, h.year))))
    (Decides-and _ _ (Decides-eqb _ _) (Decides-and _ _ (Decides-and _ _ (Decides-eqb _ _) (Decides-eqb _ _))
    (Decides-and _ _ (digits_decided (part t 0 2)) (digits_decided (part t 7 4)))))

pub le_decided : (a b : ℕ) → Decides (nat_le a b) (a ≤ b)
le_decided a b = (λ h. grind (arith, nat_tests), λ h. grind (arith, nat_tests))

-- the facts of a day's test
abbrev HasDay : ℕ → ℕ → ℕ → Type 0
HasDay y m d = (y ≤ 9999) × ((1 ≤ m) × ((m ≤ 12) × ((1 ≤ d) × (d ≤ days_in_month (pos y) m))))

has_day_decided : (y m d : ℕ) → Decides (is_day y m d) (HasDay y m d)
has_day_decided y m d =
    Decides-and _ _ (le_decided y 9999) (Decides-and _ _ (le_decided 1 m) (Decides-and _ _ (le_decided m 12)
    (Decides-and _ _ (le_decided 1 d) (le_decided d (days_in_month (pos y) m)))))

date_made : (y m d : ℕ) → HasDay y m d → (n : ℤ) × IsDayNumber y m d n
date_made y m d h =
    let date : Date = record {
      year = pos y;
      month = m;
      day = d;
      year_in = (omega (arith, ints), omega (arith, ints));
      month_in = (h.1.0, h.1.1.0);
      day_in = (h.1.1.1.0, h.1.1.1.1);
    } in
    (epoch_day date, (date, (refl, refl, refl), refl))

same_parts : (y m d : ℕ) (date : Date) → IsYmd (pos y) (pos m) (pos d) date → (date.month ≡ m) × (date.day ≡ d)
same_parts y m d date h = (cc, cc)

date_has_day : (y m d : ℕ) (n : ℤ) → IsDayNumber y m d n → HasDay y m d
date_has_day y m d n h =
    let date : Date = h.0 in
    let same = same_parts y m d date h.1 in
    let year : date.year ≡ pos y = h.1.0 in
    let long : days_in_month date.year date.month ≡ days_in_month (pos y) m = rw (year, same.0) refl in
    (omega (arith, ints, date.year_in.1, year), (omega (arith, date.month_in.0, same.0), (omega (arith, date.month_in.1, same.0), (omega (arith, date.day_in.0, same.1), omega (arith, date.day_in.1, same.1, long)))))

-- two numbers of one day
one_number : (y m d : ℕ) (a b : ℤ) → IsDayNumber y m d a → IsDayNumber y m d b → a ≡ b
one_number y m d a b h k =
    let left = same_parts y m d h.0 h.1 in
    let right = same_parts y m d k.0 k.1 in
    h.2 ∙ epoch_day_same h.0 k.0 (h.1.0 ∙ sym k.1.0) (left.0 ∙ sym right.0) (left.1 ∙ sym right.1) ∙ sym k.2

-- a date whose number is that of a day is that day
day_of_number : (y m d : ℕ) (date : Date) → IsDayNumber y m d (epoch_day date) → civil_day date ≡ record { year = pos y; month = m; day = d }
day_of_number y m d date h =
    let other = same_parts y m d h.0 h.1 in
    let same = epoch_day_injective date h.0 h.2 in
    let year : date.year ≡ pos y = same.0 ∙ h.1.0 in
    let month : date.month ≡ m = same.1 ∙ other.0 in
    let day : date.day ≡ d = same.2 ∙ other.1 in
    let made : ℤ → ℕ → ℕ → CivilDay = λ u v w. record { year = u; month = v; day = w } in
    ap (λ u. made u date.month date.day) year ∙ ap (λ v. made (pos y) v date.day) month ∙ ap (λ w. made (pos y) m w) day

-- from the relations to the functions
cond_none : {A : Type 0} (t : Bool) (x : A) → (t ≡ true → ⊥) → cond t (Some x) None ≡ None
cond_none true x h = absurd (h refl)
cond_none false x h = refl

cond_some : {A : Type 0} (t : Bool) (x : A) → t ≡ true → cond t (Some x) None ≡ Some x
cond_some true x h = refl
cond_some false x h = absurd (cc)

no_day : (y m d : ℕ) → ((n : ℤ) → IsDayNumber y m d n → ⊥) → day_if_any y m d ≡ None
no_day y m d none =
    cond_none (is_day y m d) (record { year = pos y; month = m; day = d })
    (λ test. let made = date_made y m d ((has_day_decided y m d).0 test) in none made.0 made.1)

some_day : (y m d : ℕ) (date : Date) → IsDayNumber y m d (epoch_day date) → day_if_any y m d ≡ Some (civil_day date)
some_day y m d date h =
    cond_some (is_day y m d) _ ((has_day_decided y m d).1 (date_has_day y m d _ h)) ∙ ap Some (sym (day_of_number y m d date h))

-- a text of a shape that is tested, which names a day
shaped_none : (shape : Bool) (y m d : ℕ) → (shape ≡ true → (n : ℤ) → IsDayNumber y m d n → ⊥) → cond shape (day_if_any y m d) None ≡ None
shaped_none false y m d h = refl
shaped_none true y m d h = no_day y m d (h refl)

shaped_some : (shape : Bool) (y m d : ℕ) (date : Date) → shape ≡ true → IsDayNumber y m d (epoch_day date) → cond shape (day_if_any y m d) None ≡ Some (civil_day date)
shaped_some false y m d date s h = absurd (cc)
shaped_some true y m d date s h = some_day y m d date h

pub dotted_day_read : (o : Option Date) (t : List ℕ) → MatchOption o ((n : ℤ) → NamesDottedDay t n → ⊥) (λ date. NamesDottedDay t (epoch_day date)) → option_map civil_day o ≡ dotted_day_of t
unfolding dotted_day_of
dotted_day_read None t h =
    sym (shaped_none (is_dotted t) _ _ _ (λ test n day. h n ((dotted_decided t).0 test, day)))
dotted_day_read (Some date) t h =
    sym (shaped_some (is_dotted t) _ _ _ date ((dotted_decided t).1 h.0) h.1)

pub dashed_day_read : (o : Option Date) (t : List ℕ) → MatchOption o ((n : ℤ) → NamesDashedDay t n → ⊥) (λ date. NamesDashedDay t (epoch_day date)) → option_map civil_day o ≡ dashed_day_of t
unfolding dashed_day_of
dashed_day_read None t h =
    sym (shaped_none (is_dashed t) _ _ _ (λ test n day. h n ((dashed_decided t).0 test, day)))
dashed_day_read (Some date) t h =
    sym (shaped_some (is_dashed t) _ _ _ date ((dashed_decided t).1 h.0) h.1)

-- whether a text names a day
two_tests : (a b : Bool) (day : CivilDay) → is_some (cond a (cond b (Some day) None) None) ≡ (a && b)
two_tests true true day = refl
two_tests true false day = refl
two_tests false b day = refl

pub dashed_day_decided : (t : List ℕ) → Decides (is_some (dashed_day_of t)) ((n : ℤ) × NamesDashedDay t n)
unfolding dashed_day_of
dashed_day_decided t =
    let year = number_at t 7 4 in
    let month = month_of (part t 3 3) in
    let day = number_at t 0 2 in
    Decides-at _ (is_dashed t && is_day year month day) (two_tests (is_dashed t) (is_day year month day) _)
    (Decides-like _
    (λ h. let made = date_made year month day h.1 in (made.0, (h.0, made.1)))
    (λ h. (h.1.0, date_has_day year month day h.0 h.1.1))
    (Decides-and _ _ (dashed_decided t) (has_day_decided year month day)))

-- the day of the month and the month
day_month_decided : (t : List ℕ) → Decides (is_day_month t) (NamesDayMonth t (number_at t 0 2) (number_at t 3 2))
day_month_decided t =
    Decides-like (is_day_month t)
    (λ h. record { len = h.0; dots = h.1.0; letters = h.1.1.0; digits = h.1.1.1.0; its_day = (refl, h.1.1.1.1.0.0, h.1.1.1.1.0.1); its_month = (refl, h.1.1.1.1.1.0, h.1.1.1.1.1.1) })
    (λ h. (h.len, (h.dots, (h.letters, (h.digits, ((h.its_day.1, h.its_day.2), (h.its_month.1, h.its_month.2)))))))
    (Decides-and _ _ (Decides-eqb _ _) (Decides-and _ _ (Decides-and _ _ (Decides-eqb _ _) (Decides-eqb _ _))
    (Decides-and _ _ (Decides-and _ _ (Decides-eqb _ _) (Decides-eqb _ _))
    (Decides-and _ _ (Decides-and _ _ (digits_decided (part t 0 2)) (digits_decided (part t 3 2)))
    (Decides-and _ _ (Decides-and _ _ (le_decided 1 (number_at t 0 2)) (le_decided (number_at t 0 2) 31))
    (Decides-and _ _ (le_decided 1 (number_at t 3 2)) (le_decided (number_at t 3 2) 12)))))))

-- its two numbers are those of the text
own_numbers : (t : List ℕ) (day month : ℕ) → NamesDayMonth t day month → NamesDayMonth t (number_at t 0 2) (number_at t 3 2)
own_numbers t day month h = record { len = h.len; dots = h.dots; letters = h.letters; digits = h.digits; its_day = (refl, subst (λ d. 1 ≤ d) h.its_day.0 h.its_day.1, subst (λ d. d ≤ 31) h.its_day.0 h.its_day.2); its_month = (refl, subst (λ m. 1 ≤ m) h.its_month.0 h.its_month.1, subst (λ m. m ≤ 12) h.its_month.0 h.its_month.2) }

pub day_month_read : (o : Option (ℕ × ℕ)) (t : List ℕ) → MatchOption o ((day month : ℕ) → NamesDayMonth t day month → ⊥) (λ said. NamesDayMonth t said.0 said.1) → o ≡ day_month_of t
unfolding day_month_of
day_month_read None t h = sym (cond_none (is_day_month t) _ (λ test. h _ _ ((day_month_decided t).0 test)))
day_month_read (Some said) t h =
    ap Some (let d = h.its_day.0 in let m = h.its_month.0 in ap (λ d. (d, said.1)) d ∙ ap (λ m. (number_at t 0 2, m)) m)
    ∙ sym (cond_some (is_day_month t) _ ((day_month_decided t).1 (own_numbers t said.0 said.1 h)))

-- the time of the day
abbrev pub IsClock : List ℕ → Type 0
IsClock t = IsDotted t × ((number_at t 0 2 ≤ 23) × ((number_at t 3 2 ≤ 59) × (number_at t 6 2 ≤ 59)))

abbrev is_clock : List ℕ → Bool
is_clock t = is_dotted t && (nat_le (number_at t 0 2) 23 && (nat_le (number_at t 3 2) 59 && nat_le (number_at t 6 2) 59))

clock_decided : (t : List ℕ) → Decides (is_clock t) (IsClock t)
clock_decided t =
    Decides-and _ _ (dotted_decided t) (Decides-and _ _ (le_decided (number_at t 0 2) 23)
    (Decides-and _ _ (le_decided (number_at t 3 2) 59) (le_decided (number_at t 6 2) 59)))

pub clock_time_read : (o : Option ℕ) (t : List ℕ) → MatchOption o ((s : ℕ) → NamesClockTime t s → ⊥) (NamesClockTime t) → o ≡ clock_time_of t
unfolding clock_time_of
clock_time_read None t h =
    sym (cond_none (is_clock t) _ (λ test. let clock = (clock_decided t).0 test in h _ (clock.0, clock.1.0, clock.1.1.0, clock.1.1.1, refl)))
clock_time_read (Some s) t h =
    ap Some h.4 ∙ sym (cond_some (is_clock t) _ ((clock_decided t).1 (h.0, (h.1, (h.2, h.3)))))

-- from the functions back to the relations
both_some : {A : Type 0} (a b : Bool) (x y : A) → cond a (cond b (Some x) None) None ≡ Some y → (a ≡ true) × (b ≡ true) × (x ≡ y)
both_some true true x y e = (refl, refl, (let f : Some x ≡ Some y = e in cc))
both_some true false x y e = absurd (let f : None ≡ Some y = e in cc)
both_some false b x y e = absurd (let f : None ≡ Some y = e in cc)

pub dotted_day-some : (t : List ℕ) (day : CivilDay) → dotted_day_of t ≡ Some day → (date : Date) × NamesDottedDay t (epoch_day date) × (civil_day date ≡ day)
unfolding dotted_day_of date_made
dotted_day-some t day e =
    let y = full_year (number_at t 6 2) in
    let m = number_at t 3 2 in
    let d = number_at t 0 2 in
    let parts = both_some (is_dotted t) (is_day y m d) (record { year = pos y; month = m; day = d }) day e in
    let made = date_made y m d ((has_day_decided y m d).0 parts.1) in
    ((made.1).0, ((dotted_decided t).0 parts.0, ((made.1).0, (made.1).1, refl)), parts.2)

pub day_month-some : (t : List ℕ) (day month : ℕ) → day_month_of t ≡ Some (day, month) → NamesDayMonth t day month
unfolding day_month_of
day_month-some t day month e =
    let said : ℕ × ℕ = (number_at t 0 2, number_at t 3 2) in
    let parts = both_some true (is_day_month t) said (day, month) e in
    subst (λ (x : ℕ × ℕ). NamesDayMonth t x.0 x.1) parts.2 ((day_month_decided t).0 parts.1)

-- the day of the month and the month that are read of a text are those that it names
pub day_month_is_named : DayMonthIsNamed
day_month_is_named t day month = (day_month-some t day month, λ h. sym (day_month_read (Some (day, month)) t h))

pub clock_time-some : (t : List ℕ) (s : ℕ) → clock_time_of t ≡ Some s → NamesClockTime t s
unfolding clock_time_of
clock_time-some t s e =
    let value : ℕ = number_at t 0 2 * 3600 + number_at t 3 2 * 60 + number_at t 6 2 in
    let parts = both_some true (is_clock t) value s e in
    let clock = (clock_decided t).0 parts.1 in
    (clock.0, clock.1.0, clock.1.1.0, clock.1.1.1, sym parts.2)

-- a text names one day at most, and one time
pub one_dotted_day : NamesOneDottedDay
one_dotted_day t m n h k = one_number _ _ _ m n h.1 k.1

pub one_dashed_day : NamesOneDashedDay
one_dashed_day t m n h k = one_number _ _ _ m n h.1 k.1

pub one_clock_time : NamesOneClockTime
one_clock_time t m n h k = h.4 ∙ sym k.4

-- the day that is read of a text is the one that it names
pub dotted_day_is_named : DottedDayIsNamed
dotted_day_is_named t day = (dotted_day-some t day, λ h. sym (dotted_day_read (Some h.0) t h.1) ∙ ap Some h.2)

pub dashed_day-some : (t : List ℕ) (day : CivilDay) → dashed_day_of t ≡ Some day → (date : Date) × NamesDashedDay t (epoch_day date) × (civil_day date ≡ day)
dashed_day-some t day e =
    let found = (dashed_day_decided t).0 (ap is_some e) in
    let date : Date = ((found.1).1).0 in
    let named : NamesDashedDay t (epoch_day date) = ((found.1).0, (date, ((found.1).1).1, refl)) in
    let same : Some (civil_day date) ≡ Some day = dashed_day_read (Some date) t named ∙ e in
    (date, named, cc)

pub dashed_day_is_named : DashedDayIsNamed
dashed_day_is_named t day = (dashed_day-some t day, λ h. sym (dashed_day_read (Some h.0) t h.1) ∙ ap Some h.2)

-- a text of digits has no letters
pub dotted-no_letters : (t : List ℕ) → IsDotted t → day_month_of t ≡ None
dotted-no_letters t dotted = none (day_month_of t) refl
  where
    none : (o : Option (ℕ × ℕ)) → day_month_of t ≡ o → o ≡ None
    none None e = refl
    none (Some said) e =
        let named = day_month-some t said.0 said.1 e in
        let long = named.len in
        let letter = named.letters.0 in
        let some : 0 < length (part t 6 2) = omega (arith, long, length-take 2 (drop 6 t), length-drop 6 t) in
        let digit : get_or (part t 6 2) 0 0 ≤ 57 = (dotted.third 0 some).1 in
        let first : get_or (part t 6 2) 0 0 ≡ get_or t 6 0 = get_or-take 2 (drop 6 t) 0 0 (omega arith) ∙ get_or-drop 6 t 0 0 in
        absurd (omega (arith, letter, digit, first))

-- the second that is read of a text is the one that it names
pub clock_time_is_named : ClockTimeIsNamed
clock_time_is_named t s = (clock_time-some t s, λ h. sym (clock_time_read (Some s) t h))
