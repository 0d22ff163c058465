-- The day at which a recording starts, as its two fields say it.
use Rattle.std.proofs.Common.{◌≡◌, ℕ, ℤ, pos, ◌≤ℤ◌, ◌<◌, inl, inr, ◌==◌, int_le, Bool, true, false, cond, List, [], ◌∷◌, Option, Some, None, refl, sym, ap, ◌∙◌, subst, arith, unsigned_abs}
use Rattle.std.proofs.lemmas.Bool.Decides.{Decides-int_eq, Decides-eqb}
use Rattle.std.proofs.lemmas.Int.{ints}
use Rattle.jiff.specs.Types.{Date}
use Rattle.jiff.specs.Words.{epoch_day}
use Rattle.jiff_core.proofs.DateLemmas.{epoch_day_range}
use Rattle.edf_fields.specs.Parts.{text_of}
use Rattle.edf_fields.specs.texts.Dates.{CivilDay, NamesDayMonth, NamesDashedDay, civil_day}
use Rattle.edf_fields.specs.texts.DatesReading.{dotted_day_of, day_month_of, dashed_day_of}
use Rattle.edf_fields.proofs.ForCallers.{dotted_day_read, dotted_day-some, day_month_read, day_month-some, dashed_day_read, dashed_day-some, dotted-no_letters, first-cons, and-true, both-true, le-tested, le-passes}
use Rattle.edf_fields.specs.declared.faults.fault.Place.TheVariants.{AtField}
use Rattle.edf_fields.specs.declared.faults.fault.Cause.TheVariants.{BadStart, StartdateDiffers}
use Rattle.edf_fields.specs.declared.fields.layout.FixedField.TheVariants as fixed
use Rattle.edf_header.specs.Heads.{NamesStartdate, day_number}
use Rattle.edf_header.specs.HeadsReading.{late_day, day_by, startdate_of}
use Rattle.edf_header.specs.Faults.{fault_unless, not_printable, not_named, is_same_day, has_day_month, is_same_start, start_tests, startdate_fault}
use Rattle.edf_header.proofs.PassedFacts.{fault_unless-passed, named-passed}

-- the startdate and the recording date say the same
abbrev pub SayTheSame : List ℕ → List ℕ → Type 0
SayTheSame text recorded = is_same_start (day_month_of text) (dotted_day_of text) (dashed_day_of recorded) ≡ true

-- a startdate that passed names a day, and the same as the recording date
pub startdate-named : (recorded field : List ℕ) → startdate_fault recorded field ≡ None → ((day : CivilDay) × (startdate_of (text_of field) recorded ≡ Some day)) × SayTheSame (text_of field) recorded
unfolding startdate_fault
startdate-named recorded field h =
    let day : Option CivilDay = startdate_of (text_of field) recorded in
    let same : Bool = is_same_start (day_month_of (text_of field)) (dotted_day_of (text_of field)) (dashed_day_of recorded) in
    let test = fault_unless same (AtField fixed.Startdate) StartdateDiffers in
    let a = first-cons (not_printable (AtField fixed.Startdate) field) (start_tests day same) h in
    let b = first-cons (not_named (AtField fixed.Startdate) BadStart day) (test ∷ []) a.1 in
    (named-passed (AtField fixed.Startdate) BadStart day b.0, fault_unless-passed same (AtField fixed.Startdate) StartdateDiffers (first-cons test [] b.1).0)

-- a day after 2084
late-some : (o : Option CivilDay) (day : CivilDay) → late_day o ≡ Some day → (o ≡ Some day) × (pos 2085 ≤ℤ day.year)
late-some None day e = absurd (let f : None ≡ Some day = e in cc)
late-some (Some recorded) day e = late (int_le (pos 2085) recorded.year) refl e
  where
    late : (b : Bool) → int_le (pos 2085) recorded.year ≡ b → cond b (Some recorded) None ≡ Some day → (Some recorded ≡ Some day) × (pos 2085 ≤ℤ day.year)
    late true t f =
        let same : recorded ≡ day = (let g : Some recorded ≡ Some day = f in cc) in
        (f, subst (λ (d : CivilDay). pos 2085 ≤ℤ d.year) same (le-tested (pos 2085) recorded.year t))
    late false t f = absurd (let g : None ≡ Some day = f in cc)

late-is : (day : CivilDay) → pos 2085 ≤ℤ day.year → late_day (Some day) ≡ Some day
late-is day late = ap (λ b. cond b (Some day) None) (le-passes (pos 2085) day.year late)

-- the day of a text without a year has its day of the month and its month
months-are : (said : ℕ × ℕ) (day : CivilDay) → has_day_month said (Some day) ≡ true → (day.day ≡ said.0) × (day.month ≡ said.1)
months-are said day h =
    let both = and-true (day.day == said.0) (day.month == said.1) h in
    ((Decides-eqb day.day said.0).0 both.0, (Decides-eqb day.month said.1).0 both.1)

-- what is read of the fields is what they say
pub startdate-said : (text recorded : List ℕ) (day : CivilDay) → startdate_of text recorded ≡ Some day → SayTheSame text recorded → NamesStartdate text recorded day
startdate-said text recorded day e same = by (day_month_of text) refl e same
  where
    by : (m : Option (ℕ × ℕ)) → day_month_of text ≡ m → day_by m (dotted_day_of text) (dashed_day_of recorded) ≡ Some day → is_same_start m (dotted_day_of text) (dashed_day_of recorded) ≡ true
        → NamesStartdate text recorded day
    by None m f s = let named = dotted_day-some text day f in (named.0, named.2, inl named.1)
    by (Some said) m f s =
        let late = late-some (dashed_day_of recorded) day f in
        let named = dashed_day-some recorded day late.0 in
        let parts = months-are said day (subst (λ o. has_day_month said o ≡ true) late.0 s) in
        let says : NamesDayMonth text day.day day.month =
        subst (λ d. NamesDayMonth text d day.month) (sym parts.0) (subst (λ n. NamesDayMonth text said.0 n) (sym parts.1) (day_month-some text said.0 said.1 m)) in
        (named.0, named.2, inr (says, named.1, late.1))

-- and what they say is what is read of them
pub startdate-read : (text recorded : List ℕ) (day : CivilDay) → NamesStartdate text recorded day → startdate_of text recorded ≡ Some day
startdate-read text recorded day (date, is, inl dotted) =
    ap (λ m. day_by m (dotted_day_of text) (dashed_day_of recorded)) (dotted-no_letters text dotted.0) ∙ sym (dotted_day_read (Some date) text dotted) ∙ ap Some is
startdate-read text recorded day (date, is, inr (says, dashed, late)) =
    ap (λ m. day_by m (dotted_day_of text) (dashed_day_of recorded)) (sym (day_month_read (Some (day.day, day.month)) text says))
    ∙ ap late_day (sym (dashed_day_read (Some date) recorded dashed) ∙ ap Some is) ∙ late-is day late

-- where the recording date is no other day, both say the same
pub same-passes : (text recorded : List ℕ) (day : CivilDay) → NamesStartdate text recorded day → ((m : ℤ) → NamesDashedDay recorded m → m ≡ day_number day) → SayTheSame text recorded
same-passes text recorded day (date, is, inl dotted) same =
    ap (λ m. is_same_start m (dotted_day_of text) (dashed_day_of recorded)) (dotted-no_letters text dotted.0)
    ∙ ap (is_same_day (dashed_day_of recorded)) (sym (dotted_day_read (Some date) text dotted) ∙ ap Some is) ∙ by (dashed_day_of recorded) refl
  where
    by : (r : Option CivilDay) → dashed_day_of recorded ≡ r → is_same_day r (Some day) ≡ true
    by None e = refl
    by (Some other) e =
        let named = dashed_day-some recorded other e in
        (Decides-int_eq (day_number other) (day_number day)).1 (sym (ap day_number named.2) ∙ same (epoch_day named.0) named.1)
same-passes text recorded day (date, is, inr (says, dashed, late)) same =
    ap (λ m. is_same_start m (dotted_day_of text) (dashed_day_of recorded)) (sym (day_month_read (Some (day.day, day.month)) text says))
    ∙ ap (has_day_month (day.day, day.month)) (sym (dashed_day_read (Some date) recorded dashed) ∙ ap Some is)
    ∙ both-true (day.day == day.day) (day.month == day.month) ((Decides-eqb day.day day.day).1 refl) ((Decides-eqb day.month day.month).1 refl)

-- the recording date, where it is a day, is the day that was read
pub same-day : (text recorded : List ℕ) (day : CivilDay) (n : ℤ) → startdate_of text recorded ≡ Some day → SayTheSame text recorded → NamesDashedDay recorded n → n ≡ day_number day
same-day text recorded day n e same named = by (day_month_of text) e same
  where
    other : Date
    other = (named.1).0

    read : dashed_day_of recorded ≡ Some (civil_day other)
    read = sym (dashed_day_read (Some other) recorded (named.0, (other, (named.1).1, refl)))

    by : (m : Option (ℕ × ℕ)) → day_by m (dotted_day_of text) (dashed_day_of recorded) ≡ Some day → is_same_start m (dotted_day_of text) (dashed_day_of recorded) ≡ true → n ≡ day_number day
    by None f s =
        let same : is_same_day (Some (civil_day other)) (Some day) ≡ true = ap (λ r. is_same_day r (Some day)) (sym read) ∙ ap (is_same_day (dashed_day_of recorded)) (sym f) ∙ s in
        (named.1).2 ∙ (Decides-int_eq (day_number (civil_day other)) (day_number day)).0 same
    by (Some said) f s =
        let late = late-some (dashed_day_of recorded) day f in
        let is : civil_day other ≡ day = (let g : Some (civil_day other) ≡ Some day = sym read ∙ late.0 in cc) in
        (named.1).2 ∙ ap day_number is

-- a day of the calendar isn't far from 1970
pub near-day : (text recorded : List ℕ) (day : CivilDay) → NamesStartdate text recorded day → unsigned_abs (day_number day) < 5000000
near-day text recorded day named =
    let range = epoch_day_range named.0 in
    let low = range.0 in
    let high = range.1 in
    let near : unsigned_abs (epoch_day named.0) < 5000000 = omega (arith, ints, low, high) in
    subst (λ z. unsigned_abs z < 5000000) (ap day_number named.1) near
