-- The startdate and the starttime are spelled in one way each.
use Rattle.std.proofs.Common.{◌≡◌, inl, inr, ℕ, ℤ, pos, zero, suc, ◌+◌, ◌*◌, ◌^◌, ◌<◌, ◌≤◌, ◌≤ℤ◌, List, [], ◌∷◌, length, get_or, take, drop, arith, refl, ap, ◌∙◌, sym, subst}
use Rattle.std.proofs.lemmas.Int.{ints}
use Rattle.std.proofs.lemmas.Bool.Decides.{nat_tests}
use Rattle.std.proofs.lemmas.List.{length-take, length-drop}
use Rattle.jiff.specs.Types.{Date}
use Rattle.jiff.specs.Words.{epoch_day}
use Rattle.jiff.proofs.Family.{epoch_day_injective}
use Rattle.edf_fields.specs.Parts.{part}
use Rattle.edf_fields.specs.texts.Numbers.{AreDigits}
use Rattle.edf_fields.specs.texts.Dates.{number_at, full_year, IsDayNumber, IsDotted, NamesDottedDay, NamesDayMonth, NamesClockTime, CivilDay, civil_day}
use Rattle.edf_header.specs.Heads.{NamesStartdate}
use Rattle.edf_layout.proofs.plain.DigitFacts.{weight-below, digits-same}
use Rattle.edf_layout.proofs.FieldFacts.{join-parts, nothing-behind}

one-byte : (t : List ℕ) (k : ℕ) → k < length t → part t k 1 ≡ get_or t k 0 ∷ []
one-byte [] k low = absurd (omega arith)
one-byte (b ∷ bs) zero low = refl
one-byte (b ∷ bs) (suc k) low = one-byte bs k (omega arith)

pub same-byte : (t u : List ℕ) (k b : ℕ) → k < length t → k < length u → get_or t k 0 ≡ b → get_or u k 0 ≡ b → part t k 1 ≡ part u k 1
same-byte t u k b low less e f = one-byte t k low ∙ ap (λ c. c ∷ []) (e ∙ sym f) ∙ sym (one-byte u k less)

two-long : (t : List ℕ) (at : ℕ) → at + 2 ≤ length t → length (part t at 2) ≡ 2
two-long t at fits = let a = length-take 2 (drop at t) in let b = length-drop at t in omega arith

-- two digits with one number
two-digits : (t u : List ℕ) (at : ℕ) → length t ≡ 8 → length u ≡ 8 → at ≤ 6 → AreDigits (part t at 2) → AreDigits (part u at 2) → number_at t at 2 ≡ number_at u at 2 → part t at 2 ≡ part u at 2
two-digits t u at long other low h k same = digits-same (part t at 2) (part u at 2) h k (two-long t at (omega arith) ∙ sym (two-long u at (omega arith))) same

below-hundred : (t : List ℕ) (at : ℕ) → length t ≡ 8 → at ≤ 6 → AreDigits (part t at 2) → number_at t at 2 < 100
below-hundred t at long low h = subst (λ n. number_at t at 2 < 10 ^ n) (two-long t at (omega arith)) (weight-below (part t at 2) h)

-- a text of eight bytes by its parts
eight-bytes : (t u : List ℕ) → length t ≡ 8 → length u ≡ 8 → part t 0 2 ≡ part u 0 2 → part t 2 1 ≡ part u 2 1 → part t 3 2 ≡ part u 3 2 → part t 5 1 ≡ part u 5 1 → part t 6 2 ≡ part u 6 2 → t ≡ u
eight-bytes t u long other a b c d e =
    let end : drop 8 t ≡ drop 8 u = nothing-behind t 8 (omega arith) ∙ sym (nothing-behind u 8 (omega arith)) in
    let j = join-parts t u in
    j 0 2 a (j 2 1 b (j 3 2 c (j 5 1 d (j 6 2 e end))))

dotted-same : (t u : List ℕ) → IsDotted t → IsDotted u → number_at t 0 2 ≡ number_at u 0 2 → number_at t 3 2 ≡ number_at u 3 2 → number_at t 6 2 ≡ number_at u 6 2 → t ≡ u
dotted-same t u h k first second third =
    let long = h.len in
    let other = k.len in
    eight-bytes t u h.len k.len
    (two-digits t u 0 h.len k.len (omega arith) h.first k.first first)
    (same-byte t u 2 46 (omega arith) (omega arith) (h.dots).0 (k.dots).0)
    (two-digits t u 3 h.len k.len (omega arith) h.second k.second second)
    (same-byte t u 5 46 (omega arith) (omega arith) (h.dots).1 (k.dots).1)
    (two-digits t u 6 h.len k.len (omega arith) h.third k.third third)

-- two bytes at the end
two-bytes : (t u : List ℕ) → length t ≡ 8 → length u ≡ 8 → part t 6 1 ≡ part u 6 1 → part t 7 1 ≡ part u 7 1 → drop 6 t ≡ drop 6 u
two-bytes t u long other a b =
    let end : drop 8 t ≡ drop 8 u = nothing-behind t 8 (omega arith) ∙ sym (nothing-behind u 8 (omega arith)) in
    join-parts t u 6 1 a (join-parts t u 7 1 b end)

letters-same : (t u : List ℕ) (day month : ℕ) → NamesDayMonth t day month → NamesDayMonth u day month → t ≡ u
letters-same t u day month h k =
    let long = h.len in
    let other = k.len in
    eight-bytes t u h.len k.len
    (two-digits t u 0 h.len k.len (omega arith) (h.digits).0 (k.digits).0 (sym (h.its_day).0 ∙ (k.its_day).0))
    (same-byte t u 2 46 (omega arith) (omega arith) (h.dots).0 (k.dots).0)
    (two-digits t u 3 h.len k.len (omega arith) (h.digits).1 (k.digits).1 (sym (h.its_month).0 ∙ (k.its_month).0))
    (same-byte t u 5 46 (omega arith) (omega arith) (h.dots).1 (k.dots).1)
    (ap (λ r. take 2 r) (two-bytes t u h.len k.len
    (same-byte t u 6 121 (omega arith) (omega arith) (h.letters).0 (k.letters).0)
    (same-byte t u 7 121 (omega arith) (omega arith) (h.letters).1 (k.letters).1)))

-- what a text in the form dd.mm.yy says of a date
dotted-says : (t : List ℕ) (date : Date) → NamesDottedDay t (epoch_day date) → (date.year ≡ pos (full_year (number_at t 6 2))) × (date.month ≡ number_at t 3 2) × (date.day ≡ number_at t 0 2)
dotted-says t date h =
    let named : IsDayNumber (full_year (number_at t 6 2)) (number_at t 3 2) (number_at t 0 2) (epoch_day date) = h.1 in
    let same = epoch_day_injective date named.0 named.2 in
    let parts = ymd (full_year (number_at t 6 2)) (number_at t 3 2) (number_at t 0 2) (epoch_day date) named in
    (same.0 ∙ parts.0, same.1 ∙ parts.1, same.2 ∙ parts.2)
  where
    ymd : (y m d : ℕ) (n : ℤ) (h : IsDayNumber y m d n) → ((h.0).year ≡ pos y) × ((h.0).month ≡ m) × ((h.0).day ≡ d)
    ymd y m d n h = let is = h.1 in (is.0, cc, cc)

civil-parts : (date : Date) (day : CivilDay) → civil_day date ≡ day → (date.year ≡ day.year) × (date.month ≡ day.month) × (date.day ≡ day.day)
civil-parts date day e = (ap (λ (d : CivilDay). d.year) e, ap (λ (d : CivilDay). d.month) e, ap (λ (d : CivilDay). d.day) e)

full-year-same : (a b : ℕ) → a < 100 → b < 100 → full_year a ≡ full_year b → a ≡ b
full-year-same a b low less e = grind (arith, nat_tests)

full-year-early : (a : ℕ) → a < 100 → full_year a < 2085
full-year-early a low = grind (arith, nat_tests)

dotted-day-same : (t u : List ℕ) (d e : Date) (day : CivilDay) → civil_day d ≡ day → civil_day e ≡ day → NamesDottedDay t (epoch_day d) → NamesDottedDay u (epoch_day e) → t ≡ u
dotted-day-same t u d e day is too h k =
    let left = dotted-says t d h in
    let right = dotted-says u e k in
    let one = civil-parts d day is in
    let two = civil-parts e day too in
    let years : pos (full_year (number_at t 6 2)) ≡ pos (full_year (number_at u 6 2)) = sym left.0 ∙ one.0 ∙ sym two.0 ∙ right.0 in
    let year : full_year (number_at t 6 2) ≡ full_year (number_at u 6 2) = omega (arith, ints, years) in
    let low = below-hundred t 6 (h.0).len (omega arith) (h.0).third in
    let less = below-hundred u 6 (k.0).len (omega arith) (k.0).third in
    dotted-same t u h.0 k.0
    (sym left.2 ∙ one.2 ∙ sym two.2 ∙ right.2)
    (sym left.1 ∙ one.1 ∙ sym two.1 ∙ right.1)
    (full-year-same (number_at t 6 2) (number_at u 6 2) low less year)

-- a day in the form dd.mm.yy isn't behind 2084
not-late : (t : List ℕ) (d : Date) (day : CivilDay) → civil_day d ≡ day → NamesDottedDay t (epoch_day d) → pos 2085 ≤ℤ day.year → ⊥
not-late t d day is h late =
    let said = dotted-says t d h in
    let one = civil-parts d day is in
    let early = full-year-early (number_at t 6 2) (below-hundred t 6 (h.0).len (omega arith) (h.0).third) in
    let year : day.year ≡ pos (full_year (number_at t 6 2)) = sym one.0 ∙ said.0 in
    omega (arith, ints, early, year, late)

pub startdate-same : (t u date other : List ℕ) (day : CivilDay) → NamesStartdate t date day → NamesStartdate u other day → t ≡ u
startdate-same t u date other day h k = elim h.2 [
  | inl a ↦ elim k.2 [
    | inl b ↦ dotted-day-same t u h.0 k.0 day h.1 k.1 a b
    | inr b ↦ absurd (not-late t h.0 day h.1 a b.2)
  ]
  | inr a ↦ elim k.2 [
    | inl b ↦ absurd (not-late u k.0 day k.1 b a.2)
    | inr b ↦ letters-same t u day.day day.month a.0 b.0
  ]
]

clock-parts : (a b c x y z : ℕ) → b ≤ 59 → c ≤ 59 → y ≤ 59 → z ≤ 59 → a * 3600 + b * 60 + c ≡ x * 3600 + y * 60 + z → (a ≡ x) × (b ≡ y) × (c ≡ z)
clock-parts a b c x y z p q r s e = (omega arith, omega arith, omega arith)

pub starttime-same : (t u : List ℕ) (second : ℕ) → NamesClockTime t second → NamesClockTime u second → t ≡ u
starttime-same t u second h k =
    let parts = clock-parts (number_at t 0 2) (number_at t 3 2) (number_at t 6 2) (number_at u 0 2) (number_at u 3 2) (number_at u 6 2) h.2 h.3 k.2 k.3 (sym h.4 ∙ k.4) in
    dotted-same t u h.0 k.0 parts.0 parts.1 parts.2
