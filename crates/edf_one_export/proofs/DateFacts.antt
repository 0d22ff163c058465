-- A date of a recording is spelled in one way.
use Rattle.std.proofs.Common.{◌≡◌, ℕ, ℤ, pos, ◌+◌, ◌≤◌, List, [], ◌∷◌, length, get_or, drop, Option, None, Some, codes, arith, refl, ap, ◌∙◌, sym, subst}
use Rattle.std.specs.List.{position}
use Rattle.std.specs.Option.{option_map_or}
use Rattle.std.specs.Str.{bytes_eq}
use Rattle.std.proofs.lemmas.Int.{ints}
use Rattle.std.proofs.lemmas.List.{length-take, length-drop}
use Rattle.std.proofs.lemmas.List.Quantifiers.{position-Some}
use Rattle.std.proofs.lemmas.Slice.Eq.{bytes_eq-Decides}
use Rattle.jiff.specs.Types.{Date}
use Rattle.jiff.specs.Words.{IsYmd}
use Rattle.jiff.proofs.Family.{epoch_day_injective}
use Rattle.edf_fields.specs.Parts.{part}
use Rattle.edf_fields.specs.texts.Dates.{number_at, month_of, NamesDashedDay}
use Rattle.edf_fields.specs.texts.Numbers.{AreDigits}
use Rattle.edf_layout.proofs.ForCallers.{digits-same, join-parts, nothing-behind, same-byte}

-- one of several names is found by its place
names-alike : (names : List (List ℕ)) (a b : List ℕ) (p q : Option ℕ) → position (bytes_eq a) names ≡ p → position (bytes_eq b) names ≡ q
    → option_map_or (λ k. k + 1) p 0 ≡ option_map_or (λ k. k + 1) q 0 → 1 ≤ option_map_or (λ k. k + 1) p 0 → a ≡ b
names-alike names a b None q h k same some = absurd (omega (arith, some))
names-alike names a b (Some i) None h k same some = absurd (omega (arith, same))
names-alike names a b (Some i) (Some j) h k same some =
    let at : i ≡ j = omega (arith, same) in
    let one : a ≡ get_or names i [] = (bytes_eq-Decides a (get_or names i [])).0 (position-Some (bytes_eq a) names i [] h).1 in
    let two : b ≡ get_or names j [] = (bytes_eq-Decides b (get_or names j [])).0 (position-Some (bytes_eq b) names j [] k).1 in
    one ∙ ap (λ n. get_or names n []) at ∙ sym two

month-same : (a b : List ℕ) → month_of a ≡ month_of b → 1 ≤ month_of a → a ≡ b
month-same a b same some = names-alike (
    codes "JAN" ∷ codes "FEB" ∷ codes "MAR" ∷ codes "APR" ∷ codes "MAY" ∷ codes "JUN"
    ∷ codes "JUL" ∷ codes "AUG" ∷ codes "SEP" ∷ codes "OCT" ∷ codes "NOV" ∷ codes "DEC" ∷ []) a b _ _ refl refl same some

part-long : (t : List ℕ) (at n : ℕ) → at + n ≤ length t → length (part t at n) ≡ n
part-long t at n fits = let a = length-take n (drop at t) in let b = length-drop at t in omega arith

number-same : (t u : List ℕ) (at n : ℕ) → at + n ≤ length t → at + n ≤ length u → AreDigits (part t at n) → AreDigits (part u at n) → number_at t at n ≡ number_at u at n → part t at n ≡ part u at n
number-same t u at n fits fit h k same = digits-same (part t at n) (part u at n) h k (part-long t at n fits ∙ sym (part-long u at n fit)) same

-- the year, the month and the day of a date with these
ymd : (y m d : ℕ) (date : Date) → IsYmd (pos y) (pos m) (pos d) date → (date.year ≡ pos y) × (date.month ≡ m) × (date.day ≡ d)
ymd y m d date is = (is.0, cc, cc)

-- a text of eleven bytes by its parts
eleven-bytes : (t u : List ℕ) → length t ≡ 11 → length u ≡ 11 → part t 0 2 ≡ part u 0 2 → part t 2 1 ≡ part u 2 1 → part t 3 3 ≡ part u 3 3 → part t 6 1 ≡ part u 6 1 → part t 7 4 ≡ part u 7 4 → t ≡ u
eleven-bytes t u long other a b c d e =
    let end : drop 11 t ≡ drop 11 u = nothing-behind t 11 (omega arith) ∙ sym (nothing-behind u 11 (omega arith)) in
    let j = join-parts t u in
    j 0 2 a (j 2 1 b (j 3 3 c (j 6 1 d (j 7 4 e end))))

pub dashed-same : (t u : List ℕ) (n : ℤ) → NamesDashedDay t n → NamesDashedDay u n → t ≡ u
dashed-same t u n h k =
    let long = (h.0).len in
    let other = (k.0).len in
    let one : Date = (h.1).0 in
    let two : Date = (k.1).0 in
    let same = epoch_day_injective one two (sym (h.1).2 ∙ (k.1).2) in
    let left = ymd (number_at t 7 4) (month_of (part t 3 3)) (number_at t 0 2) one (h.1).1 in
    let right = ymd (number_at u 7 4) (month_of (part u 3 3)) (number_at u 0 2) two (k.1).1 in
    let years : pos (number_at t 7 4) ≡ pos (number_at u 7 4) = sym left.0 ∙ same.0 ∙ right.0 in
    let month : month_of (part t 3 3) ≡ month_of (part u 3 3) = sym left.1 ∙ same.1 ∙ right.1 in
    let some : 1 ≤ month_of (part t 3 3) = subst (λ m. 1 ≤ m) left.1 (one.month_in).0 in
    eleven-bytes t u (h.0).len (k.0).len
    (number-same t u 0 2 (omega arith) (omega arith) (h.0).day (k.0).day (sym left.2 ∙ same.2 ∙ right.2))
    (same-byte t u 2 45 (omega arith) (omega arith) ((h.0).dashes).0 ((k.0).dashes).0)
    (month-same (part t 3 3) (part u 3 3) month some)
    (same-byte t u 6 45 (omega arith) (omega arith) ((h.0).dashes).1 ((k.0).dashes).1)
    (number-same t u 7 4 (omega arith) (omega arith) (h.0).year (k.0).year (omega (arith, ints, years)))
