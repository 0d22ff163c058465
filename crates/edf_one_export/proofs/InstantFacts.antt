-- Files with the same samples start in the same second, and so on the same day, at the same time.
use Rattle.std.proofs.Common.{◌≡◌, ℕ, ℤ, pos, ◌<◌, ◌+ℤ◌, ◌*ℤ◌, ◌≤ℤ◌, ◌<ℤ◌, ◌^◌, List, ap, arith, ◌∙◌, sym}
use Rattle.std.proofs.lemmas.Int.{ints}
use Rattle.jiff.specs.Types.{Date}
use Rattle.jiff.specs.Words.{epoch_day}
use Rattle.jiff.proofs.Family.{epoch_day_injective}
use Rattle.edf_fields.specs.texts.Dates.{CivilDay, civil_day}
use Rattle.edf_header.specs.Heads.{Head, NamesStartdate, day_number}
use Rattle.edf_header.specs.HeadsReading.{start_second}
use Rattle.edf_stream.specs.declared.times.instant.Instant.{Instant}
use Rattle.edf_stream.specs.Conforming.{Conforms}
use Rattle.edf_stream.specs.samples.Samples.{SampleValue, IsSample}
use Rattle.edf_stream.specs.times.InstantOrder.{IsNotBefore, IsSecondOf}
use Rattle.edf_stream.specs.times.Instants.{IsSame}
use Rattle.edf_stream.proofs.ForCallers.{start_is_of_least}
use Rattle.edf_samples.specs.InstantOrder.{IsBefore}
use Rattle.edf_samples.proofs.ForCallers.{both_same, not_before-before, same_before}
use Rattle.edf_layout.specs.body.BodyLaws.{HaveSameSamples}

-- a whole number of picoseconds, as an instant
unfoldable whole : ℤ → Instant
whole ps = record { num = ps; den = 1 }

turned : (n : ℕ) (z : ℤ) → pos n *ℤ z ≡ z *ℤ pos n
turned n z = omega (arith, ints)

once : (z : ℤ) → z *ℤ pos 1 ≡ z
once z = omega (arith, ints)

reached : (p : Instant) (ps : ℤ) → (pos p.den *ℤ ps) ≤ℤ p.num → IsNotBefore p (whole ps)
unfolding whole
reached p ps le = let t = turned p.den ps in let o = once p.num in omega (arith, ints, le, t, o)

later : (p : Instant) (ps : ℤ) → p.num <ℤ (pos p.den *ℤ ps) → IsBefore p (whole ps)
unfolding whole
later p ps lt = let t = turned p.den ps in let o = once p.num in omega (arith, ints, lt, t, o)

-- instants that are the same: the second of the one isn't behind that of the other
not-behind : (p q : Instant) (s t : ℤ) → 0 < p.den → IsSame p q → IsSecondOf p s → IsSecondOf q t → s <ℤ (t +ℤ pos 1)
unfolding whole
not-behind p q s t some same h k =
    let low = s *ℤ pos (10 ^ 12) in
    let high = (t +ℤ pos 1) *ℤ pos (10 ^ 12) in
    let order : IsBefore (whole low) (whole high) = not_before-before (whole low) p (whole high) (omega arith) (reached p low h.reached) (same_before p q (whole high) some same (later q high k.next_is_later)) in
    let plain : (s *ℤ pos 1000000000000) <ℤ ((t +ℤ pos 1) *ℤ pos 1000000000000) = (let a = once low in let b = once high in omega (arith, ints, order, a, b)) in
    omega (arith, ints, plain)

pub seconds-same : (file other : List ℕ) (h g : Head) → Conforms file h → Conforms other g → HaveSameSamples file h other g → start_second h ≡ start_second g
seconds-same file other h g c d samples =
    let one = start_is_of_least file h c in
    let two = start_is_of_least other g d in
    let x : SampleValue = one.0 in
    let y : SampleValue = two.0 in
    let few = ((one.1).sample).in_lane in
    let less = ((two.1).sample).in_lane in
    let there : IsSample other g x = (samples x).0 (one.1).sample in
    let here : IsSample file h y = (samples y).1 (two.1).sample in
    let forth : IsNotBefore x.instant y.instant = (two.1).least x there in
    let back : IsNotBefore y.instant x.instant = (one.1).least y here in
    let a = not-behind x.instant y.instant (start_second h) (start_second g) (omega (arith, few)) (both_same x.instant y.instant forth back) (one.1).second (two.1).second in
    let b = not-behind y.instant x.instant (start_second g) (start_second h) (omega (arith, less)) (both_same y.instant x.instant back forth) (two.1).second (one.1).second in
    omega (arith, ints, a, b)

-- a second is that of one day, at one time
pub day-and-clock : (a b : ℤ) (c d : ℕ) → c < 86400 → d < 86400 → (pos 86400 *ℤ a) +ℤ pos c ≡ (pos 86400 *ℤ b) +ℤ pos d → (a ≡ b) × (c ≡ d)
day-and-clock a b c d low less e =
    let days : a ≡ b = omega (arith, ints, low, less, e) in
    (days, omega (arith, ints, low, less, e, days))

days-equal : (p q : CivilDay) → p.year ≡ q.year → p.month ≡ q.month → p.day ≡ q.day → p ≡ q
days-equal p q a b c =
    let made : ℤ → ℕ → ℕ → CivilDay = λ year month day. record { year = year; month = month; day = day } in
    ap (λ x. made x p.month p.day) a ∙ ap (λ x. made q.year x p.day) b ∙ ap (λ x. made q.year q.month x) c

-- days that a startdate names are one day where their numbers are the same
pub day-same : (t u date other : List ℕ) (p q : CivilDay) → NamesStartdate t date p → NamesStartdate u other q → day_number p ≡ day_number q → p ≡ q
day-same t u date other p q h k same =
    let one : Date = h.0 in
    let two : Date = k.0 in
    let left : day_number (civil_day one) ≡ day_number p = ap day_number h.1 in
    let right : day_number (civil_day two) ≡ day_number q = ap day_number k.1 in
    let days : epoch_day one ≡ epoch_day two = left ∙ same ∙ sym right in
    let parts = epoch_day_injective one two days in
    sym h.1 ∙ days-equal (civil_day one) (civil_day two) parts.0 parts.1 parts.2 ∙ k.1
