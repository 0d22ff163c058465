-- Two exports of one original under one claim, with the same rates, have the same samples.
use Rattle.std.proofs.Common.{◌≡◌, false, ℕ, ℤ, pos, zero, suc, ◌<◌, ◌*ℤ◌, ◌<ℤ◌, List, slice_get, Some, arith, ap, ◌∙◌, sym, subst}
use Rattle.std.proofs.lemmas.Int.{ints}
use Rattle.std.proofs.lemmas.Int.{by_lt_z}
use Rattle.edf_claim.specs.ClaimValues.{ClaimValue}
use Rattle.edf_fields.proofs.ForCallers.{at-has, get-within}
use Rattle.edf_header.specs.Heads.{SignalHead, Head, is_annotations}
use Rattle.edf_header.specs.signals.ChannelsReading.{IsChannel, HasDistinctChannels}
use Rattle.edf_header.proofs.ForCallers.{channels_distinct}
use Rattle.edf_stream.specs.declared.times.instant.Instant.{Instant}
use Rattle.edf_stream.specs.Conforming.{Conforms}
use Rattle.edf_stream.specs.samples.Samples.{SampleValue, IsSample}
use Rattle.edf_stream.specs.times.Instants.{IsSame}
use Rattle.edf_samples.specs.Instants.{later}
use Rattle.edf_samples.proofs.ForCallers.{same_back, same_through}
use Rattle.edf_pace.specs.Kept.{shift_ps, SamplesAsKept}
use Rattle.edf_layout.proofs.ForCallers.{get-some}
use Rattle.edf_one_export.proofs.SignalFacts.{AreAlike}

-- channels of one label have as many samples
as-many : (hs gs : List SignalHead) → AreAlike hs gs → HasDistinctChannels gs → (i j : ℕ) (a b : SignalHead) (label : List ℕ) → slice_get hs i ≡ Some a → slice_get gs j ≡ Some b
    → a.label ≡ label → b.label ≡ label → is_annotations label ≡ false → a.samples ≡ b.samples
as-many hs gs alike distinct i j a b label e f p q plain =
    let count = alike.count in
    let within = get-within hs i a e in
    let found = get-some gs i (omega (arith, count, within)) in
    let own : found.0.label ≡ label = sym (alike.labels i a found.0 e found.1) ∙ p in
    let one : IsChannel gs i label = (found.0, found.1, (own, plain)) in
    let two : IsChannel gs j label = (b, f, (q, plain)) in
    let at : i ≡ j = distinct i j label one two in
    alike.samples i a b e (ap (λ k. slice_get gs k) at ∙ f)

scaled : (n : ℕ) (x y : ℤ) → 0 < n → x <ℤ y → (pos n *ℤ x) <ℤ (pos n *ℤ y)
scaled zero x y some lt = absurd (omega arith)
scaled (suc zero) x y some lt = omega (arith, ints, lt)
scaled (suc (suc n)) x y some lt = let rest : (pos (suc n) *ℤ x) <ℤ (pos (suc n) *ℤ y) = scaled (suc n) x y (omega arith) lt in omega (arith, ints, rest, lt)

turned : (n : ℕ) (z : ℤ) → pos n *ℤ z ≡ z *ℤ pos n
turned n z = omega (arith, ints)

cancel : (n : ℕ) (x y : ℤ) → 0 < n → x *ℤ pos n ≡ y *ℤ pos n → x ≡ y
cancel n x y some e =
    let p = turned n x in
    let q = turned n y in
    by_lt_z x y
    (λ lt. absurd (let f = scaled n x y some lt in omega (arith, ints, e, f, p, q)))
    (λ le. by_lt_z y x
    (λ lt. absurd (let f = scaled n y x some lt in omega (arith, ints, e, f, p, q)))
    (λ ge. omega (arith, ints, le, ge)))

-- one instant with one denominator
num-same : (p q : Instant) → 0 < p.den → p.den ≡ q.den → IsSame p q → p.num ≡ q.num
num-same p q some den same = cancel p.den p.num q.num some (ap (λ n. p.num *ℤ pos n) den ∙ same)

samples-equal : (x y : SampleValue) → x.label ≡ y.label → (x.instant).num ≡ (y.instant).num → (x.instant).den ≡ (y.instant).den → x.value ≡ y.value → x ≡ y
samples-equal x y a b c d =
    let made : List ℕ → ℤ → ℕ → ℤ → SampleValue = λ label num den value. record { label = label; instant = record { num = num; den = den }; value = value } in
    ap (λ z. made z (x.instant).num (x.instant).den x.value) a ∙ ap (λ z. made y.label z (x.instant).den x.value) b
    ∙ ap (λ z. made y.label (y.instant).num z x.value) c ∙ ap (λ z. made y.label (y.instant).num (y.instant).den z) d

pub sample-there : (o e f : List ℕ) (h g k : Head) (claim : ClaimValue) → Conforms f k → SamplesAsKept o e h g claim → SamplesAsKept o f h k claim → AreAlike g.signals k.signals
    → (y : SampleValue) → IsSample e g y → IsSample f k y
sample-there o e f h g k claim d first second alike y is =
    let found = first.none_else y is in
    let x : SampleValue = found.0 in
    let moved = found.2 in
    let there = second.all_kept x found.1 in
    let z : SampleValue = there.0 in
    let own : IsSample f k z = there.1 in
    let also = there.2 in
    let label : z.label ≡ y.label = also.label ∙ sym moved.label in
    let from = at-has g.signals is.signal (is.channel).there in
    let to = at-has k.signals own.signal (own.channel).there in
    let rate : (is.signal).samples ≡ (own.signal).samples =
    as-many g.signals k.signals alike (channels_distinct k.signals ((d.header).standard).distinct) from.0 to.0 is.signal own.signal y.label from.1 to.1
    ((is.channel).labelled).0 (((own.channel).labelled).0 ∙ label) ((is.channel).labelled).1 in
    let den : (z.instant).den ≡ (y.instant).den = own.count ∙ sym rate ∙ sym is.count in
    let many = is.in_lane in
    let few = own.in_lane in
    let some = ((found.1).sample).in_lane in
    let middle : Instant = later (shift_ps claim) x.instant in
    let same : IsSame z.instant y.instant = same_through z.instant middle y.instant (omega (arith, few)) (omega (arith, some)) (omega (arith, many)) (same_back middle z.instant also.instant) moved.instant in
    subst (λ s. IsSample f k s) (samples-equal z y label (num-same z.instant y.instant (omega (arith, few)) den same) den (also.value ∙ sym moved.value)) own
