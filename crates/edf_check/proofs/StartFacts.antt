-- The start of an export follows from the samples that are kept.
use Rattle.std.proofs.Common.{◌≡◌, ◌↔◌, ℕ, ℤ, pos, ◌+◌, ◌*◌, ◌<◌, ◌+ℤ◌, ◌*ℤ◌, ◌≤ℤ◌, ◌<ℤ◌, ◌^◌, List, refl, ap, arith}
use Rattle.std.proofs.lemmas.Int.{ints}
use borrow.Author.Differences.{up, down}
use Rattle.edf_claim.specs.ClaimValues.{ClaimValue}
use Rattle.edf_header.specs.Heads.{Head, day_number}
use Rattle.edf_header.specs.HeadsReading.{start_second}
use Rattle.edf_stream.specs.declared.times.instant.Instant.{Instant}
use Rattle.edf_stream.specs.times.InstantOrder.{IsNotBefore, IsSecondOf}
use Rattle.edf_stream.specs.times.Instants.{IsSame}
use Rattle.edf_stream.specs.samples.Samples.{SampleValue, IsSample}
use Rattle.edf_stream.proofs.ForCallers.{start_is_of_least, sound-of}
use Rattle.edf_samples.specs.InstantOrder.{IsBefore}
use Rattle.edf_samples.specs.Instants.{later}
use Rattle.edf_pace.specs.Kept.{shift_ps, IsKeptSample, SamplesAsKept}
use Rattle.edf_check.specs.Laws.{IsFirstKept, IsDayOf, StartFollows}
use Rattle.edf_samples.proofs.ForCallers.{same_above, same_below, same_before, from_below}

-- an instant, and a whole number of picoseconds
unfoldable pub whole-at : ℤ → Instant
whole-at ps = record { num = ps; den = 1 }

turned : (n : ℕ) (z : ℤ) → pos n *ℤ z ≡ z *ℤ pos n
turned n z = omega (arith, ints)

pub once : (z : ℤ) → z *ℤ pos 1 ≡ z
once z = omega (arith, ints)

pub reached-at : (p : Instant) (ps : ℤ) → ((pos p.den *ℤ ps) ≤ℤ p.num) ↔ IsNotBefore p (whole-at ps)
unfolding whole-at
reached-at p ps = let t = turned p.den ps in let o = once p.num in (λ le. omega (arith, ints, le, t, o), λ le. omega (arith, ints, le, t, o))

pub before-at : (p : Instant) (ps : ℤ) → (p.num <ℤ (pos p.den *ℤ ps)) ↔ IsBefore p (whole-at ps)
unfolding whole-at
before-at p ps = let t = turned p.den ps in let o = once p.num in (λ lt. omega (arith, ints, lt, t, o), λ lt. omega (arith, ints, lt, t, o))

-- the same instants have one whole second
pub same-second : (p q : Instant) (second : ℤ) → 0 < p.den → 0 < q.den → IsSame p q → IsSecondOf q second → IsSecondOf p second
same-second p q second pp pq same is =
    let low = second *ℤ pos (10 ^ 12) in
    let high = (second +ℤ pos 1) *ℤ pos (10 ^ 12) in
    record {
      reached = (reached-at p low).1 (from_below p q (whole-at low) pq (same_above p q same) ((reached-at q low).0 is.reached));
      next_is_later = (before-at p high).1 (same_before p q (whole-at high) pp same ((before-at q high).0 is.next_is_later));
    }

-- of two instants that are later by one number
unshifted-order : (a b z w d : ℤ) (n m : ℕ) → z ≡ a +ℤ (pos n *ℤ d) → w ≡ b +ℤ (pos m *ℤ d) → (z *ℤ pos m) ≤ℤ (w *ℤ pos n) → (a *ℤ pos m) ≤ℤ (b *ℤ pos n)
unshifted-order a b z w d n m ez ew le =
    let p : (up z + down a + n * down d) * m ≡ (down z + up a + n * up d) * m = ap (λ k. k * m) (omega (arith, ints)) in
    let q : (up w + down b + m * down d) * n ≡ (down w + up b + m * up d) * n = ap (λ k. k * n) (omega (arith, ints)) in
    omega (arith, ints)

unshifted : (d : ℤ) (t u : Instant) → IsNotBefore (later d t) (later d u) → IsNotBefore t u
unshifted d t u le = unshifted-order u.num t.num (u.num +ℤ (pos u.den *ℤ d)) (t.num +ℤ (pos t.den *ℤ d)) d u.den t.den refl refl le

-- the first sample of an export is the first kept one
first-kept : (o e : List ℕ) (h g : Head) (claim : ClaimValue) (x y : SampleValue) → SamplesAsKept o e h g claim → IsKeptSample o h claim x
    → IsSame (later (shift_ps claim) x.instant) y.instant → 0 < (y.instant).den → ((w : SampleValue) → IsSample e g w → IsNotBefore w.instant y.instant)
    → IsFirstKept o h claim x
first-kept o e h g claim x y samples kept same some least = record {
  kept = kept;
  least = λ z i.
      let d = shift_ps claim in
      let there = samples.all_kept z i in
      let w = there.0 in
      let few = (there.1).in_lane in
      let above = from_below (later d z.instant) w.instant y.instant (omega (arith, few)) (same_above (later d z.instant) w.instant (there.2).instant) (least w there.1) in
      let both = from_below (later d z.instant) y.instant (later d x.instant) some above (same_below (later d x.instant) y.instant same) in
      unshifted d z.instant x.instant both;
}

day-of : (n day : ℤ) (clock : ℕ) (second : ℤ) → n ≡ day → clock < 86400 → second ≡ (pos 86400 *ℤ day) +ℤ pos clock → IsDayOf n second
day-of n day clock second e lt is = (omega (arith, ints, e, lt, is), omega (arith, ints, e, lt, is))

pub start_follows : StartFollows
start_follows o e claim r =
    let h = r.original_head in
    let g = r.export_head in
    let start = start_is_of_least e g r.export_conforms in
    let y = start.0 in
    let found = (r.samples).none_else y (start.1).sample in
    let x = found.0 in
    let some = ((start.1).sample).in_lane in
    let many = ((found.1).sample).in_lane in
    let early = ((sound-of e g r.export_conforms).bounds).early in
    record {
      sample = x;
      first = first-kept o e h g claim x y r.samples found.1 (found.2).instant (omega (arith, some)) (start.1).least;
      second = same-second (later (shift_ps claim) x.instant) y.instant (start_second g) (omega (arith, many)) (omega (arith, some)) (found.2).instant (start.1).second;
      day = λ n named. day-of n (day_number g.day) g.clock (start_second g) (((r.export_conforms).header).standard.same_day n named) early refl;
    }
