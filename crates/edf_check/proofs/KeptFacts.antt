-- What a claim keeps, and what an export holds, are courses.
use Rattle.std.proofs.Common.{◌≡◌, IsTrue, ℕ, ◌<◌, ◌+◌, ◌*◌, ℤ, pos, ◌+ℤ◌, ◌*ℤ◌, List, refl, sym, ap, ◌∙◌, arith}
use Rattle.std.proofs.lemmas.Int.{ints}
use borrow.Author.Differences.{up, down}
use Rattle.edf_claim.specs.ClaimValues.{ClaimValue}
use Rattle.edf_claim.specs.Keeps.{keeps_instant}
use Rattle.edf_claim.specs.KeepsReading.{KeepsInstant}
use Rattle.edf_claim.proofs.ForCallers.{instant_kept}
use Rattle.edf_header.specs.HeadsReading.{head_of}
use Rattle.edf_stream.specs.declared.times.instant.Instant.{Instant}
use Rattle.edf_stream.specs.Conforming.{Conforms}
use Rattle.edf_stream.specs.times.Instants.{IsSame}
use Rattle.edf_stream.specs.times.InstantOrder.{IsNotBefore}
use Rattle.edf_stream.specs.samples.Samples.{SampleValue, IsSample}
use Rattle.edf_stream.proofs.ForCallers.{one_at_an_instant}
use Rattle.edf_samples.specs.InstantOrder.{IsBefore}
use Rattle.edf_samples.specs.Instants.{later}
use Rattle.edf_pace.specs.Kept.{shift_ps}
use Rattle.edf_check.specs.KeptReading.{origin_of, ValueAt, KeptAt, ExportedAt}
use Rattle.edf_check.proofs.CourseFacts.{IsCourse}
use Rattle.edf_samples.proofs.ForCallers.{same_through, same_back, same_below, same_before, from_below}

pub positive : (file : List ℕ) (x : SampleValue) → IsSample file (head_of file) x → 0 < (x.instant).den
positive file x s = omega (arith, s.in_lane)

one-value : (file : List ℕ) → Conforms file (head_of file) → (l : List ℕ) (at : Instant) (v w : ℤ) → 0 < at.den → ValueAt file l at v → ValueAt file l at w → v ≡ w
one-value file c l at v w p (x, s, xl, xt, xv) (y, t, yl, yt, yv) =
    let same = same_through x.instant at y.instant (positive file x s) p (positive file y t) xt (same_back y.instant at yt) in
    sym xv ∙ ap (λ (z : SampleValue). z.value) (one_at_an_instant file (head_of file) c x y s t (xl ∙ sym yl) same) ∙ yv

value-moves : (file : List ℕ) (l : List ℕ) (t u : Instant) (v : ℤ) → 0 < t.den → 0 < u.den → IsSame t u → ValueAt file l t v → ValueAt file l u v
value-moves file l t u v pt pu e (x, s, xl, xt, xv) = (x, s, xl, same_through x.instant t u (positive file x s) pt pu xt e, xv)

-- a number of picoseconds later the same instants are the same
sums : (a b z w d : ℤ) (n m : ℕ) → z ≡ a +ℤ (pos n *ℤ d) → w ≡ b +ℤ (pos m *ℤ d) → a *ℤ pos m ≡ b *ℤ pos n → z *ℤ pos m ≡ w *ℤ pos n
sums a b z w d n m ez ew e =
    let p : (up z + down a + n * down d) * m ≡ (down z + up a + n * up d) * m = ap (λ k. k * m) (omega (arith, ints)) in
    let q : (up w + down b + m * down d) * n ≡ (down w + up b + m * up d) * n = ap (λ k. k * n) (omega (arith, ints)) in
    omega (arith, ints)

pub later-same : (ps : ℤ) (t u : Instant) → IsSame t u → IsSame (later ps t) (later ps u)
later-same ps t u s = sums t.num u.num (t.num +ℤ (pos t.den *ℤ ps)) (u.num +ℤ (pos u.den *ℤ ps)) ps t.den u.den refl refl s

in-same : (claim : ClaimValue) (t u : Instant) → 0 < t.den → 0 < u.den → IsSame t u → KeepsInstant claim t.num t.den → KeepsInstant claim u.num u.den
in-same claim t u pt pu s (interval, there, within) =
    let from : Instant = record { num = interval.from_ps; den = 1 } in
    let to : Instant = record { num = interval.to_ps; den = 1 } in
    let a = within.0 in
    let b = within.1 in
    let low : IsNotBefore u from = from_below u t from pt (same_below t u s) (omega (arith, ints, a)) in
    let high : IsBefore u to = same_before u t to pu (same_back t u s) (omega (arith, ints, b)) in
    (interval, there, (omega (arith, ints, low), omega (arith, ints, high)))

pub keeps-same : (claim : ClaimValue) (t u : Instant) → 0 < t.den → 0 < u.den → IsSame t u → IsTrue (keeps_instant claim t.num t.den) → IsTrue (keeps_instant claim u.num u.den)
keeps-same claim t u pt pu s h =
    (instant_kept claim u.num u.den (keeps_instant claim u.num u.den) refl).1
    (in-same claim t u pt pu s ((instant_kept claim t.num t.den (keeps_instant claim t.num t.den) refl).0 h))

pub kept-course : (o : List ℕ) (claim : ClaimValue) → Conforms o (head_of o) → IsCourse (KeptAt o claim)
kept-course o claim c = record {
  moves = λ l t u v pt pu s h.
      let ps = origin_of o in
      (h.0, keeps-same claim t u pt pu s h.1, value-moves o l (later ps t) (later ps u) v pt pu (later-same ps t u s) h.2);
  one = λ l t v w p g h. one-value o c l (later (origin_of o) t) v w p g.2 h.2;
}

pub exported-course : (o e : List ℕ) (claim : ClaimValue) → Conforms e (head_of e) → IsCourse (ExportedAt o e claim)
exported-course o e claim c = record {
  moves = λ l t u v pt pu s h.
      let ps = origin_of o +ℤ shift_ps claim in
      value-moves e l (later ps t) (later ps u) v pt pu (later-same ps t u s) h;
  one = λ l t v w p g h. one-value e c l (later (origin_of o +ℤ shift_ps claim) t) v w p g h;
}
