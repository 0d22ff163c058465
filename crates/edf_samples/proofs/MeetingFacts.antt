-- Stretches whose samples are as many and stand at the same instants meet in the same way.
use Rattle.std.proofs.Common.{◌≡◌, ◌∙◌, ◌*◌, ◌≤◌, ℕ, ℤ, Bool, ◌&&◌, pos, ◌+ℤ◌, ◌*ℤ◌, ◌<ℤ◌, List, map, sym, ap, subst}
use Rattle.std.specs.Ordering.{int_eq}
use Rattle.edf_verdict.specs.declared.verdict.SampleMismatch.{SampleMismatch}
use Rattle.edf_verdict.specs.declared.verdict.SampleMismatch.TheVariants.{Missing, Extra}
use Rattle.edf_samples.specs.declared.counts.meeting.Meeting.{Meeting}
use Rattle.edf_samples.specs.declared.counts.meeting.Meeting.TheVariants.{Each, AtStrides, Unknown}
use Rattle.edf_samples.specs.declared.counts.meeting.WholeStrides.{WholeStrides}
use Rattle.edf_samples.specs.declared.counts.strides.Strides.{Strides}
use Rattle.edf_samples.specs.declared.difference.PointDifference.{PointDifference}
use Rattle.edf_samples.specs.declared.stretch.Stretch.{Stretch}
use Rattle.edf_samples.specs.Meetings.{AreSetAlike, AreWholeStrides, IsMeeting}
use Rattle.edf_samples.specs.Stretches.{are_on_one_grid}
use Rattle.edf_samples.specs.Strides.{AreStrides, distance}
use Rattle.edf_samples.specs.Tallies.{alone, counted}

-- the products of two fractions, of which both are given by numerators and denominators
abbrev crossed : ℤ → ℕ → ℤ → ℕ → Bool
crossed a n b m = int_eq (a *ℤ pos m) (b *ℤ pos n)

grid-alike : (x y u v : Stretch) → AreSetAlike x u → AreSetAlike y v → are_on_one_grid u v ≡ are_on_one_grid x y
grid-alike x y u v e f =
    ap (λ z. crossed z u.den v.num v.den && crossed u.step u.den v.step v.den) e.0
    ∙ ap (λ z. crossed x.num u.den v.num v.den && crossed z u.den v.step v.den) e.1
    ∙ ap (λ n. crossed x.num n v.num v.den && crossed x.step n v.step v.den) e.2
    ∙ ap (λ z. crossed x.num x.den z v.den && crossed x.step x.den v.step v.den) f.0
    ∙ ap (λ z. crossed x.num x.den y.num v.den && crossed x.step x.den z v.den) f.1
    ∙ ap (λ n. crossed x.num x.den y.num n && crossed x.step x.den y.step n) f.2

distance-alike : (x y u v : Stretch) → AreSetAlike x u → AreSetAlike y v → distance u v ≡ distance x y
distance-alike x y u v e f = ap (λ z. z *ℤ pos v.den) e.1 ∙ ap (λ n. x.step *ℤ pos n) f.2

strides-alike : (x y u v : Stretch) (s : Strides) → AreSetAlike x u → AreSetAlike y v → AreStrides x y s → AreStrides u v s
strides-alike x y u v s e f are =
    let here = distance-alike x y u v e f in
    let there = distance-alike y x v u f e in
    record {
      some_here = are.some_here;
      some_there = are.some_there;
      other_rates = are.other_rates;
      rises_here = subst (λ z. pos 0 <ℤ z) (sym e.1) are.rises_here;
      rises_there = subst (λ z. pos 0 <ℤ z) (sym f.1) are.rises_there;
      together = ap (λ z. pos s.here *ℤ z) here ∙ are.together ∙ sym (ap (λ z. pos s.there *ℤ z) there);
      apart = λ i j some less meets. are.apart i j some less (sym (ap (λ z. pos i *ℤ z) here) ∙ meets ∙ ap (λ z. pos j *ℤ z) there);
    }

-- a sample that one of two files has alone, by where the samples stand
abbrev alone-at : SampleMismatch → ℤ → ℤ → ℕ → ℕ → PointDifference
alone-at mismatch a d n k = record { at = record { num = a +ℤ pos k *ℤ d; den = n }; mismatch = mismatch }

alone-alike : (mismatch : SampleMismatch) (x u : Stretch) (ks : List ℕ) → AreSetAlike x u → counted (map (alone mismatch x) ks) ≡ counted (map (alone mismatch u) ks)
alone-alike mismatch x u ks e =
    sym
    (ap (λ z. counted (map (alone-at mismatch z u.step u.den) ks)) e.0
    ∙ ap (λ z. counted (map (alone-at mismatch x.num z u.den) ks)) e.1
    ∙ ap (λ n. counted (map (alone-at mismatch x.num x.step n) ks)) e.2)

whole-alike : (x y u v : Stretch) (w : WholeStrides) → AreSetAlike x u → AreSetAlike y v → AreWholeStrides x y w → AreWholeStrides u v w
whole-alike x y u v w e f are = record {
  start = ap (λ z. z *ℤ pos v.den) e.0 ∙ ap (λ n. x.num *ℤ pos n) f.2 ∙ are.start ∙ sym (ap (λ z. z *ℤ pos u.den) f.0 ∙ ap (λ n. y.num *ℤ pos n) e.2);
  strides = strides-alike x y u v w.strides e f are.strides;
  some = are.some;
  here = subst (λ n. 2 * ((w.strides).here * w.count) ≤ n) (sym e.3) are.here;
  there = subst (λ n. 2 * ((w.strides).there * w.count) ≤ n) (sym f.3) are.there;
  missing = are.missing ∙ alone-alike Missing x u _ e;
  extra = are.extra ∙ alone-alike Extra y v _ f;
}

pub meeting_alike : (x y u v : Stretch) (m : Meeting) → IsMeeting x y m → AreSetAlike x u → AreSetAlike y v → IsMeeting u v m
meeting_alike x y u v Each is e f = grid-alike x y u v e f ∙ is
meeting_alike x y u v (AtStrides w) is e f = whole-alike x y u v w e f is
meeting_alike x y u v Unknown is e f = tt
