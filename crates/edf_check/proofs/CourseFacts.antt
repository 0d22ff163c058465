-- Where two courses agree they don't differ, and their first mismatch is one.
use Rattle.std.proofs.Common.{◌≡◌, ℕ, ◌<◌, ℤ, List, refl, sym, ap, ◌∙◌, subst}
use Rattle.edf_stream.specs.declared.times.instant.Instant.{Instant}
use Rattle.edf_stream.specs.times.Instants.{IsSame}
use Rattle.edf_verdict.specs.declared.verdict.SampleMismatch.{SampleMismatch}
use Rattle.edf_verdict.specs.declared.verdict.SampleMismatch.TheVariants.{Missing, Extra, Value}
use Rattle.edf_check.specs.Courses.{Course, Agree, DifferAt, IsFirstMismatch}
use Rattle.edf_samples.proofs.ForCallers.{same_back, by_before, both_same, floor-same}
use Rattle.edf_heads.proofs.ForCallers.{one-label}

-- what a course has at an instant it has at the same instant, and that is one value
pub record IsCourse (K : Course) : Type 0 where
  pub moves : (l : List ℕ) (t u : Instant) (v : ℤ) → 0 < t.den → 0 < u.den → IsSame t u → K l t v → K l u v
  pub one : (l : List ℕ) (t : Instant) (v w : ℤ) → 0 < t.den → K l t v → K l t w → v ≡ w

pub agree-self : (K : Course) → Agree K K
agree-self K l t v p = (λ h. h, λ h. h)

pub agree-back : (K L : Course) → Agree K L → Agree L K
agree-back K L a l t v p = ((a l t v p).1, (a l t v p).0)

-- courses in place of others with which they agree
pub agree-alike : (K L E F : Course) → Agree K L → Agree E F → Agree K E → Agree L F
agree-alike K L E F a b c l t v p = (λ h. (b l t v p).0 ((c l t v p).0 ((a l t v p).1 h)), λ h. (a l t v p).0 ((c l t v p).1 ((b l t v p).1 h)))

pub differ-alike : (K L E F : Course) → Agree K L → Agree E F → (l : List ℕ) (t : Instant) (m : SampleMismatch) → 0 < t.den → DifferAt K E l t m → DifferAt L F l t m
differ-alike K L E F a b l t Missing p d = ((d.0.0, (a l t d.0.0 p).0 d.0.1), λ w h. d.1 w ((b l t w p).1 h))
differ-alike K L E F a b l t Extra p d = ((d.0.0, (b l t d.0.0 p).0 d.0.1), λ w h. d.1 w ((a l t w p).1 h))
differ-alike K L E F a b l t (Value v w) p d = ((a l t v p).0 d.0, (b l t w p).0 d.1, d.2)

pub first-alike : (K L E F : Course) → Agree K L → Agree E F → (l : List ℕ) (ps : ℤ) (m : SampleMismatch) → IsFirstMismatch K E l ps m → IsFirstMismatch L F l ps m
first-alike K L E F a b l ps m f = record {
  at = f.at;
  positive = f.positive;
  floor = f.floor;
  differ = differ-alike K L E F a b l f.at m f.positive f.differ;
  none_before = λ other t k p d. f.none_before other t k p (differ-alike L K F E (agree-back K L a) (agree-back E F b) other t k p d);
  none_below = λ other t k p d. f.none_below other t k p (differ-alike L K F E (agree-back K L a) (agree-back E F b) other t k p d);
}

-- where they agree they don't differ
pub agree-apart : (K E : Course) → IsCourse E → Agree K E → (l : List ℕ) (t : Instant) (m : SampleMismatch) → 0 < t.den → DifferAt K E l t m → ⊥
agree-apart K E e a l t Missing p d = d.1 d.0.0 ((a l t d.0.0 p).0 d.0.1)
agree-apart K E e a l t Extra p d = d.1 d.0.0 ((a l t d.0.0 p).1 d.0.1)
agree-apart K E e a l t (Value v w) p d = d.2 (e.one l t v w p ((a l t v p).0 d.0) d.1)

pub first-apart : (K E : Course) (l : List ℕ) (ps : ℤ) (m : SampleMismatch) → IsCourse E → Agree K E → IsFirstMismatch K E l ps m → ⊥
first-apart K E l ps m e a f = agree-apart K E e a l f.at m f.positive f.differ

differ-moved : (K E : Course) → IsCourse K → IsCourse E → (l : List ℕ) (t u : Instant) (m : SampleMismatch) → 0 < t.den → 0 < u.den → IsSame t u → DifferAt K E l t m → DifferAt K E l u m
differ-moved K E k e l t u Missing pt pu s d = ((d.0.0, k.moves l t u d.0.0 pt pu s d.0.1), λ w h. d.1 w (e.moves l u t w pu pt (same_back t u s) h))
differ-moved K E k e l t u Extra pt pu s d = ((d.0.0, e.moves l t u d.0.0 pt pu s d.0.1), λ w h. d.1 w (k.moves l u t w pu pt (same_back t u s) h))
differ-moved K E k e l t u (Value v w) pt pu s d = (k.moves l t u v pt pu s d.0, e.moves l t u w pt pu s d.1, d.2)

-- they differ in one way at most at an instant of a channel
one-mismatch : (K E : Course) → IsCourse K → IsCourse E → (l : List ℕ) (t : Instant) (m n : SampleMismatch) → 0 < t.den → DifferAt K E l t m → DifferAt K E l t n → m ≡ n
one-mismatch K E k e l t Missing Missing p d f = refl
one-mismatch K E k e l t Missing Extra p d f = absurd (d.1 f.0.0 f.0.1)
one-mismatch K E k e l t Missing (Value v w) p d f = absurd (d.1 w f.1)
one-mismatch K E k e l t Extra Missing p d f = absurd (f.1 d.0.0 d.0.1)
one-mismatch K E k e l t Extra Extra p d f = refl
one-mismatch K E k e l t Extra (Value v w) p d f = absurd (d.1 v f.0)
one-mismatch K E k e l t (Value a b) Missing p d f = absurd (f.1 b d.1)
one-mismatch K E k e l t (Value a b) Extra p d f = absurd (f.1 a d.0)
one-mismatch K E k e l t (Value a b) (Value v w) p d f = ap (λ x. Value x b) (k.one l t a v p d.0 f.0) ∙ ap (λ x. Value v x) (e.one l t b w p d.1 f.1)

-- the first mismatch is one
pub one-first : (K E : Course) → IsCourse K → IsCourse E → (l other : List ℕ) (ps qs : ℤ) (m n : SampleMismatch) → IsFirstMismatch K E l ps m → IsFirstMismatch K E other qs n → (l ≡ other) × (ps ≡ qs) × (m ≡ n)
one-first K E k e l other ps qs m n f g =
    let s : IsSame f.at g.at =
    by_before f.at g.at
    (λ b. absurd (g.none_before l f.at m f.positive f.differ b))
    (λ c. by_before g.at f.at
    (λ b. absurd (f.none_before other g.at n g.positive g.differ b))
    (λ d. both_same f.at g.at c d)) in
    let le : l ≡ other =
    one-label l other (f.none_below other g.at n g.positive g.differ (same_back f.at g.at s)) (g.none_below l f.at m f.positive f.differ s) in (
      le,
      f.floor ∙ (floor-same f.at g.at f.positive g.positive s ∙ sym g.floor),
      one-mismatch K E k e other g.at m n g.positive (differ-moved K E k e other f.at g.at m f.positive g.positive s (subst (λ z. DifferAt K E z f.at m) le f.differ)) g.differ,
    )
