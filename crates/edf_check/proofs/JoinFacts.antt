-- Two courses that are cut at an instant: they agree where both their fronts and their backs do, and their first mismatch is that of
-- the fronts, or else that of the backs.
use Rattle.std.proofs.Common.{ℕ, ◌<◌, ℤ, List, ⊎_elim, ◌⊎◌}
use Rattle.edf_stream.specs.declared.times.instant.Instant.{Instant}
use Rattle.edf_stream.specs.times.InstantOrder.{IsNotBefore}
use Rattle.edf_verdict.specs.declared.verdict.SampleMismatch.{SampleMismatch}
use Rattle.edf_verdict.specs.declared.verdict.SampleMismatch.TheVariants.{Missing, Extra, Value}
use Rattle.edf_check.specs.Courses.{Course, Agree, DifferAt, IsFirstMismatch}
use Rattle.edf_samples.specs.InstantOrder.{IsBefore}
use Rattle.edf_check.proofs.CourseFacts.{IsCourse, agree-apart}
use Rattle.edf_samples.proofs.ForCallers.{by_before, before_not, before-not_before, same_before, before_below}

-- the first of three courses is made of the other two: what stands in it before the instant u, and what stands from there on
pub record IsCutAt (u : Instant) (whole first second : Course) : Type 0 where
  pub front : (label : List ℕ) (at : Instant) (value : ℤ) → 0 < at.den → first label at value → whole label at value × IsBefore at u
  pub back : (label : List ℕ) (at : Instant) (value : ℤ) → 0 < at.den → second label at value → whole label at value × IsNotBefore at u
  pub each : (label : List ℕ) (at : Instant) (value : ℤ) → 0 < at.den → whole label at value → first label at value ⊎ second label at value

-- what stands before the cut is in the front, and what doesn't in the back
pub front-of : (u : Instant) (K A B : Course) → IsCutAt u K A B → (l : List ℕ) (t : Instant) (v : ℤ) → 0 < t.den → IsBefore t u → K l t v → A l t v
front-of u K A B c l t v p b h = ⊎_elim (λ a. a) (λ d. absurd (before_not t u b (c.back l t v p d).1)) (c.each l t v p h)

pub back-of : (u : Instant) (K A B : Course) → IsCutAt u K A B → (l : List ℕ) (t : Instant) (v : ℤ) → 0 < t.den → IsNotBefore t u → K l t v → B l t v
back-of u K A B c l t v p b h = ⊎_elim (λ a. absurd (before_not t u (c.front l t v p a).1 b)) (λ d. d) (c.each l t v p h)

-- differences in the fronts
pub differ-front : (u : Instant) (K A B E F G : Course) → IsCutAt u K A B → IsCutAt u E F G → (l : List ℕ) (t : Instant) (m : SampleMismatch) → 0 < t.den → DifferAt A F l t m → DifferAt K E l t m × IsBefore t u
differ-front u K A B E F G c d l t Missing p h =
    let a = c.front l t h.0.0 p h.0.1 in
    (((h.0.0, a.0), λ w e. h.1 w (front-of u E F G d l t w p a.1 e)), a.1)
differ-front u K A B E F G c d l t Extra p h =
    let a = d.front l t h.0.0 p h.0.1 in
    (((h.0.0, a.0), λ v k. h.1 v (front-of u K A B c l t v p a.1 k)), a.1)
differ-front u K A B E F G c d l t (Value v w) p h =
    let a = c.front l t v p h.0 in
    ((a.0, (d.front l t w p h.1).0, h.2), a.1)

pub front-differ : (u : Instant) (K A B E F G : Course) → IsCutAt u K A B → IsCutAt u E F G → (l : List ℕ) (t : Instant) (m : SampleMismatch) → 0 < t.den → IsBefore t u → DifferAt K E l t m → DifferAt A F l t m
front-differ u K A B E F G c d l t Missing p b h = ((h.0.0, front-of u K A B c l t h.0.0 p b h.0.1), λ w f. h.1 w (d.front l t w p f).0)
front-differ u K A B E F G c d l t Extra p b h = ((h.0.0, front-of u E F G d l t h.0.0 p b h.0.1), λ v a. h.1 v (c.front l t v p a).0)
front-differ u K A B E F G c d l t (Value v w) p b h = (front-of u K A B c l t v p b h.0, front-of u E F G d l t w p b h.1, h.2)

-- differences in the backs
pub differ-back : (u : Instant) (K A B E F G : Course) → IsCutAt u K A B → IsCutAt u E F G → (l : List ℕ) (t : Instant) (m : SampleMismatch) → 0 < t.den → DifferAt B G l t m → DifferAt K E l t m × IsNotBefore t u
differ-back u K A B E F G c d l t Missing p h =
    let a = c.back l t h.0.0 p h.0.1 in
    (((h.0.0, a.0), λ w e. h.1 w (back-of u E F G d l t w p a.1 e)), a.1)
differ-back u K A B E F G c d l t Extra p h =
    let a = d.back l t h.0.0 p h.0.1 in
    (((h.0.0, a.0), λ v k. h.1 v (back-of u K A B c l t v p a.1 k)), a.1)
differ-back u K A B E F G c d l t (Value v w) p h =
    let a = c.back l t v p h.0 in
    ((a.0, (d.back l t w p h.1).0, h.2), a.1)

pub back-differ : (u : Instant) (K A B E F G : Course) → IsCutAt u K A B → IsCutAt u E F G → (l : List ℕ) (t : Instant) (m : SampleMismatch) → 0 < t.den → IsNotBefore t u → DifferAt K E l t m → DifferAt B G l t m
back-differ u K A B E F G c d l t Missing p b h = ((h.0.0, back-of u K A B c l t h.0.0 p b h.0.1), λ w f. h.1 w (d.back l t w p f).0)
back-differ u K A B E F G c d l t Extra p b h = ((h.0.0, back-of u E F G d l t h.0.0 p b h.0.1), λ v a. h.1 v (c.back l t v p a).0)
back-differ u K A B E F G c d l t (Value v w) p b h = (back-of u K A B c l t v p b h.0, back-of u E F G d l t w p b h.1, h.2)

-- both sides agree
pub join-agree : (u : Instant) (K A B E F G : Course) → IsCutAt u K A B → IsCutAt u E F G → Agree A F → Agree B G → Agree K E
join-agree u K A B E F G c d x y l t v p = (
  λ h. ⊎_elim (λ a. (d.front l t v p ((x l t v p).0 a)).0) (λ b. (d.back l t v p ((y l t v p).0 b)).0) (c.each l t v p h),
  λ h. ⊎_elim (λ f. (c.front l t v p ((x l t v p).1 f)).0) (λ g. (c.back l t v p ((y l t v p).1 g)).0) (d.each l t v p h),
)

-- the fronts differ
pub join-first : (u : Instant) (K A B E F G : Course) → 0 < u.den → IsCutAt u K A B → IsCutAt u E F G → (l : List ℕ) (ps : ℤ) (m : SampleMismatch) → IsFirstMismatch A F l ps m → IsFirstMismatch K E l ps m
join-first u K A B E F G pu c d l ps m f =
    let here = differ-front u K A B E F G c d l f.at m f.positive f.differ in
    record {
      at = f.at;
      positive = f.positive;
      floor = f.floor;
      differ = here.0;
      none_before = λ other t k p h b. f.none_before other t k p (front-differ u K A B E F G c d other t k p (before-not_before t f.at u pu b (before_below f.at u here.1)) h) b;
      none_below = λ other t k p h s. f.none_below other t k p (front-differ u K A B E F G c d other t k p (same_before t f.at u p s here.1) h) s;
    }

-- the fronts agree, and the backs differ
pub join-later : (u : Instant) (K A B E F G : Course) → 0 < u.den → IsCutAt u K A B → IsCutAt u E F G → IsCourse F → Agree A F → (l : List ℕ) (ps : ℤ) (m : SampleMismatch) → IsFirstMismatch B G l ps m → IsFirstMismatch K E l ps m
join-later u K A B E F G pu c d one agree l ps m f =
    let here = differ-back u K A B E F G c d l f.at m f.positive f.differ in
    let late : (other : List ℕ) (t : Instant) (k : SampleMismatch) → 0 < t.den → DifferAt K E other t k → DifferAt B G other t k =
    λ other t k p h. by_before t u
    (λ b. absurd (agree-apart A F one agree other t k p (front-differ u K A B E F G c d other t k p b h)))
    (λ b. back-differ u K A B E F G c d other t k p b h) in
    record {
      at = f.at;
      positive = f.positive;
      floor = f.floor;
      differ = here.0;
      none_before = λ other t k p h b. f.none_before other t k p (late other t k p h) b;
      none_below = λ other t k p h s. f.none_below other t k p (late other t k p h) s;
    }
