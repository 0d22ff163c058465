-- Samples at even distances: those behind a place, a part of them, and how many stand before a time.
use Rattle.std.proofs.Common.{min, ◌≡◌, ℕ, zero, suc, ◌+◌, ◌-◌, ◌*◌, ◌<◌, ◌≤◌, ℤ, pos, ◌+ℤ◌, ◌-ℤ◌, ◌*ℤ◌, ◌<ℤ◌, ◌≤ℤ◌, unsigned_abs, List, [], ◌∷◌, length, slice_index, drop, take, Some, None, true, false, cond, inl, inr, refl, sym, ap, ◌∙◌, subst, arith}
use Rattle.std.specs.Ordering.{int_eq}
use Rattle.std.proofs.lemmas.Bool.Decides.{Decides-int_eq}
use Rattle.std.proofs.lemmas.Int.{ints}
use Rattle.std.proofs.lemmas.List.{get_or-take}
use Rattle.std.proofs.Math.Nat.{lt_of_mul-lt-mul_right}
use Rattle.edf_fields.proofs.ForCallers.{and-true}
use Rattle.edf_fields.specs.Lists.{Has}
use Rattle.edf_stream.specs.samples.Values.{digital, digital_value}
use Rattle.edf_stream.specs.declared.times.instant.Instant.{Instant}
use Rattle.edf_samples.specs.declared.point.Point.{Point}
use Rattle.edf_samples.specs.declared.stretch.Stretch.{Stretch}
use Rattle.edf_verdict.specs.declared.verdict.SampleMismatch.TheVariants.{Missing, Extra}
use Rattle.edf_samples.specs.Differences.{heads, first_difference_of}
use Rattle.edf_samples.proofs.DifferenceFacts.{IsAscending}
use Rattle.edf_samples.specs.InstantOrder.{is_before}
use Rattle.edf_samples.specs.Stretches.{stretch_points, points_in, points_behind, front_count, are_on_one_grid, AreAlikeBefore, whole}
use Rattle.edf_samples.proofs.FractionFacts.{true-is_before, false-is_before}

-- ---- behind a place

pub none-on : (a d : ℤ) → a +ℤ pos 0 *ℤ d ≡ a
none-on a d = omega (arith, ints)

pub one-on : (a d : ℤ) (k : ℕ) → (a +ℤ pos k *ℤ d) +ℤ d ≡ a +ℤ pos (suc k) *ℤ d
one-on a d k = omega (arith, ints)

one-first : (a d : ℤ) (k : ℕ) → (a +ℤ d) +ℤ pos k *ℤ d ≡ a +ℤ pos (suc k) *ℤ d
one-first a d k = omega (arith, ints)

two-more : (k : ℕ) → 2 * suc k ≡ suc (suc (2 * k))
two-more k = omega arith

-- the bytes from a place on: the two of a sample, and those from the next place on
drop-two : (k : ℕ) (bytes : List ℕ) → 2 * k + 1 < length bytes → drop (2 * k) bytes ≡ slice_index bytes (2 * k) ∷ slice_index bytes (2 * k + 1) ∷ drop (2 * (k + 1)) bytes
drop-two k [] lt = absurd (omega (arith, lt))
drop-two k (byte ∷ []) lt = absurd (omega (arith, lt))
drop-two zero (low ∷ high ∷ rest) lt = refl
drop-two (suc k) (low ∷ high ∷ rest) lt =
    let e : 2 * suc k ≡ suc (suc (2 * k)) = two-more k in
    let f : 2 * suc k + 1 ≡ suc (suc (2 * k + 1)) = omega arith in
    let g : 2 * (suc k + 1) ≡ suc (suc (2 * (k + 1))) = omega arith in
    rw (f, g, e) (drop-two k rest (omega (arith, lt)))

-- no sample lies in less than two bytes
drop-few : (k : ℕ) (a d : ℤ) (bytes : List ℕ) → length bytes ≤ 2 * k + 1 → stretch_points a d (drop (2 * k) bytes) ≡ []
drop-few zero a d [] le = refl
drop-few zero a d (byte ∷ []) le = refl
drop-few zero a d (low ∷ high ∷ rest) le = absurd (omega (arith, le))
drop-few (suc k) a d [] le = rw (two-more k) refl
drop-few (suc k) a d (byte ∷ []) le = rw (two-more k) refl
drop-few (suc k) a d (low ∷ high ∷ rest) le = rw (two-more k) (drop-few k a d rest (omega (arith, le)))

pub behind_step : (s : Stretch) (k : ℕ) → 2 * k + 1 < length s.bytes.now → points_behind s k ≡ record { num = s.num +ℤ pos k *ℤ s.step; value = digital_value s.bytes.now k } ∷ points_behind s (k + 1)
unfolding points_behind
behind_step s k lt =
    let e : k + 1 ≡ suc k = omega arith in
    let p : Point = record { num = s.num +ℤ pos k *ℤ s.step; value = digital_value s.bytes.now k } in
    ap (λ bytes. stretch_points (s.num +ℤ pos k *ℤ s.step) s.step bytes) (drop-two k s.bytes.now lt)
    ∙ ap (λ z. p ∷ stretch_points z s.step (drop (2 * (k + 1)) s.bytes.now)) (one-on s.num s.step k ∙ ap (λ j. s.num +ℤ pos j *ℤ s.step) (sym e))

pub behind-end : (s : Stretch) (k : ℕ) → length s.bytes.now ≤ 2 * k + 1 → points_behind s k ≡ []
unfolding points_behind
behind-end s k le = drop-few k (s.num +ℤ pos k *ℤ s.step) s.step s.bytes.now le

pub behind_zero : (s : Stretch) → points_behind s 0 ≡ points_in s
unfolding points_behind
behind_zero s = ap (λ z. stretch_points z s.step s.bytes.now) (none-on s.num s.step)

pub behind_missing : (x y : Stretch) (n m : ℕ) → 2 * n ≤ length x.bytes.now → length y.bytes.now ≤ 2 * m + 1 → m < n
    → first_difference_of x.den (points_behind x (min n m)) y.den (points_behind y (min n m)) ≡ Some (record { at = record { num = x.num +ℤ pos m *ℤ x.step; den = x.den }; mismatch = Missing })
behind_missing x y n m within all lt =
    let e : min n m ≡ m = omega arith in
    rw (e, behind_step x m (omega (arith, within, lt)), behind-end y m all) refl

pub behind_extra : (x y : Stretch) (n m : ℕ) → length x.bytes.now ≤ 2 * n + 1 → 2 * m ≤ length y.bytes.now → n < m
    → first_difference_of x.den (points_behind x (min n m)) y.den (points_behind y (min n m)) ≡ Some (record { at = record { num = y.num +ℤ pos n *ℤ y.step; den = y.den }; mismatch = Extra })
behind_extra x y n m all within lt =
    let e : min n m ≡ n = omega arith in
    rw (e, behind-end x n all, behind_step y n (omega (arith, within, lt))) refl

pub behind_none : (x y : Stretch) (n m : ℕ) → length x.bytes.now ≤ 2 * n + 1 → length y.bytes.now ≤ 2 * m + 1 → n ≤ m → m ≤ n
    → first_difference_of x.den (points_behind x (min n m)) y.den (points_behind y (min n m)) ≡ None
behind_none x y n m here there le ge =
    let e : min n m ≡ n = omega arith in
    let f : m ≡ n = omega arith in
    let g : length y.bytes.now ≤ 2 * n + 1 = omega (arith, there, f) in
    rw (e, behind-end x n here, behind-end y n g) refl

-- ---- bytes that are the same

-- samples of one value at one instant don't differ
pub alike-heads : (n m : ℕ) (a b v : ℤ) → a *ℤ pos m ≡ b *ℤ pos n → heads n (record { num = a; value = v }) m (record { num = b; value = v }) ≡ None
alike-heads n m a b v s =
    let e : is_before (record { num = a; den = n }) (record { num = b; den = m }) ≡ false = false-is_before (record { num = a; den = n }) (record { num = b; den = m }) (omega (arith, ints)) in
    let f : is_before (record { num = b; den = m }) (record { num = a; den = n }) ≡ false = false-is_before (record { num = b; den = m }) (record { num = a; den = n }) (omega (arith, ints)) in
    let g : int_eq v v ≡ true = (Decides-int_eq v v).1 refl in
    rw (e, f, g) refl

pub sum-scaled : (m : ℕ) (a d z : ℤ) → z ≡ a +ℤ d → z *ℤ pos m ≡ (a *ℤ pos m) +ℤ (d *ℤ pos m)
sum-scaled zero a d z e = omega (arith, ints)
sum-scaled (suc m) a d z e = let r : z *ℤ pos m ≡ (a *ℤ pos m) +ℤ (d *ℤ pos m) = sum-scaled m a d z e in omega (arith, ints)

-- the next samples stand at the same instant, too
pub next-instant : (n m : ℕ) (a b d e : ℤ) → a *ℤ pos m ≡ b *ℤ pos n → d *ℤ pos m ≡ e *ℤ pos n → (a +ℤ d) *ℤ pos m ≡ (b +ℤ e) *ℤ pos n
next-instant n m a b d e s t = sum-scaled m a d (a +ℤ d) refl ∙ ap (λ z. z +ℤ (d *ℤ pos m)) s ∙ ap (λ z. (b *ℤ pos n) +ℤ z) t ∙ sym (sum-scaled n b e (b +ℤ e) refl)

-- the same bytes at the same instants are passed over
alike-front : (k n m : ℕ) (a b d e : ℤ) (xs ys : List ℕ) → a *ℤ pos m ≡ b *ℤ pos n → d *ℤ pos m ≡ e *ℤ pos n → 2 * k ≤ length xs → 2 * k ≤ length ys → AreAlikeBefore (2 * k) xs ys
    → first_difference_of n (stretch_points (a +ℤ pos k *ℤ d) d (drop (2 * k) xs)) m (stretch_points (b +ℤ pos k *ℤ e) e (drop (2 * k) ys))
    ≡ first_difference_of n (stretch_points a d xs) m (stretch_points b e ys)
alike-front zero n m a b d e xs ys s t lx ly alike =
    ap (λ z. first_difference_of n (stretch_points z d xs) m (stretch_points (b +ℤ pos 0 *ℤ e) e ys)) (none-on a d)
    ∙ ap (λ z. first_difference_of n (stretch_points a d xs) m (stretch_points z e ys)) (none-on b e)
alike-front (suc k) n m a b d e [] ys s t lx ly alike = absurd (omega (arith, lx))
alike-front (suc k) n m a b d e (x ∷ []) ys s t lx ly alike = absurd (omega (arith, lx))
alike-front (suc k) n m a b d e (x ∷ x' ∷ xs) [] s t lx ly alike = absurd (omega (arith, ly))
alike-front (suc k) n m a b d e (x ∷ x' ∷ xs) (y ∷ []) s t lx ly alike = absurd (omega (arith, ly))
alike-front (suc k) n m a b d e (x ∷ x' ∷ xs) (y ∷ y' ∷ ys) s t lx ly alike =
    let two : 2 * suc k ≡ suc (suc (2 * k)) = two-more k in
    let low : x ≡ y = alike 0 (omega (arith, two)) in
    let high : x' ≡ y' = alike 1 (omega (arith, two)) in
    let rest : first_difference_of n (stretch_points ((a +ℤ d) +ℤ pos k *ℤ d) d (drop (2 * k) xs)) m (stretch_points ((b +ℤ e) +ℤ pos k *ℤ e) e (drop (2 * k) ys)) ≡ first_difference_of n (stretch_points (a +ℤ d) d xs) m (stretch_points (b +ℤ e) e ys) =
    alike-front k n m (a +ℤ d) (b +ℤ e) d e xs ys (next-instant n m a b d e s t) t (omega (arith, lx, two)) (omega (arith, ly, two)) (λ j lt. alike (suc (suc j)) (omega (arith, lt, two))) in
    rw (two, ← one-first a d k, ← one-first b e k, low, high, alike-heads n m a b (digital y y') s) rest

pub alike_behind : (x y : Stretch) (k : ℕ) → are_on_one_grid x y ≡ true → 2 * k ≤ length x.bytes.now → 2 * k ≤ length y.bytes.now → AreAlikeBefore (2 * k) x.bytes.now y.bytes.now
    → first_difference_of x.den (points_behind x k) y.den (points_behind y k) ≡ first_difference_of x.den (points_in x) y.den (points_in y)
unfolding points_behind
alike_behind x y k grid lx ly alike =
    let both = and-true (int_eq (x.num *ℤ pos y.den) (y.num *ℤ pos x.den)) (int_eq (x.step *ℤ pos y.den) (y.step *ℤ pos x.den)) grid in
    alike-front k x.den y.den x.num y.num x.step y.step x.bytes.now y.bytes.now
    ((Decides-int_eq (x.num *ℤ pos y.den) (y.num *ℤ pos x.den)).0 both.0) ((Decides-int_eq (x.step *ℤ pos y.den) (y.step *ℤ pos x.den)).0 both.1) lx ly alike

-- the first n bytes are alike as far as the lists are that they were taken from
pub alike_taken : (n p k : ℕ) (xs ys : List ℕ) → AreAlikeBefore p (take n xs) (take n ys) → 2 * k ≤ p → p ≤ n → AreAlikeBefore (2 * k) xs ys
alike_taken n p k xs ys alike le within j lt =
    let l : j < n = omega (arith, le, within, lt) in
    sym (get_or-take n xs j 0 l) ∙ alike j (omega (arith, le, lt)) ∙ get_or-take n ys j 0 l

-- ---- a part

points-drop : (k : ℕ) (a d : ℤ) (bytes : List ℕ) → stretch_points (a +ℤ pos k *ℤ d) d (drop (2 * k) bytes) ≡ drop k (stretch_points a d bytes)
points-drop zero a d bytes = ap (λ z. stretch_points z d bytes) (none-on a d)
points-drop (suc k) a d [] = rw (two-more k) refl
points-drop (suc k) a d (byte ∷ []) = rw (two-more k) refl
points-drop (suc k) a d (low ∷ high ∷ rest) =
    rw (two-more k) (ap (λ z. stretch_points z d (drop (2 * k) rest)) (sym (one-first a d k)) ∙ points-drop k (a +ℤ d) d rest)

points-take : (k : ℕ) (a d : ℤ) (bytes : List ℕ) → stretch_points a d (take (2 * k) bytes) ≡ take k (stretch_points a d bytes)
points-take zero a d bytes = refl
points-take (suc k) a d [] = rw (two-more k) refl
points-take (suc k) a d (byte ∷ []) = rw (two-more k) refl
points-take (suc k) a d (low ∷ high ∷ rest) =
    let p : Point = record { num = a; value = digital low high } in
    rw (two-more k) (ap (λ xs. p ∷ xs) (points-take k (a +ℤ d) d rest))

pub points-part : (begin end : ℕ) (a d : ℤ) (bytes : List ℕ) → stretch_points (a +ℤ pos begin *ℤ d) d (take (2 * end - 2 * begin) (drop (2 * begin) bytes)) ≡ take (end - begin) (drop begin (stretch_points a d bytes))
points-part begin end a d bytes =
    let e : 2 * end - 2 * begin ≡ 2 * (end - begin) = omega arith in
    ap (λ k. stretch_points (a +ℤ pos begin *ℤ d) d (take k (drop (2 * begin) bytes))) e
    ∙ points-take (end - begin) (a +ℤ pos begin *ℤ d) d (drop (2 * begin) bytes)
    ∙ ap (take (end - begin)) (points-drop begin a d bytes)

-- ---- the order of the samples

all-above : (a d : ℤ) (bytes : List ℕ) (least : ℤ) → pos 0 <ℤ d → least <ℤ a → (x : Point) → Has (stretch_points a d bytes) x → least <ℤ x.num
all-above a d [] least p l x h = absurd h
all-above a d (byte ∷ []) least p l x h = absurd h
all-above a d (low ∷ high ∷ rest) least p l x (inl e) = let P : Point → Type 0 = λ y. least <ℤ y.num in subst P e l
all-above a d (low ∷ high ∷ rest) least p l x (inr h) = all-above (a +ℤ d) d rest least p (omega (arith, ints)) x h

pub points-ascending : (a d : ℤ) (bytes : List ℕ) → pos 0 <ℤ d → IsAscending (stretch_points a d bytes)
points-ascending a d [] p = tt
points-ascending a d (byte ∷ []) p = tt
points-ascending a d (low ∷ high ∷ rest) p = (all-above (a +ℤ d) d rest a p (omega (arith, ints)), points-ascending (a +ℤ d) d rest p)

-- ---- how many stand before a time

pub points-length : (c : ℕ) (a d : ℤ) (bytes : List ℕ) → 2 * c ≤ length bytes → length bytes ≤ 2 * c + 1 → length (stretch_points a d bytes) ≡ c
points-length zero a d [] le ge = refl
points-length zero a d (byte ∷ []) le ge = refl
points-length zero a d (low ∷ high ∷ rest) le ge = absurd (omega (arith, ge))
points-length (suc c) a d [] le ge = absurd (omega (arith, le))
points-length (suc c) a d (byte ∷ []) le ge = absurd (omega (arith, le))
points-length (suc c) a d (low ∷ high ∷ rest) le ge = ap suc (points-length c (a +ℤ d) d rest (omega (arith, le)) (omega (arith, ge)))

-- how many there are depends on how many bytes there are alone
pub front-alike : (n : ℕ) (a d : ℤ) (t : Instant) (xs ys : List ℕ) → length xs ≡ length ys → front_count n (stretch_points a d xs) t ≡ front_count n (stretch_points a d ys) t
front-alike n a d t [] [] e = refl
front-alike n a d t [] (y ∷ ys) e = absurd (omega (arith, e))
front-alike n a d t (x ∷ xs) [] e = absurd (omega (arith, e))
front-alike n a d t (x ∷ []) (y ∷ []) e = refl
front-alike n a d t (x ∷ []) (y ∷ y' ∷ ys) e = absurd (omega (arith, e))
front-alike n a d t (x ∷ x' ∷ xs) (y ∷ []) e = absurd (omega (arith, e))
front-alike n a d t (x ∷ x' ∷ xs) (y ∷ y' ∷ ys) e =
    ap (λ k. cond (is_before (record { num = a; den = n }) t) (suc k) 0) (front-alike n (a +ℤ d) d t xs ys (omega (arith, e)))

-- where the steps up to a place, and no further, stay below a time
steps-count : (q n s : ℕ) (a t : ℤ) (bytes : List ℕ) → (0 < q → (a +ℤ pos ((q - 1) * s)) <ℤ (t *ℤ pos n)) → (t *ℤ pos n) ≤ℤ (a +ℤ pos (q * s))
    → front_count n (stretch_points a (pos s) bytes) (whole t) ≡ min q (length (stretch_points a (pos s) bytes))
steps-count q n s a t [] low high = omega arith
steps-count q n s a t (byte ∷ []) low high = omega arith
steps-count zero n s a t (x ∷ y ∷ rest) low high =
    let e : is_before (record { num = a; den = n }) (whole t) ≡ false = false-is_before (record { num = a; den = n }) (whole t) (omega (arith, ints)) in
    rw e (omega arith)
steps-count (suc q) n s a t (x ∷ y ∷ rest) low high =
    let first : (a +ℤ pos (q * s)) <ℤ (t *ℤ pos n) = (let z : suc q - 1 ≡ q = omega arith in let P : ℕ → Type 0 = λ k. (a +ℤ pos (k * s)) <ℤ (t *ℤ pos n) in subst P z (low (omega arith))) in
    let e : is_before (record { num = a; den = n }) (whole t) ≡ true = true-is_before (record { num = a; den = n }) (whole t) (omega (arith, ints)) in
    let more : suc q * s ≡ s + q * s = omega arith in
    let r : front_count n (stretch_points (a +ℤ pos s) (pos s) rest) (whole t) ≡ min q (length (stretch_points (a +ℤ pos s) (pos s) rest)) =
    steps-count q n s (a +ℤ pos s) t rest
    (λ p. let f : s + (q - 1) * s ≡ q * s = (let g : suc (q - 1) ≡ q = omega arith in let h : suc (q - 1) * s ≡ s + (q - 1) * s = omega arith in sym h ∙ ap (λ k. k * s) g) in omega (arith, ints))
    (omega (arith, ints)) in
    rw e (omega (arith, r))

-- where all the steps stay below a time
all-count : (n s : ℕ) (a t : ℤ) (bytes : List ℕ) → 0 < s → (a +ℤ pos (length (stretch_points a (pos s) bytes) * s)) ≤ℤ (t *ℤ pos n)
    → front_count n (stretch_points a (pos s) bytes) (whole t) ≡ length (stretch_points a (pos s) bytes)
all-count n s a t [] p le = refl
all-count n s a t (byte ∷ []) p le = refl
all-count n s a t (x ∷ y ∷ rest) p le =
    let k = length (stretch_points (a +ℤ pos s) (pos s) rest) in
    let more : suc k * s ≡ s + k * s = omega arith in
    let e : is_before (record { num = a; den = n }) (whole t) ≡ true = true-is_before (record { num = a; den = n }) (whole t) (omega (arith, ints)) in
    rw e (ap suc (all-count n s (a +ℤ pos s) t rest p (omega (arith, ints))))

pub step_is : (d : ℤ) → pos 0 <ℤ d → d ≡ pos (unsigned_abs d)
step_is d p = omega (arith, ints)

pub count-all : (n c : ℕ) (a d t gap : ℤ) (bytes : List ℕ) → pos 0 <ℤ d → gap ≡ t *ℤ pos n -ℤ a → (pos c *ℤ d) ≤ℤ gap → 2 * c ≤ length bytes → length bytes ≤ 2 * c + 1
    → front_count n (stretch_points a d bytes) (whole t) ≡ c
count-all n c a d t gap bytes p e l within all =
    let s = unsigned_abs d in
    let f : d ≡ pos s = step_is d p in
    let size : length (stretch_points a (pos s) bytes) ≡ c = points-length c a (pos s) bytes within all in
    let product : pos c *ℤ pos s ≡ pos (c * s) = omega (arith, ints) in
    let reach : pos (c * s) ≤ℤ gap = (let P : ℤ → Type 0 = λ z. (pos c *ℤ z) ≤ℤ gap in let Q : ℤ → Type 0 = λ z. z ≤ℤ gap in subst Q product (subst P f l)) in
    let P : ℕ → Type 0 = λ k. (a +ℤ pos (k * s)) ≤ℤ (t *ℤ pos n) in
    ap (λ z. front_count n (stretch_points a z bytes) (whole t)) f
    ∙ all-count n s a t bytes (omega (arith, ints)) (subst P (sym size) (omega (arith, ints))) ∙ size

pub count-some : (n c q : ℕ) (a d t gap : ℤ) (bytes : List ℕ) → pos 0 <ℤ d → gap ≡ t *ℤ pos n -ℤ a → pos 0 <ℤ gap → q ≤ c
    → (0 < q) × ((q - 1) * unsigned_abs d < unsigned_abs gap) → unsigned_abs gap ≤ q * unsigned_abs d → 2 * c ≤ length bytes → length bytes ≤ 2 * c + 1
    → front_count n (stretch_points a d bytes) (whole t) ≡ q
count-some n c q a d t gap bytes p e g le low high within all =
    let s = unsigned_abs d in
    let l = low.1 in
    let k : gap ≡ pos (unsigned_abs gap) = omega (arith, ints) in
    let size : length (stretch_points a (pos s) bytes) ≡ c = points-length c a (pos s) bytes within all in
    ap (λ z. front_count n (stretch_points a z bytes) (whole t)) (step_is d p)
    ∙ steps-count q n s a t bytes (λ r. omega (arith, ints)) (omega (arith, ints)) ∙ ap (min q) size ∙ omega (arith, le)

-- where the steps to the last place reach a gap, no more of them stay below it than there are places
pub steps-within : (c q : ℕ) (d gap : ℤ) → pos 0 <ℤ d → pos 0 <ℤ gap → (0 < q) × ((q - 1) * unsigned_abs d < unsigned_abs gap) → gap <ℤ (pos c *ℤ d) → q ≤ c
steps-within c q d gap p g low reach =
    let s = unsigned_abs d in
    let l = low.1 in
    let first = low.0 in
    let product : pos c *ℤ pos s ≡ pos (c * s) = omega (arith, ints) in
    let far : gap <ℤ pos (c * s) = (let P : ℤ → Type 0 = λ z. gap <ℤ (pos c *ℤ z) in let Q : ℤ → Type 0 = λ z. gap <ℤ z in subst Q product (subst P (step_is d p) reach)) in
    let h : (q - 1) * s < c * s = omega (arith, ints) in
    let k : q - 1 < c = lt_of_mul-lt-mul_right s h in
    omega (arith, first, k)
