-- The differences at the front of two stretches, sample by sample, and of those whose samples stand at the same instants.
use Rattle.std.proofs.Common.{◌≡◌, ℕ, zero, suc, ◌+◌, ◌-◌, ◌*◌, ◌^◌, ◌<◌, ◌≤◌, min, Bool, true, false, cond, not, ℤ, pos, ◌+ℤ◌, ◌*ℤ◌, ⊎_elim, List, [], ◌∷◌, ◌++◌, map, filter, length, Option, Some, refl, sym, ap, ◌∙◌, arith, Fits, w64}
use Rattle.std.specs.List.{range_with_len}
use Rattle.std.specs.Ordering.{int_eq}
use Rattle.std.specs.Option.{option_or}
use Rattle.std.proofs.lemmas.Bool.{cases_lt}
use Rattle.std.proofs.lemmas.Bool.Decides.{Decides-int_eq, same_from_decides}
use Rattle.std.proofs.lemmas.List.{length-map}
use Rattle.std.proofs.lemmas.List.FromFn.{length-range_with_len}
use Rattle.edf_fields.proofs.ForCallers.{and-true}
use Rattle.edf_stream.specs.samples.Values.{digital_value}
use Rattle.edf_stream.specs.declared.times.instant.Instant.{Instant}
use Rattle.edf_stream.specs.times.Instants.{IsSame}
use Rattle.edf_verdict.specs.declared.verdict.SampleMismatch.{SampleMismatch}
use Rattle.edf_verdict.specs.declared.verdict.SampleMismatch.TheVariants.{Missing, Extra}
use Rattle.edf_samples.specs.declared.difference.PointDifference.{PointDifference}
use Rattle.edf_samples.specs.declared.point.Point.{Point}
use Rattle.edf_samples.specs.declared.counts.places.Places.{Places}
use Rattle.edf_samples.specs.declared.counts.counted.Counted.{Counted}
use Rattle.edf_samples.specs.declared.counts.tally.Tally.{Tally}
use Rattle.edf_samples.specs.declared.stretch.Stretch.{Stretch}
use Rattle.edf_samples.specs.InstantOrder.{IsBefore}
use Rattle.edf_samples.specs.Others.{ArePlaces, values_differ}
use Rattle.edf_samples.specs.Differences.{instant}
use Rattle.edf_samples.specs.Stretches.{are_on_one_grid, points_behind, sample_at}
use Rattle.edf_samples.specs.Tallies.{all_behind, all_changed, all_extra, all_missing, alone, change, counted, differences_of, each_is, first_of, is_changed, is_extra, is_missing, joined, joined_kind, last_of, of_kind, tally_of}
use Rattle.edf_samples.proofs.FilterFacts.{by_test}
use Rattle.edf_samples.proofs.FractionFacts.{before_below, false-is_before, same_above, same_below, true-is_before}
use Rattle.edf_samples.proofs.PlaceCountFacts.{places_within}
use Rattle.edf_samples.proofs.StretchFacts.{behind-end, behind_step, next-instant, none-on, one-on}
use Rattle.edf_samples.proofs.TallyFacts.{behind-extra, behind-missing, behind-other, behind-same, changed_joined, joined_none, joined_twice, kind_joined, kind_none, kind_same, only-missing}

-- ---- the samples at two places, and what is behind them

not-not : (b : Bool) → b ≡ not (not b)
not-not true = refl
not-not false = refl

pub same_back_value : (v w : ℤ) → int_eq v w ≡ int_eq w v
same_back_value v w = same_from_decides (int_eq v w) (int_eq w v) (Decides-int_eq v w) (λ t. sym ((Decides-int_eq w v).0 t), λ e. (Decides-int_eq w v).1 (sym e))

abbrev pub stands : Stretch → ℕ → Instant
stands x i = instant x.den (sample_at x i)

pair-behind : (x y : Stretch) (i j : ℕ) → 2 * i + 1 < length x.bytes.now → 2 * j + 1 < length y.bytes.now
    → all_behind x i y j ≡ differences_of x.den (sample_at x i ∷ points_behind x (i + 1)) y.den (sample_at y j ∷ points_behind y (j + 1))
pair-behind x y i j lx ly =
    ap (λ ps. differences_of x.den ps y.den (points_behind y j)) (behind_step x i lx)
    ∙ ap (λ qs. differences_of x.den (sample_at x i ∷ points_behind x (i + 1)) y.den qs) (behind_step y j ly)

-- those of two samples at one instant
pub pair_step : (x y : Stretch) (i j : ℕ) → 2 * i + 1 < length x.bytes.now → 2 * j + 1 < length y.bytes.now → IsSame (stands x i) (stands y j)
    → all_behind x i y j ≡ cond (int_eq (digital_value x.bytes.now i) (digital_value y.bytes.now j)) [] (change x i y j ∷ []) ++ all_behind x (i + 1) y (j + 1)
pair_step x y i j lx ly same =
    let e = false-is_before (stands x i) (stands y j) (same_above (stands x i) (stands y j) same) in
    let f = false-is_before (stands y j) (stands x i) (same_below (stands x i) (stands y j) same) in
    pair-behind x y i j lx ly
    ∙ by_test (int_eq (digital_value x.bytes.now i) (digital_value y.bytes.now j))
    (λ b. differences_of x.den (sample_at x i ∷ points_behind x (i + 1)) y.den (sample_at y j ∷ points_behind y (j + 1)) ≡ cond b [] (change x i y j ∷ []) ++ all_behind x (i + 1) y (j + 1))
    (λ h. behind-same x.den (sample_at x i) (points_behind x (i + 1)) y.den (sample_at y j) (points_behind y (j + 1)) e f h)
    (λ h. behind-other x.den (sample_at x i) (points_behind x (i + 1)) y.den (sample_at y j) (points_behind y (j + 1)) e f h)

-- a sample of one that is before what is left of the other
pub missing_step : (x y : Stretch) (i j : ℕ) → 2 * i + 1 < length x.bytes.now → IsBefore (stands x i) (stands y j) → all_behind x i y j ≡ alone Missing x i ∷ all_behind x (i + 1) y j
unfolding differences_of
missing_step x y i j lx before = ⊎_elim here ended (cases_lt (2 * j + 1) (length y.bytes.now))
  where
    here : 2 * j + 1 < length y.bytes.now → all_behind x i y j ≡ alone Missing x i ∷ all_behind x (i + 1) y j
    here ly =
        pair-behind x y i j lx ly
        ∙ behind-missing x.den (sample_at x i) (points_behind x (i + 1)) y.den (sample_at y j) (points_behind y (j + 1)) (true-is_before (stands x i) (stands y j) before)
        ∙ ap (λ qs. alone Missing x i ∷ differences_of x.den (points_behind x (i + 1)) y.den qs) (sym (behind_step y j ly))

    ended : length y.bytes.now ≤ 2 * j + 1 → all_behind x i y j ≡ alone Missing x i ∷ all_behind x (i + 1) y j
    ended le =
        ap (λ ps. differences_of x.den ps y.den (points_behind y j)) (behind_step x i lx)
        ∙ ap (λ qs. differences_of x.den (sample_at x i ∷ points_behind x (i + 1)) y.den qs) (behind-end y j le)
        ∙ ap (λ ds. alone Missing x i ∷ ds) (sym (only-missing x.den (points_behind x (i + 1)) y.den))
        ∙ ap (λ qs. alone Missing x i ∷ differences_of x.den (points_behind x (i + 1)) y.den qs) (sym (behind-end y j le))

pub extra_step : (x y : Stretch) (i j : ℕ) → 2 * j + 1 < length y.bytes.now → IsBefore (stands y j) (stands x i) → all_behind x i y j ≡ alone Extra y j ∷ all_behind x i y (j + 1)
unfolding differences_of
extra_step x y i j ly before = ⊎_elim here ended (cases_lt (2 * i + 1) (length x.bytes.now))
  where
    here : 2 * i + 1 < length x.bytes.now → all_behind x i y j ≡ alone Extra y j ∷ all_behind x i y (j + 1)
    here lx =
        pair-behind x y i j lx ly
        ∙ behind-extra x.den (sample_at x i) (points_behind x (i + 1)) y.den (sample_at y j) (points_behind y (j + 1))
        (false-is_before (stands x i) (stands y j) (before_below (stands y j) (stands x i) before)) (true-is_before (stands y j) (stands x i) before)
        ∙ ap (λ ps. alone Extra y j ∷ differences_of x.den ps y.den (points_behind y (j + 1))) (sym (behind_step x i lx))

    ended : length x.bytes.now ≤ 2 * i + 1 → all_behind x i y j ≡ alone Extra y j ∷ all_behind x i y (j + 1)
    ended le =
        ap (λ ps. differences_of x.den ps y.den (points_behind y j)) (behind-end x i le)
        ∙ ap (λ qs. differences_of x.den [] y.den qs) (behind_step y j ly)
        ∙ ap (λ ps. alone Extra y j ∷ differences_of x.den ps y.den (points_behind y (j + 1))) (sym (behind-end x i le))

-- ---- one grid

one-times : (k : ℕ) → 1 * k ≡ k
one-times k = omega arith

none-more : (k : ℕ) → k ≡ k + 0
none-more k = omega arith

-- so many steps from an instant of both there is one of both
steps-same : (n m : ℕ) (a b d e : ℤ) → a *ℤ pos m ≡ b *ℤ pos n → d *ℤ pos m ≡ e *ℤ pos n → (k : ℕ) → (a +ℤ pos k *ℤ d) *ℤ pos m ≡ (b +ℤ pos k *ℤ e) *ℤ pos n
steps-same n m a b d e s t zero = ap (λ z. z *ℤ pos m) (none-on a d) ∙ s ∙ ap (λ z. z *ℤ pos n) (sym (none-on b e))
steps-same n m a b d e s t (suc k) =
    ap (λ z. z *ℤ pos m) (sym (one-on a d k)) ∙ next-instant n m (a +ℤ pos k *ℤ d) (b +ℤ pos k *ℤ e) d e (steps-same n m a b d e s t k) t ∙ ap (λ z. z *ℤ pos n) (one-on b e k)

grid-same : (x y : Stretch) → are_on_one_grid x y ≡ true → (k : ℕ) → IsSame (stands x k) (stands y k)
grid-same x y grid = go
  where
    both : (int_eq (x.num *ℤ pos y.den) (y.num *ℤ pos x.den) ≡ true) × (int_eq (x.step *ℤ pos y.den) (y.step *ℤ pos x.den) ≡ true)
    both = and-true (int_eq (x.num *ℤ pos y.den) (y.num *ℤ pos x.den)) (int_eq (x.step *ℤ pos y.den) (y.step *ℤ pos x.den)) grid

    go : (k : ℕ) → (x.num +ℤ pos k *ℤ x.step) *ℤ pos y.den ≡ (y.num +ℤ pos k *ℤ y.step) *ℤ pos x.den
    go k = steps-same x.den y.den x.num y.num x.step y.step ((Decides-int_eq (x.num *ℤ pos y.den) (y.num *ℤ pos x.den)).0 both.0) ((Decides-int_eq (x.step *ℤ pos y.den) (y.step *ℤ pos x.den)).0 both.1) k

each-front : (x y : Stretch) → ((k : ℕ) → IsSame (stands x k) (stands y k)) → (k n : ℕ) → 2 * (k + n) ≤ length x.bytes.now → 2 * (k + n) ≤ length y.bytes.now
    → all_behind x k y k ≡ map (λ j. change x j y j) (filter (values_differ 1 x.bytes.now y.bytes.now) (range_with_len k n)) ++ all_behind x (k + n) y (k + n)
each-front x y same k zero lx ly = ap (λ j. all_behind x j y j) (none-more k)
each-front x y same k (suc n) lx ly =
    let next : k + 1 + n ≡ k + suc n = omega arith in
    let rest = each-front x y same (k + 1) n (omega (arith, lx)) (omega (arith, ly)) in
    let test = ap (λ j. int_eq (digital_value x.bytes.now j) (digital_value y.bytes.now k)) (sym (one-times k)) ∙ not-not (int_eq (digital_value x.bytes.now (1 * k)) (digital_value y.bytes.now k)) in
    let changes : List PointDifference = map (λ j. change x j y j) (filter (values_differ 1 x.bytes.now y.bytes.now) (range_with_len (k + 1) n)) in
    pair_step x y k k (omega (arith, lx)) (omega (arith, ly)) (same k)
    ∙ ap (λ b. cond b [] (change x k y k ∷ []) ++ all_behind x (k + 1) y (k + 1)) test
    ∙ ap (λ ds. cond (not (values_differ 1 x.bytes.now y.bytes.now k)) [] (change x k y k ∷ []) ++ ds) (rest ∙ ap (λ j. changes ++ all_behind x j y j) next)
    ∙ by_test (values_differ 1 x.bytes.now y.bytes.now k)
    (λ b. cond (not b) [] (change x k y k ∷ []) ++ (changes ++ all_behind x (k + suc n) y (k + suc n))
    ≡ map (λ j. change x j y j) (cond b (k ∷ filter (values_differ 1 x.bytes.now y.bytes.now) (range_with_len (k + 1) n)) (filter (values_differ 1 x.bytes.now y.bytes.now) (range_with_len (k + 1) n))) ++ all_behind x (k + suc n) y (k + suc n))
    (λ h. refl) (λ h. refl)

-- ---- what there is of each kind

kind-all : {X : Type 0} (is : SampleMismatch → Bool) (f : X → PointDifference) → ((v : X) → is (f v).mismatch ≡ true) → (xs : List X) → of_kind is (map f xs) ≡ map f xs
kind-all is f holds [] = refl
kind-all {X} is f holds (v ∷ xs) = rw (holds v) (ap (λ ds. f v ∷ ds) (kind-all is f holds xs))

kind-none : {X : Type 0} (is : SampleMismatch → Bool) (f : X → PointDifference) → ((v : X) → is (f v).mismatch ≡ false) → (xs : List X) → of_kind is (map f xs) ≡ []
kind-none is f fails [] = refl
kind-none {X} is f fails (v ∷ xs) = rw (fails v) (kind-none is f fails xs)

pub tally_kinds : (ds ms es cs : List PointDifference) → of_kind is_missing ds ≡ ms → of_kind is_extra ds ≡ es → of_kind is_changed ds ≡ cs
    → tally_of ds ≡ record { missing = counted ms; extra = counted es; changed = counted cs; first = first_of ds }
unfolding tally_of
tally_kinds ds ms es cs m e c = rw (m, e, c) refl

pub first_counted : (ds : List PointDifference) → (counted ds).first ≡ first_of ds
unfolding counted
first_counted ds = refl

missing-tally : {X : Type 0} (f : X → PointDifference) → ((v : X) → (f v).mismatch ≡ Missing) → (xs : List X) → tally_of (map f xs) ≡ all_missing (counted (map f xs))
missing-tally {X} f is xs =
    tally_kinds (map f xs) (map f xs) [] [] (kind-all is_missing f (λ v. ap is_missing (is v)) xs) (kind-none is_extra f (λ v. ap is_extra (is v)) xs) (kind-none is_changed f (λ v. ap is_changed (is v)) xs)
    ∙ ap (λ first. record { missing = counted (map f xs); extra = counted []; changed = counted []; first = first }) (sym (first_counted (map f xs)))

extra-tally : {X : Type 0} (f : X → PointDifference) → ((v : X) → (f v).mismatch ≡ Extra) → (xs : List X) → tally_of (map f xs) ≡ all_extra (counted (map f xs))
extra-tally {X} f is xs =
    tally_kinds (map f xs) [] (map f xs) [] (kind-none is_missing f (λ v. ap is_missing (is v)) xs) (kind-all is_extra f (λ v. ap is_extra (is v)) xs) (kind-none is_changed f (λ v. ap is_changed (is v)) xs)
    ∙ ap (λ first. record { missing = counted []; extra = counted (map f xs); changed = counted []; first = first }) (sym (first_counted (map f xs)))

changed-tally : (x y : Stretch) (i j : ℕ → ℕ) (ks : List ℕ) → tally_of (map (λ k. change x (i k) y (j k)) ks) ≡ all_changed (counted (map (λ k. change x (i k) y (j k)) ks))
changed-tally x y i j ks =
    let f : ℕ → PointDifference = λ k. change x (i k) y (j k) in
    tally_kinds (map f ks) [] [] (map f ks) (kind-none is_missing f (λ k. refl) ks) (kind-none is_extra f (λ k. refl) ks) (kind-all is_changed f (λ k. refl) ks)
    ∙ ap (λ first. record { missing = counted []; extra = counted []; changed = counted (map f ks); first = first }) (sym (first_counted (map f ks)))

-- ---- what was counted at once

-- of those that pass a test: how many, the first and the last
passing-first : (f : ℕ → PointDifference) (test : ℕ → Bool) (a n k : ℕ) → a ≤ k → k < a + n → test k ≡ true → ((j : ℕ) → j < k → test j ≡ false) → first_of (map f (filter test (range_with_len a n))) ≡ Some (f k)
passing-first f test a zero k le lt is before = absurd (omega (arith, le, lt))
passing-first f test a (suc n) k le lt is before =
    ⊎_elim
    (λ less. rw (before a less) (passing-first f test (a + 1) n k (omega (arith, less)) (omega (arith, lt)) is before))
    (λ ge. let here : a ≡ k = omega (arith, le, ge) in rw (ap test here ∙ is) (ap (λ j. Some (f j)) here))
    (cases_lt a k)

passing-none : (test : ℕ → Bool) (a n : ℕ) → ((j : ℕ) → a ≤ j → j < a + n → test j ≡ false) → filter test (range_with_len a n) ≡ []
passing-none test a zero none = refl
passing-none test a (suc n) none = rw (none a (omega arith) (omega arith)) (passing-none test (a + 1) n (λ j le lt. none j (omega (arith, le)) (omega (arith, lt))))

passing-last : (f : ℕ → PointDifference) (test : ℕ → Bool) (a n k : ℕ) → a ≤ k → k < a + n → test k ≡ true → ((j : ℕ) → k < j → j < a + n → test j ≡ false) → last_of (map f (filter test (range_with_len a n))) ≡ Some (f k)
passing-last f test a zero k le lt is behind = absurd (omega (arith, le, lt))
passing-last f test a (suc n) k le lt is behind =
    ⊎_elim
    (λ less. let r = passing-last f test (a + 1) n k (omega (arith, less)) (omega (arith, lt)) is (λ j l m. behind j l (omega (arith, m))) in
    by_test (test a) (λ b. last_of (map f (cond b (a ∷ filter test (range_with_len (a + 1) n)) (filter test (range_with_len (a + 1) n)))) ≡ Some (f k))
    (λ h. ap (λ o. option_or o (Some (f a))) r) (λ h. r))
    (λ ge. let here : a ≡ k = omega (arith, le, ge) in
    rw (ap test here ∙ is, passing-none test (a + 1) n (λ j l m. behind j (omega (arith, l, here)) (omega (arith, m)))) (ap (λ j. Some (f j)) here))
    (cases_lt a k)

passed-counted : (f : ℕ → PointDifference) (test : ℕ → Bool) (n : ℕ) (p : Places) → Fits w64 p.count → ArePlaces test n p
    → record { count = p.count; first = Some (f p.first); last = Some (f p.last) } ≡ counted (map f (filter test (range_with_len 0 n)))
unfolding counted
passed-counted f test n p fits are =
    let within = places_within test n p are in
    let first-in = within.0 in
    let last-in = within.1 in
    let size : p.count ≡ length (map f (filter test (range_with_len 0 n))) = are.count_is ∙ sym (length-map (filter test (range_with_len 0 n)) f) in
    kind_same (record { count = p.count; first = Some (f p.first); last = Some (f p.last) }) (counted (map f (filter test (range_with_len 0 n))))
    (at-most p.count (2 ^ 64 - 1) (omega (arith, fits)) ∙ ap (λ k. min k (2 ^ 64 - 1)) size)
    (sym (passing-first f test 0 n p.first (omega arith) (omega (arith, first-in)) are.first_passes are.none_before))
    (sym (passing-last f test 0 n p.last (omega arith) (omega (arith, last-in)) are.last_passes (λ j l m. are.none_behind j l (omega (arith, m)))))
  where
    at-most : (k m : ℕ) → k ≤ m → k ≡ min k m
    at-most k m le = omega (arith, le)

map-same : {X : Type 0} (f g : ℕ → X) → ((k : ℕ) → f k ≡ g k) → (ks : List ℕ) → map f ks ≡ map g ks
map-same f g same [] = refl
map-same {X} f g same (k ∷ ks) = rw (same k, map-same f g same ks) refl

pub some_counted : (x y : Stretch) (here there : ℕ) (p : Places) (first last : PointDifference) → Fits w64 p.count → first ≡ change x (here * p.first) y (there * p.first) → last ≡ change x (here * p.last) y (there * p.last)
    → (test : ℕ → Bool) (n : ℕ) → ArePlaces test n p
    → record { count = p.count; first = Some first; last = Some last } ≡ counted (map (λ k. change x (here * k) y (there * k)) (filter test (range_with_len 0 n)))
some_counted x y here there p first last fits f l test n are =
    ap (λ d. record { count = p.count; first = Some d; last = Some last }) f
    ∙ ap (λ d. record { count = p.count; first = Some (change x (here * p.first) y (there * p.first)); last = Some d }) l
    ∙ passed-counted (λ k. change x (here * k) y (there * k)) test n p fits are

pub none_counted : (x y : Stretch) (here there : ℕ) (test : ℕ → Bool) (n : ℕ) → ((k : ℕ) → k < n → test k ≡ false) → counted [] ≡ counted (map (λ k. change x (here * k) y (there * k)) (filter test (range_with_len 0 n)))
none_counted x y here there test n none =
    sym (ap (λ ks. counted (map (λ k. change x (here * k) y (there * k)) ks)) (passing-none test 0 n (λ j le lt. none j (omega (arith, lt)))))

-- some that were counted, and then others of two values
pub changes_joined : (a : Counted) (x y : Stretch) (here there : ℕ) (p : Places) (k : ℕ) (last : PointDifference) → Fits w64 a.count → Fits w64 p.count → k ≡ min (a.count + p.count) (2 ^ 64 - 1)
    → last ≡ change x (here * p.last) y (there * p.last) → (test : ℕ → Bool) (n : ℕ) → ArePlaces test n p
    → record { count = k; first = option_or a.first (Some (change x (here * p.first) y (there * p.first))); last = Some last }
    ≡ joined_kind a (counted (map (λ k. change x (here * k) y (there * k)) (filter test (range_with_len 0 n))))
changes_joined a x y here there p k last fits few more l test n are =
    let one : PointDifference = change x (here * p.first) y (there * p.first) in
    kind_joined a (record { count = p.count; first = Some one; last = Some last }) k fits more
    ∙ ap (joined_kind a) (some_counted x y here there p one last few refl l test n are)

pub no_changes_joined : (a : Counted) (x y : Stretch) (here there : ℕ) (test : ℕ → Bool) (n : ℕ) → ((k : ℕ) → k < n → test k ≡ false)
    → a ≡ joined_kind a (counted (map (λ k. change x (here * k) y (there * k)) (filter test (range_with_len 0 n))))
no_changes_joined a x y here there test n none = sym (kind_none a) ∙ ap (joined_kind a) (none_counted x y here there test n none)

-- the same of a tally
pub changes_taken : (a : Tally) (c : Counted) (first : Option PointDifference) (x y : Stretch) (p : Places) → Fits w64 p.count → (test : ℕ → Bool) (n : ℕ) → ArePlaces test n p
    → c ≡ joined_kind a.changed (counted (map (λ k. change x (1 * k) y (1 * k)) (filter test (range_with_len 0 n)))) → first ≡ option_or a.first (Some (change x p.first y p.first))
    → record { missing = a.missing; extra = a.extra; changed = c; first = first } ≡ joined a (all_changed (counted (map (λ k. change x (1 * k) y (1 * k)) (filter test (range_with_len 0 n)))))
changes_taken a c first x y p few test n are more f =
    let all = counted (map (λ k. change x (1 * k) y (1 * k)) (filter test (range_with_len 0 n))) in
    let one : Some (change x p.first y p.first) ≡ all.first =
    ap (λ k. Some (change x k y k)) (sym (one-times p.first)) ∙ ap (λ (c : Counted). c.first) (some_counted x y 1 1 p _ _ few refl refl test n are)
    in
    ap (λ o. record { missing = a.missing; extra = a.extra; changed = c; first = o }) (f ∙ ap (option_or a.first) one) ∙ changed_joined a c all more

nothing-changed : (a : Tally) → a ≡ joined a (all_changed (counted []))
unfolding tally_of counted
nothing-changed a = sym (joined_none a)

pub no_changes_taken : (a : Tally) (x y : Stretch) (test : ℕ → Bool) (n : ℕ) → ((k : ℕ) → k < n → test k ≡ false)
    → a ≡ joined a (all_changed (counted (map (λ k. change x (1 * k) y (1 * k)) (filter test (range_with_len 0 n)))))
no_changes_taken a x y test n none = nothing-changed a ∙ ap (λ c. joined a (all_changed c)) (none_counted x y 1 1 test n none)

-- samples that stand alone, from a first one to a last one
pub range_last : (f : ℕ → PointDifference) (a n : ℕ) → last_of (map f (range_with_len a (suc n))) ≡ Some (f (a + n))
range_last f a zero = ap (λ k. Some (f k)) (none-more a)
range_last f a (suc n) =
    let next : a + 1 + n ≡ a + suc n = omega arith in
    ap (λ o. option_or o (Some (f a))) (range_last f (a + 1) n ∙ ap (λ k. Some (f k)) next)

pub range_counted : (mismatch : SampleMismatch) (x : Stretch) (p : Places) (one last : PointDifference) (place : ℕ → ℕ) → Fits w64 p.count → 0 < p.count → one ≡ alone mismatch x p.first → last ≡ alone mismatch x p.last
    → p.first ≡ place 0 → p.last ≡ place (p.count - 1) → record { count = p.count; first = Some one; last = Some last } ≡ counted (map (λ k. alone mismatch x (place k)) (range_with_len 0 p.count))
unfolding counted
range_counted mismatch x p one last place fits some is end f l = from p.count fits some (end ∙ ap (alone mismatch x) l)
  where
    at-most : (k m : ℕ) → k ≤ m → k ≡ min k m
    at-most k m le = omega (arith, le)

    from : (count : ℕ) → Fits w64 count → 0 < count → last ≡ alone mismatch x (place (count - 1)) → record { count = count; first = Some one; last = Some last } ≡ counted (map (λ k. alone mismatch x (place k)) (range_with_len 0 count))
    from zero fits some end = absurd (omega (arith, some))
    from (suc n) fits some end =
        let g : ℕ → PointDifference = λ k. alone mismatch x (place k) in
        let less : suc n - 1 ≡ 0 + n = omega arith in
        kind_same (record { count = suc n; first = Some one; last = Some last }) (counted (map g (range_with_len 0 (suc n))))
        (at-most (suc n) (2 ^ 64 - 1) (omega (arith, fits)) ∙ ap (λ k. min k (2 ^ 64 - 1)) (sym (length-map (range_with_len 0 (suc n)) g ∙ length-range_with_len 0 (suc n))))
        (ap Some (is ∙ ap (alone mismatch x) f))
        (ap Some (end ∙ ap g less) ∙ sym (range_last g 0 n))

-- what is left of a stretch behind a place
rest-range : (mismatch : SampleMismatch) (x : Stretch) (from a n : ℕ) → 2 * (from + (a + n)) ≤ length x.bytes.now → length x.bytes.now ≤ 2 * (from + (a + n)) + 1
    → each_is mismatch x (from + a) ≡ map (λ k. alone mismatch x (from + k)) (range_with_len a n)
rest-range mismatch x from a zero le ge = ap (λ ps. map (λ (p : Point). record { at = instant x.den p; mismatch = mismatch }) ps) (behind-end x (from + a) (omega (arith, ge)))
rest-range mismatch x from a (suc n) le ge =
    let next : from + a + 1 ≡ from + (a + 1) = omega arith in
    ap (λ ps. map (λ (p : Point). record { at = instant x.den p; mismatch = mismatch }) ps) (behind_step x (from + a) (omega (arith, le)))
    ∙ ap (λ ds. alone mismatch x (from + a) ∷ ds) (ap (each_is mismatch x) next ∙ rest-range mismatch x from (a + 1) n (omega (arith, le)) (omega (arith, ge)))

pub rest_ended : (mismatch : SampleMismatch) (x : Stretch) (from : ℕ) (a : Tally) → length x.bytes.now ≤ 2 * from + 1 → a ≡ joined a (tally_of (each_is mismatch x from))
rest_ended mismatch x from a le = sym (joined_none a) ∙ ap (λ ps. joined a (tally_of (map (λ (p : Point). record { at = instant x.den p; mismatch = mismatch }) ps))) (sym (behind-end x from le))

pub rest_counted : (mismatch : SampleMismatch) (x : Stretch) (from end : ℕ) (c : Counted) → from ≤ end → 2 * end ≤ length x.bytes.now → length x.bytes.now ≤ 2 * end + 1
    → c ≡ counted (map (λ k. alone mismatch x (from + k)) (range_with_len 0 (end - from))) → c ≡ counted (each_is mismatch x from)
rest_counted mismatch x from end c le within all is =
    let whole : from + (0 + (end - from)) ≡ end = omega (arith, le) in
    let none : from + 0 ≡ from = omega arith in
    is ∙ ap counted (sym (rest-range mismatch x from 0 (end - from) (omega (arith, within, whole)) (omega (arith, all, whole))) ∙ ap (each_is mismatch x) none)

-- ---- the tallies

pub rest_missing : (x : Stretch) (k : ℕ) → all_missing (counted (each_is Missing x k)) ≡ tally_of (each_is Missing x k)
rest_missing x k = sym (missing-tally (λ (p : Point). record { at = instant x.den p; mismatch = Missing }) (λ p. refl) (points_behind x k))

pub rest_extra : (x : Stretch) (k : ℕ) → all_extra (counted (each_is Extra x k)) ≡ tally_of (each_is Extra x k)
rest_extra x k = sym (extra-tally (λ (p : Point). record { at = instant x.den p; mismatch = Extra }) (λ p. refl) (points_behind x k))

-- a front was counted, and the rest is behind it
pub front_counted : (a b t : Tally) (ds : List PointDifference) (x y : Stretch) (i j : ℕ) → b ≡ joined a t → t ≡ tally_of ds → all_behind x 0 y 0 ≡ ds ++ all_behind x i y j
    → joined b (tally_of (all_behind x i y j)) ≡ joined a (tally_of (all_behind x 0 y 0))
front_counted a b t ds x y i j more is front =
    ap (λ c. joined c (tally_of (all_behind x i y j))) (more ∙ ap (joined a) is) ∙ joined_twice a ds (all_behind x i y j) ∙ ap (λ es. joined a (tally_of es)) (sym front)

pub each_counted : (a b t : Tally) (c : Counted) (x y : Stretch) (n : ℕ) → are_on_one_grid x y ≡ true → 2 * n ≤ length x.bytes.now → 2 * n ≤ length y.bytes.now
    → c ≡ counted (map (λ k. change x (1 * k) y (1 * k)) (filter (values_differ 1 x.bytes.now y.bytes.now) (range_with_len 0 n))) → t ≡ all_changed c → b ≡ joined a t
    → joined b (tally_of (all_behind x n y n)) ≡ joined a (tally_of (all_behind x 0 y 0))
each_counted a b t c x y n grid lx ly counts is more =
    let ks = filter (values_differ 1 x.bytes.now y.bytes.now) (range_with_len 0 n) in
    let ds : List PointDifference = map (λ k. change x k y k) ks in
    let same : map (λ k. change x (1 * k) y (1 * k)) ks ≡ ds = map-same (λ k. change x (1 * k) y (1 * k)) (λ k. change x k y k) (λ k. ap (λ j. change x j y j) (one-times k)) ks in
    front_counted a b t ds x y n n more
    (is ∙ ap all_changed (counts ∙ ap counted same) ∙ sym (changed-tally x y (λ k. k) (λ k. k) ks))
    (let e : 0 + n ≡ n = omega arith in
    each-front x y (grid-same x y grid) 0 n (omega (arith, lx)) (omega (arith, ly))
    ∙ ap (λ j. ds ++ all_behind x j y j) e)
