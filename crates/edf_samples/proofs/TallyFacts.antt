-- How tallies are joined, and the tally of what two lists differ in.
use Rattle.std.proofs.Common.{◌≡◌, ℕ, ◌+◌, ◌-◌, ◌*◌, ◌^◌, ◌<◌, ◌≤◌, max, min, Bool, true, false, cond, not, ℤ, pos, ◌+ℤ◌, ◌*ℤ◌, ◌⊎◌, MatchOption, List, [], ◌∷◌, ◌++◌, map, length, Option, Some, None, inl, inr, refl, sym, ap, ◌∙◌, subst, arith, Fits, w64}
use Rattle.std.proofs.lemmas.List.{map-append, append-nil, length-append}
use Rattle.std.proofs.lemmas.List.Elements.{filter-append}
use Rattle.std.specs.Int.{from_bool}
use Rattle.std.specs.Option.{option_or}
use Rattle.std.specs.Ordering.{int_eq}
use Rattle.edf_stream.specs.declared.times.instant.Instant.{Instant}
use Rattle.edf_verdict.specs.declared.verdict.SampleMismatch.{SampleMismatch}
use Rattle.edf_verdict.specs.declared.verdict.SampleMismatch.TheVariants.{Missing, Extra, Value}
use Rattle.edf_samples.specs.declared.difference.PointDifference.{PointDifference}
use Rattle.edf_samples.specs.declared.point.Point.{Point}
use Rattle.edf_samples.specs.declared.counts.counted.Counted.{Counted}
use Rattle.edf_samples.specs.declared.counts.tally.Tally.{Tally}
use Rattle.edf_samples.specs.InstantOrder.{is_before}
use Rattle.edf_samples.specs.Differences.{instant, missing, extra, other, heads, first_difference_of}
use Rattle.edf_samples.specs.Tallies.{all_behind, differences_of, each_is, first_of, lacks_first, lacks_second, last_of, is_missing, is_extra, is_changed, of_kind, counted, joined_kind, tally_of, joined, all_missing, all_extra, all_changed}
use Rattle.edf_stream.specs.samples.Values.{digital_value}
use Rattle.edf_samples.specs.declared.stretch.Stretch.{Stretch}
use Rattle.edf_samples.specs.Stretches.{points_behind, points_in}
use Rattle.edf_samples.proofs.StretchFacts.{behind-end, behind_step, behind_zero}
use Rattle.edf_samples.proofs.DifferenceFacts.{AreBefore, AreFrom}
use Rattle.edf_samples.proofs.FilterFacts.{by_test}
use Rattle.edf_samples.proofs.FractionFacts.{before-not_before, before_below, true-is_before, false-is_before}

-- ---- joined

or_or : {X : Type 0} (a b c : Option X) → option_or (option_or a b) c ≡ option_or a (option_or b c)
or_or None b c = refl
or_or (Some x) b c = refl

or_nothing : (o : Option PointDifference) → option_or o None ≡ o
or_nothing None = refl
or_nothing (Some d) = refl

first-append : (xs ys : List PointDifference) → first_of (xs ++ ys) ≡ option_or (first_of xs) (first_of ys)
first-append [] ys = refl
first-append (x ∷ xs) ys = refl

pub last_append : (xs ys : List PointDifference) → last_of (xs ++ ys) ≡ option_or (last_of ys) (last_of xs)
last_append [] ys = sym (or_nothing (last_of ys))
last_append (x ∷ xs) ys = ap (λ o. option_or o (Some x)) (last_append xs ys) ∙ or_or (last_of ys) (last_of xs) (Some x)

pub kind_same : (a b : Counted) → a.count ≡ b.count → a.first ≡ b.first → a.last ≡ b.last → a ≡ b
kind_same a b c f l =
    let step : (count : ℕ) (first last : Option PointDifference) → a.count ≡ count → a.first ≡ first → a.last ≡ last → a ≡ record { count = count; first = first; last = last } =
    λ count first last c f l. rw (← c, ← f, ← l) refl in
    step b.count b.first b.last c f l

tally_same : (a b : Tally) → a.missing ≡ b.missing → a.extra ≡ b.extra → a.changed ≡ b.changed → a.first ≡ b.first → a ≡ b
tally_same a b p q r f =
    let step : (m e c : Counted) (first : Option PointDifference) → a.missing ≡ m → a.extra ≡ e → a.changed ≡ c → a.first ≡ first → a ≡ record { missing = m; extra = e; changed = c; first = first } =
    λ m e c first p q r f. rw (← p, ← q, ← r, ← f) refl in
    step b.missing b.extra b.changed b.first p q r f

count-append : (a : ℕ) (xs ys : List PointDifference)
    → min (min (a + min (length xs) (2 ^ 64 - 1)) (max a (2 ^ 64 - 1)) + min (length ys) (2 ^ 64 - 1)) (max (min (a + min (length xs) (2 ^ 64 - 1)) (max a (2 ^ 64 - 1))) (2 ^ 64 - 1))
    ≡ min (a + min (length (xs ++ ys)) (2 ^ 64 - 1)) (max a (2 ^ 64 - 1))
count-append a xs ys =
    capped a (length xs) (length ys) (2 ^ 64 - 1)
    ∙ ap (λ k. min (a + min k (2 ^ 64 - 1)) (max a (2 ^ 64 - 1))) (sym (length-append xs ys))
  where
    capped : (a b c m : ℕ) → min (min (a + min b m) (max a m) + min c m) (max (min (a + min b m) (max a m)) m) ≡ min (a + min (b + c) m) (max a m)
    capped a b c m = omega arith

kind-twice : (a : Counted) (xs ys : List PointDifference) → joined_kind (joined_kind a (counted xs)) (counted ys) ≡ joined_kind a (counted (xs ++ ys))
unfolding joined_kind counted
kind-twice a xs ys =
    kind_same (joined_kind (joined_kind a (counted xs)) (counted ys)) (joined_kind a (counted (xs ++ ys)))
    (count-append a.count xs ys)
    (or_or a.first (first_of xs) (first_of ys) ∙ ap (option_or a.first) (sym (first-append xs ys)))
    (sym (or_or (last_of ys) (last_of xs) a.last) ∙ ap (λ o. option_or o a.last) (sym (last_append xs ys)))

kind-parts : (is : SampleMismatch → Bool) (a : Counted) (xs ys : List PointDifference) → joined_kind (joined_kind a (counted (of_kind is xs))) (counted (of_kind is ys)) ≡ joined_kind a (counted (of_kind is (xs ++ ys)))
kind-parts is a xs ys =
    kind-twice a (of_kind is xs) (of_kind is ys) ∙ ap (λ ds. joined_kind a (counted ds)) (sym (filter-append (λ (d : PointDifference). is d.mismatch) xs ys))

-- nothing more, and nothing before
pub kind_none : (a : Counted) → joined_kind a (counted []) ≡ a
unfolding joined_kind counted
kind_none a = kind_same (joined_kind a (counted [])) a (no_more a.count (2 ^ 64 - 1)) (or_nothing a.first) refl
  where
    no_more : (a m : ℕ) → min (a + min 0 m) (max a m) ≡ a
    no_more a m = omega arith

none-kind : (ds : List PointDifference) → joined_kind (counted []) (counted ds) ≡ counted ds
unfolding joined_kind counted
none-kind ds = kind_same (joined_kind (counted []) (counted ds)) (counted ds) (from-zero (length ds) (2 ^ 64 - 1)) refl (or_nothing (last_of ds))
  where
    from-zero : (a m : ℕ) → min (min 0 m + min a m) (max (min 0 m) m) ≡ min a m
    from-zero a m = omega arith

-- a tally with that of some, and then of others, is that with the tally of all
pub joined_twice : (a : Tally) (xs ys : List PointDifference) → joined (joined a (tally_of xs)) (tally_of ys) ≡ joined a (tally_of (xs ++ ys))
unfolding joined tally_of
joined_twice a xs ys =
    tally_same (joined (joined a (tally_of xs)) (tally_of ys)) (joined a (tally_of (xs ++ ys)))
    (kind-parts is_missing a.missing xs ys) (kind-parts is_extra a.extra xs ys) (kind-parts is_changed a.changed xs ys)
    (or_or a.first (first_of xs) (first_of ys) ∙ ap (option_or a.first) (sym (first-append xs ys)))

pub joined_more : (a : Tally) (d : PointDifference) (ds : List PointDifference) → joined (joined a (tally_of (d ∷ []))) (tally_of ds) ≡ joined a (tally_of (d ∷ ds))
joined_more a d ds = joined_twice a (d ∷ []) ds

pub joined_none : (a : Tally) → joined a (tally_of []) ≡ a
unfolding joined tally_of
joined_none a = tally_same (joined a (tally_of [])) a (kind_none a.missing) (kind_none a.extra) (kind_none a.changed) (or_nothing a.first)

none-joined : (ds : List PointDifference) → joined (tally_of []) (tally_of ds) ≡ tally_of ds
unfolding joined tally_of
none-joined ds =
    tally_same (joined (tally_of []) (tally_of ds)) (tally_of ds) (none-kind (of_kind is_missing ds)) (none-kind (of_kind is_extra ds)) (none-kind (of_kind is_changed ds)) refl

-- the tally of some and of others is that of all
pub tally_append : (xs ys : List PointDifference) → joined (tally_of xs) (tally_of ys) ≡ tally_of (xs ++ ys)
tally_append xs ys = ap (λ t. joined t (tally_of ys)) (sym (none-joined xs)) ∙ joined_twice (tally_of []) xs ys ∙ none-joined (xs ++ ys)

-- ---- single steps

pub kind_joined : (a b : Counted) (k : ℕ) → Fits w64 a.count → k ≡ min (a.count + b.count) (2 ^ 64 - 1) → record { count = k; first = option_or a.first b.first; last = option_or b.last a.last } ≡ joined_kind a b
unfolding joined_kind
kind_joined a b k fits more =
    kind_same (record { count = k; first = option_or a.first b.first; last = option_or b.last a.last }) (joined_kind a b) (more ∙ omega (arith, fits)) refl refl

-- those of one kind more
pub missing_joined : (a : Tally) (c more : Counted) → c ≡ joined_kind a.missing more → record { missing = c; extra = a.extra; changed = a.changed; first = option_or a.first more.first } ≡ joined a (all_missing more)
unfolding joined
missing_joined a c more e =
    tally_same (record { missing = c; extra = a.extra; changed = a.changed; first = option_or a.first more.first }) (joined a (all_missing more))
    e (sym (kind_none a.extra)) (sym (kind_none a.changed)) refl

pub extra_joined : (a : Tally) (c more : Counted) → c ≡ joined_kind a.extra more → record { missing = a.missing; extra = c; changed = a.changed; first = option_or a.first more.first } ≡ joined a (all_extra more)
unfolding joined
extra_joined a c more e =
    tally_same (record { missing = a.missing; extra = c; changed = a.changed; first = option_or a.first more.first }) (joined a (all_extra more))
    (sym (kind_none a.missing)) e (sym (kind_none a.changed)) refl

pub changed_joined : (a : Tally) (c more : Counted) → c ≡ joined_kind a.changed more → record { missing = a.missing; extra = a.extra; changed = c; first = option_or a.first more.first } ≡ joined a (all_changed more)
unfolding joined
changed_joined a c more e =
    tally_same (record { missing = a.missing; extra = a.extra; changed = c; first = option_or a.first more.first }) (joined a (all_changed more))
    (sym (kind_none a.missing)) (sym (kind_none a.extra)) e refl

-- those of each kind, and the first of all
pub kinds_joined : (a t : Tally) (m e c : Counted) (first : Option PointDifference) → m ≡ joined_kind a.missing t.missing → e ≡ joined_kind a.extra t.extra → c ≡ joined_kind a.changed t.changed → first ≡ option_or a.first t.first
    → record { missing = m; extra = e; changed = c; first = first } ≡ joined a t
unfolding joined
kinds_joined a t m e c first p q r f = tally_same (record { missing = m; extra = e; changed = c; first = first }) (joined a t) p q r f

-- one difference more, and of each kind
pub one_joined : (a : Counted) (d : PointDifference) (k : ℕ) → Fits w64 a.count → k ≡ min (a.count + 1) (2 ^ 64 - 1) → record { count = k; first = option_or a.first (Some d); last = Some d } ≡ joined_kind a (counted (d ∷ []))
unfolding counted joined_kind
one_joined a d k fits more =
    kind_same (record { count = k; first = option_or a.first (Some d); last = Some d }) (joined_kind a (counted (d ∷ []))) (more ∙ omega (arith, fits)) refl refl

pub one_missing : (a : Tally) (d : PointDifference) (c : Counted) (first : Option PointDifference) → d.mismatch ≡ Missing → c ≡ joined_kind a.missing (counted (d ∷ [])) → first ≡ option_or a.first (Some d)
    → record { missing = c; extra = a.extra; changed = a.changed; first = first } ≡ joined a (tally_of (d ∷ []))
unfolding tally_of joined
one_missing a d c first e is f =
    tally_same (record { missing = c; extra = a.extra; changed = a.changed; first = first }) (joined a (tally_of (d ∷ [])))
    (is ∙ sym (rw e refl)) (sym (rw e (kind_none a.extra))) (sym (rw e (kind_none a.changed))) f

pub one_extra : (a : Tally) (d : PointDifference) (c : Counted) (first : Option PointDifference) → d.mismatch ≡ Extra → c ≡ joined_kind a.extra (counted (d ∷ [])) → first ≡ option_or a.first (Some d)
    → record { missing = a.missing; extra = c; changed = a.changed; first = first } ≡ joined a (tally_of (d ∷ []))
unfolding tally_of joined
one_extra a d c first e is f =
    tally_same (record { missing = a.missing; extra = c; changed = a.changed; first = first }) (joined a (tally_of (d ∷ [])))
    (sym (rw e (kind_none a.missing))) (is ∙ sym (rw e refl)) (sym (rw e (kind_none a.changed))) f

pub one_changed : (a : Tally) (d : PointDifference) (v w : ℤ) (c : Counted) (first : Option PointDifference) → d.mismatch ≡ Value v w → c ≡ joined_kind a.changed (counted (d ∷ [])) → first ≡ option_or a.first (Some d)
    → record { missing = a.missing; extra = a.extra; changed = c; first = first } ≡ joined a (tally_of (d ∷ []))
unfolding tally_of joined
one_changed a d v w c first e is f =
    tally_same (record { missing = a.missing; extra = a.extra; changed = c; first = first }) (joined a (tally_of (d ∷ [])))
    (sym (rw e (kind_none a.missing))) (sym (rw e (kind_none a.extra))) (is ∙ sym (rw e refl)) f

-- ---- two lists

-- where one has no more
pub only-missing : (n : ℕ) (xs : List Point) (m : ℕ) → differences_of n xs m [] ≡ map (missing n) xs
unfolding differences_of
only-missing n [] m = refl
only-missing n (x ∷ xs) m = refl

-- behind the heads
pub behind-missing : (n : ℕ) (x : Point) (xs : List Point) (m : ℕ) (y : Point) (ys : List Point) → is_before (instant n x) (instant m y) ≡ true → differences_of n (x ∷ xs) m (y ∷ ys) ≡ missing n x ∷ differences_of n xs m (y ∷ ys)
unfolding differences_of
behind-missing n x xs m y ys b = rw b refl

pub behind-extra : (n : ℕ) (x : Point) (xs : List Point) (m : ℕ) (y : Point) (ys : List Point) → is_before (instant n x) (instant m y) ≡ false → is_before (instant m y) (instant n x) ≡ true → differences_of n (x ∷ xs) m (y ∷ ys) ≡ extra m y ∷ differences_of n (x ∷ xs) m ys
unfolding differences_of
behind-extra n x xs m y ys b c = rw (b, c) refl

pub behind-same : (n : ℕ) (x : Point) (xs : List Point) (m : ℕ) (y : Point) (ys : List Point) → is_before (instant n x) (instant m y) ≡ false → is_before (instant m y) (instant n x) ≡ false → int_eq x.value y.value ≡ true → differences_of n (x ∷ xs) m (y ∷ ys) ≡ differences_of n xs m ys
unfolding differences_of
behind-same n x xs m y ys b c e = rw (b, c, e) refl

pub behind-other : (n : ℕ) (x : Point) (xs : List Point) (m : ℕ) (y : Point) (ys : List Point) → is_before (instant n x) (instant m y) ≡ false → is_before (instant m y) (instant n x) ≡ false → int_eq x.value y.value ≡ false → differences_of n (x ∷ xs) m (y ∷ ys) ≡ other n x y ∷ differences_of n xs m ys
unfolding differences_of
behind-other n x xs m y ys b c e = rw (b, c, e) refl

-- ---- the law: the first difference is the first of all

pub first_is_first : (n : ℕ) (xs : List Point) (m : ℕ) (ys : List Point) → first_difference_of n xs m ys ≡ first_of (differences_of n xs m ys)
unfolding differences_of
first_is_first n [] m [] = refl
first_is_first n [] m (y ∷ ys) = refl
first_is_first n (x ∷ xs) m [] = refl
first_is_first n (x ∷ xs) m (y ∷ ys) =
    by_test (is_before (instant n x) (instant m y)) (λ b. option_or (cond b (Some (missing n x)) (cond (is_before (instant m y) (instant n x)) (Some (extra m y)) (cond (int_eq x.value y.value) None (Some (other n x y))))) (first_difference_of n xs m ys)
    ≡ first_of (cond b (missing n x ∷ differences_of n xs m (y ∷ ys)) (cond (is_before (instant m y) (instant n x)) (extra m y ∷ differences_of n (x ∷ xs) m ys) (cond (int_eq x.value y.value) (differences_of n xs m ys) (other n x y ∷ differences_of n xs m ys)))))
    (λ e. refl)
    (λ e. by_test (is_before (instant m y) (instant n x)) (λ b. option_or (cond b (Some (extra m y)) (cond (int_eq x.value y.value) None (Some (other n x y)))) (first_difference_of n xs m ys)
    ≡ first_of (cond b (extra m y ∷ differences_of n (x ∷ xs) m ys) (cond (int_eq x.value y.value) (differences_of n xs m ys) (other n x y ∷ differences_of n xs m ys))))
    (λ f. refl)
    (λ f. by_test (int_eq x.value y.value) (λ b. option_or (cond b None (Some (other n x y))) (first_difference_of n xs m ys) ≡ first_of (cond b (differences_of n xs m ys) (other n x y ∷ differences_of n xs m ys)))
    (λ h. first_is_first n xs m ys) (λ h. refl)))

-- ---- cut at an instant

pub differences_split : (n m : ℕ) (xs xs' ys ys' : List Point) (t : Instant) → 0 < n → 0 < m → 0 < t.den → AreBefore n xs t → AreBefore m ys t → AreFrom n xs' t → AreFrom m ys' t
    → differences_of n (xs ++ xs') m (ys ++ ys') ≡ differences_of n xs m ys ++ differences_of n xs' m ys'
unfolding differences_of
differences_split n m [] xs' [] ys' t pn pm pt bx by' fx fy = refl
differences_split n m [] [] (y ∷ ys) ys' t pn pm pt bx by' fx fy = map-append (extra m) (y ∷ ys) ys'
differences_split n m [] (x ∷ xs') (y ∷ ys) ys' t pn pm pt bx by' fx fy =
    let b = before-not_before (instant m y) t (instant n x) pn (by' y (inl refl)) (fx x (inl refl)) in
    behind-extra n x xs' m y (ys ++ ys') (false-is_before (instant n x) (instant m y) (before_below (instant m y) (instant n x) b)) (true-is_before (instant m y) (instant n x) b)
    ∙ ap (λ ds. extra m y ∷ ds) (differences_split n m [] (x ∷ xs') ys ys' t pn pm pt bx (λ z h. by' z (inr h)) fx fy)
differences_split n m (x ∷ xs) xs' [] [] t pn pm pt bx by' fx fy =
    map-append (missing n) (x ∷ xs) xs' ∙ ap (λ ds. map (missing n) (x ∷ xs) ++ ds) (sym (only-missing n xs' m))
differences_split n m (x ∷ xs) xs' [] (y ∷ ys') t pn pm pt bx by' fx fy =
    behind-missing n x (xs ++ xs') m y ys' (true-is_before (instant n x) (instant m y) (before-not_before (instant n x) t (instant m y) pm (bx x (inl refl)) (fy y (inl refl))))
    ∙ ap (λ ds. missing n x ∷ ds) (differences_split n m xs xs' [] (y ∷ ys') t pn pm pt (λ z h. bx z (inr h)) by' fx fy
    ∙ ap (λ ds. ds ++ differences_of n xs' m (y ∷ ys')) (only-missing n xs m))
differences_split n m (x ∷ xs) xs' (y ∷ ys) ys' t pn pm pt bx by' fx fy =
    let rest = differences_of n xs' m ys' in
    by_test (is_before (instant n x) (instant m y)) (λ b. cond b (missing n x ∷ differences_of n (xs ++ xs') m (y ∷ (ys ++ ys'))) (cond (is_before (instant m y) (instant n x)) (extra m y ∷ differences_of n (x ∷ (xs ++ xs')) m (ys ++ ys')) (cond (int_eq x.value y.value) (differences_of n (xs ++ xs') m (ys ++ ys')) (other n x y ∷ differences_of n (xs ++ xs') m (ys ++ ys'))))
    ≡ cond b (missing n x ∷ differences_of n xs m (y ∷ ys)) (cond (is_before (instant m y) (instant n x)) (extra m y ∷ differences_of n (x ∷ xs) m ys) (cond (int_eq x.value y.value) (differences_of n xs m ys) (other n x y ∷ differences_of n xs m ys))) ++ rest)
    (λ e. ap (λ ds. missing n x ∷ ds) (differences_split n m xs xs' (y ∷ ys) ys' t pn pm pt (λ z h. bx z (inr h)) by' fx fy))
    (λ e. by_test (is_before (instant m y) (instant n x)) (λ b. cond b (extra m y ∷ differences_of n (x ∷ (xs ++ xs')) m (ys ++ ys')) (cond (int_eq x.value y.value) (differences_of n (xs ++ xs') m (ys ++ ys')) (other n x y ∷ differences_of n (xs ++ xs') m (ys ++ ys')))
    ≡ cond b (extra m y ∷ differences_of n (x ∷ xs) m ys) (cond (int_eq x.value y.value) (differences_of n xs m ys) (other n x y ∷ differences_of n xs m ys)) ++ rest)
    (λ f. ap (λ ds. extra m y ∷ ds) (differences_split n m (x ∷ xs) xs' ys ys' t pn pm pt bx (λ z h. by' z (inr h)) fx fy))
    (λ f. let r = differences_split n m xs xs' ys ys' t pn pm pt (λ z h. bx z (inr h)) (λ z h. by' z (inr h)) fx fy in
    by_test (int_eq x.value y.value) (λ b. cond b (differences_of n (xs ++ xs') m (ys ++ ys')) (other n x y ∷ differences_of n (xs ++ xs') m (ys ++ ys')) ≡ cond b (differences_of n xs m ys) (other n x y ∷ differences_of n xs m ys) ++ rest)
    (λ h. r) (λ h. ap (λ ds. other n x y ∷ ds) r)))

-- ---- stretches

-- the heads of two stretches, and what is behind
pub both_step : (a b : Tally) (x y : Stretch) (i j : ℕ) (found : Option PointDifference) → 2 * i + 1 < length x.bytes.now → 2 * j + 1 < length y.bytes.now
    → found ≡ heads x.den (record { num = x.num +ℤ pos i *ℤ x.step; value = digital_value x.bytes.now i }) y.den (record { num = y.num +ℤ pos j *ℤ y.step; value = digital_value y.bytes.now j })
    → MatchOption found (b ≡ a) (λ d. b ≡ joined a (tally_of (d ∷ [])))
    → joined b (tally_of (all_behind x (i + from_bool (not (lacks_first found))) y (j + from_bool (not (lacks_second found))))) ≡ joined a (tally_of (all_behind x i y j))
unfolding differences_of
both_step a b x y i j found lx ly is more =
    let p : Point = record { num = x.num +ℤ pos i *ℤ x.step; value = digital_value x.bytes.now i } in
    let q : Point = record { num = y.num +ℤ pos j *ℤ y.step; value = digital_value y.bytes.now j } in
    go (is_before (instant x.den p) (instant y.den q)) refl (is_before (instant y.den q) (instant x.den p)) refl (int_eq p.value q.value) refl
  where
    p : Point
    p = record { num = x.num +ℤ pos i *ℤ x.step; value = digital_value x.bytes.now i }

    q : Point
    q = record { num = y.num +ℤ pos j *ℤ y.step; value = digital_value y.bytes.now j }

    px : points_behind x i ≡ p ∷ points_behind x (i + 1)
    px = behind_step x i lx

    py : points_behind y j ≡ q ∷ points_behind y (j + 1)
    py = behind_step y j ly

    Goal : Option PointDifference → Type 0
    Goal o = MatchOption o (b ≡ a) (λ d. b ≡ joined a (tally_of (d ∷ []))) → joined b (tally_of (all_behind x (i + from_bool (not (lacks_first o))) y (j + from_bool (not (lacks_second o))))) ≡ joined a (tally_of (all_behind x i y j))

    all : all_behind x i y j ≡ differences_of x.den (p ∷ points_behind x (i + 1)) y.den (q ∷ points_behind y (j + 1))
    all = ap (λ ps. differences_of x.den ps y.den (points_behind y j)) px ∙ ap (λ qs. differences_of x.den (p ∷ points_behind x (i + 1)) y.den qs) py

    counted_one : (d : PointDifference) (ds : List PointDifference) → b ≡ joined a (tally_of (d ∷ [])) → all_behind x i y j ≡ d ∷ ds → joined b (tally_of ds) ≡ joined a (tally_of (all_behind x i y j))
    counted_one d ds one e = ap (λ t. joined t (tally_of ds)) one ∙ joined_more a d ds ∙ ap (λ es. joined a (tally_of es)) (sym e)

    zero_on : (k : ℕ) → k + 0 ≡ k
    zero_on k = omega arith

    go : (t : Bool) → is_before (instant x.den p) (instant y.den q) ≡ t → (u : Bool) → is_before (instant y.den q) (instant x.den p) ≡ u → (v : Bool) → int_eq p.value q.value ≡ v
        → joined b (tally_of (all_behind x (i + from_bool (not (lacks_first found))) y (j + from_bool (not (lacks_second found))))) ≡ joined a (tally_of (all_behind x i y j))
    go true e u f v h =
        let here : found ≡ Some (missing x.den p) = is ∙ rw e refl in
        subst Goal (sym here) (λ one.
        ap (λ k. joined b (tally_of (all_behind x (i + 1) y k))) (zero_on j)
        ∙ counted_one (missing x.den p) (all_behind x (i + 1) y j) one
        (all ∙ behind-missing x.den p (points_behind x (i + 1)) y.den q (points_behind y (j + 1)) e ∙ ap (λ qs. missing x.den p ∷ differences_of x.den (points_behind x (i + 1)) y.den qs) (sym py))) more
    go false e true f v h =
        let here : found ≡ Some (extra y.den q) = is ∙ rw (e, f) refl in
        subst Goal (sym here) (λ one.
        ap (λ k. joined b (tally_of (all_behind x k y (j + 1)))) (zero_on i)
        ∙ counted_one (extra y.den q) (all_behind x i y (j + 1)) one
        (all ∙ behind-extra x.den p (points_behind x (i + 1)) y.den q (points_behind y (j + 1)) e f ∙ ap (λ ps. extra y.den q ∷ differences_of x.den ps y.den (points_behind y (j + 1))) (sym px))) more
    go false e false f true h =
        let here : found ≡ None = is ∙ rw (e, f, h) refl in
        subst Goal (sym here) (λ same.
        ap (λ t. joined t (tally_of (all_behind x (i + 1) y (j + 1)))) same
        ∙ ap (λ ds. joined a (tally_of ds)) (sym (all ∙ behind-same x.den p (points_behind x (i + 1)) y.den q (points_behind y (j + 1)) e f h))) more
    go false e false f false h =
        let here : found ≡ Some (other x.den p q) = is ∙ rw (e, f, h) refl in
        subst Goal (sym here) (λ one.
        counted_one (other x.den p q) (all_behind x (i + 1) y (j + 1)) one
        (all ∙ behind-other x.den p (points_behind x (i + 1)) y.den q (points_behind y (j + 1)) e f h)) more

-- where one of two stretches has no more, what is left of both is what is left of the one and then of the other
pub ends_apart : (x y : Stretch) (i j : ℕ) → (length x.bytes.now ≤ 2 * i + 1) ⊎ (length y.bytes.now ≤ 2 * j + 1) → each_is Missing x i ++ each_is Extra y j ≡ all_behind x i y j
unfolding differences_of
ends_apart x y i j (inl e) =
    ap (λ ps. map (missing x.den) ps ++ each_is Extra y j) (behind-end x i e) ∙ sym (ap (λ ps. differences_of x.den ps y.den (points_behind y j)) (behind-end x i e))
ends_apart x y i j (inr e) =
    ap (λ qs. each_is Missing x i ++ map (extra y.den) qs) (behind-end y j e) ∙ append-nil (each_is Missing x i)
    ∙ sym (ap (λ qs. differences_of x.den (points_behind x i) y.den qs) (behind-end y j e) ∙ only-missing x.den (points_behind x i) y.den)

-- both, counted one after the other
pub both_counted : (a b c d : Tally) (x y : Stretch) (i j : ℕ) → (length x.bytes.now ≤ 2 * i + 1) ⊎ (length y.bytes.now ≤ 2 * j + 1)
    → joined b (tally_of (all_behind x i y j)) ≡ joined a (tally_of (all_behind x 0 y 0)) → c ≡ joined b (tally_of (each_is Missing x i)) → d ≡ joined c (tally_of (each_is Extra y j))
    → d ≡ joined a (tally_of (differences_of x.den (points_in x) y.den (points_in y)))
both_counted a b c d x y i j over front first second =
    second ∙ ap (λ t. joined t (tally_of (each_is Extra y j))) first
    ∙ joined_twice b (each_is Missing x i) (each_is Extra y j)
    ∙ ap (λ ds. joined b (tally_of ds)) (ends_apart x y i j over)
    ∙ front
    ∙ ap (λ ps. joined a (tally_of (differences_of x.den ps y.den (points_behind y 0)))) (behind_zero x)
    ∙ ap (λ qs. joined a (tally_of (differences_of x.den (points_in x) y.den qs))) (behind_zero y)
