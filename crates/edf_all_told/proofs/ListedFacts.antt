-- The differences of two rising lists of samples, read from the left, are all of them, each once and in order.
use Rattle.std.proofs.Common.{◌≡◌, ◌≢◌, ◌⊎◌, ℕ, ◌<◌, ℤ, List, [], ◌∷◌, map, inl, inr, refl, sym, ap, ◌∙◌, subst}
use Rattle.std.proofs.lemmas.Bool.Decides.{Decides-int_eq}
use Rattle.std.proofs.lemmas.Bool.{false≢true}
use Rattle.std.specs.Ordering.{int_eq}
use Rattle.edf_fields.specs.Lists.{Has}
use Rattle.edf_stream.specs.declared.times.instant.Instant.{Instant}
use Rattle.edf_stream.specs.times.Instants.{IsSame}
use Rattle.edf_verdict.specs.declared.verdict.SampleMismatch.{SampleMismatch}
use Rattle.edf_verdict.specs.declared.verdict.SampleMismatch.TheVariants.{Missing, Extra, Value}
use Rattle.edf_samples.specs.declared.difference.PointDifference.{PointDifference}
use Rattle.edf_samples.specs.declared.point.Point.{Point}
use Rattle.edf_samples.specs.Differences.{instant, missing, extra, other}
use Rattle.edf_samples.specs.InstantOrder.{IsBefore, is_before}
use Rattle.edf_samples.specs.Tallies.{differences_of}
use Rattle.edf_samples.proofs.ForCallers.{After, Differ, IsAscending, after_head, apart, both_same, differ_after, is_before-false, is_before-true, none_at, none_rest, none_with_head, rest_after, rest_differ, same_back, same_before, same_through, tested, value_cases, weaker_value, whole_differ}
use Rattle.edf_all_told.specs.Told.{DoRise}

-- the differences of two lists are these
pub record AreListed (n : ℕ) (xs : List Point) (m : ℕ) (ys : List Point) (ds : List PointDifference) : Type 0 where
  pub each : (d : PointDifference) → Has ds d → (0 < d.at.den) × Differ n xs m ys d.at d.mismatch
  pub every : (t : Instant) (k : SampleMismatch) → 0 < t.den → Differ n xs m ys t k → (d : PointDifference) × Has ds d × IsSame d.at t × (d.mismatch ≡ k)
  pub rise : DoRise ds

-- a difference that is before all of two lists, and those of these, are those of the lists from which it was taken
one-more : (n : ℕ) (xs rest : List Point) (m : ℕ) (ys behind : List Point) (d : PointDifference) (ds : List PointDifference) → 0 < d.at.den → Differ n xs m ys d.at d.mismatch → After n rest d.at → After m behind d.at
    → ((t : Instant) (k : SampleMismatch) → IsBefore d.at t → Differ n rest m behind t k → Differ n xs m ys t k)
    → ((t : Instant) (k : SampleMismatch) → 0 < t.den → Differ n xs m ys t k → (IsSame d.at t × (d.mismatch ≡ k)) ⊎ Differ n rest m behind t k)
    → AreListed n rest m behind ds → AreListed n xs m ys (d ∷ ds)
one-more n xs rest m ys behind d ds pd is ax ay up down l = record {
  each = λ e h. here e h;
  every = λ t k pt x. there t k (down t k pt x) pt;
  rise = (later, l.rise);
}
  where
    later : (e : PointDifference) → Has ds e → IsBefore d.at e.at
    later e i = differ_after n rest m behind e.at d.at e.mismatch pd (l.each e i).0 ax ay (l.each e i).1

    here : (e : PointDifference) → Has (d ∷ ds) e → (0 < e.at.den) × Differ n xs m ys e.at e.mismatch
    here e (inl same) = subst (λ (z : PointDifference). (0 < z.at.den) × Differ n xs m ys z.at z.mismatch) same (pd, is)
    here e (inr i) = ((l.each e i).0, up e.at e.mismatch (later e i) (l.each e i).1)

    there : (t : Instant) (k : SampleMismatch) → (IsSame d.at t × (d.mismatch ≡ k)) ⊎ Differ n rest m behind t k → 0 < t.den → (e : PointDifference) × Has (d ∷ ds) e × IsSame e.at t × (e.mismatch ≡ k)
    there t k (inl same) pt = (d, inl refl, same.0, same.1)
    there t k (inr x) pt = let r = l.every t k pt x in (r.0, inr r.1, r.2, r.3)

-- a head of the first list that is before all of the second
one-missing : (n : ℕ) (x : Point) (xs : List Point) (m : ℕ) (ys : List Point) (ds : List PointDifference) → 0 < n → 0 < m → IsAscending (x ∷ xs) → After m ys (instant n x)
    → AreListed n xs m ys ds → AreListed n (x ∷ xs) m ys (missing n x ∷ ds)
one-missing n x xs m ys ds pn pm ax after l =
    one-more n (x ∷ xs) xs m ys ys (missing n x) ds pn ((x.value, (x, inl refl, refl, refl)), none_at m ys (instant n x) after) (rest_after n x xs pn ax) after up down l
  where
    up : (t : Instant) (k : SampleMismatch) → IsBefore (instant n x) t → Differ n xs m ys t k → Differ n (x ∷ xs) m ys t k
    up t Missing b d = ((d.0.0, weaker_value n x xs t d.0.0 d.0.1), d.1)
    up t Extra b d = (d.0, none_with_head n x xs t b d.1)
    up t (Value v w) b d = (weaker_value n x xs t v d.0, d.1, d.2)

    down : (t : Instant) (k : SampleMismatch) → 0 < t.den → Differ n (x ∷ xs) m ys t k → (IsSame (instant n x) t × (Missing ≡ k)) ⊎ Differ n xs m ys t k
    down t Missing pt d = value_cases n x xs t d.0.0 d.0.1 (λ s e. inl (s, refl)) (λ h. inr ((d.0.0, h), d.1))
    down t Extra pt d = inr (d.0, none_rest n x xs t d.1)
    down t (Value v w) pt d = value_cases n x xs t v d.0 (λ s e. apart m ys (instant n x) t w pm pt after s d.1) (λ h. inr (h, d.1, d.2))

-- a head of the second list that is before all of the first
one-extra : (n : ℕ) (xs : List Point) (m : ℕ) (y : Point) (ys : List Point) (ds : List PointDifference) → 0 < n → 0 < m → IsAscending (y ∷ ys) → After n xs (instant m y)
    → AreListed n xs m ys ds → AreListed n xs m (y ∷ ys) (extra m y ∷ ds)
one-extra n xs m y ys ds pn pm ay after l =
    one-more n xs xs m (y ∷ ys) ys (extra m y) ds pm ((y.value, (y, inl refl, refl, refl)), none_at n xs (instant m y) after) after (rest_after m y ys pm ay) up down l
  where
    up : (t : Instant) (k : SampleMismatch) → IsBefore (instant m y) t → Differ n xs m ys t k → Differ n xs m (y ∷ ys) t k
    up t Missing b d = (d.0, none_with_head m y ys t b d.1)
    up t Extra b d = ((d.0.0, weaker_value m y ys t d.0.0 d.0.1), d.1)
    up t (Value v w) b d = (d.0, weaker_value m y ys t w d.1, d.2)

    down : (t : Instant) (k : SampleMismatch) → 0 < t.den → Differ n xs m (y ∷ ys) t k → (IsSame (instant m y) t × (Extra ≡ k)) ⊎ Differ n xs m ys t k
    down t Missing pt d = inr (d.0, none_rest m y ys t d.1)
    down t Extra pt d = value_cases m y ys t d.0.0 d.0.1 (λ s e. inl (s, refl)) (λ h. inr ((d.0.0, h), d.1))
    down t (Value v w) pt d = value_cases m y ys t w d.1 (λ s e. apart n xs (instant m y) t v pn pt after s d.0) (λ h. inr (d.0, h, d.2))

-- two heads at one instant, with the same value
both-same : (n : ℕ) (x : Point) (xs : List Point) (m : ℕ) (y : Point) (ys : List Point) (ds : List PointDifference) → 0 < n → 0 < m → IsAscending (x ∷ xs) → IsAscending (y ∷ ys)
    → IsSame (instant n x) (instant m y) → x.value ≡ y.value → AreListed n xs m ys ds → AreListed n (x ∷ xs) m (y ∷ ys) ds
both-same n x xs m y ys ds pn pm ax ay s e l = record {
  each = λ d i. ((l.each d i).0, whole_differ n x xs m y ys d.at d.mismatch (first d i) (second d i) (l.each d i).1);
  every = λ t k pt d. l.every t k pt (rest_differ n x xs m y ys t k pn pm pt (rest_after n x xs pn ax) (rest_after m y ys pm ay) s e d);
  rise = l.rise;
}
  where
    first : (d : PointDifference) → Has ds d → IsBefore (instant n x) d.at
    first d i = differ_after n xs m ys d.at (instant n x) d.mismatch pn (l.each d i).0 (rest_after n x xs pn ax) (λ z h. same_before (instant n x) (instant m y) (instant m z) pn s (rest_after m y ys pm ay z h)) (l.each d i).1

    second : (d : PointDifference) → Has ds d → IsBefore (instant m y) d.at
    second d i = same_before (instant m y) (instant n x) d.at pm (same_back (instant n x) (instant m y) s) (first d i)

-- two heads at one instant, with other values
both-other : (n : ℕ) (x : Point) (xs : List Point) (m : ℕ) (y : Point) (ys : List Point) (ds : List PointDifference) → 0 < n → 0 < m → IsAscending (x ∷ xs) → IsAscending (y ∷ ys)
    → IsSame (instant n x) (instant m y) → x.value ≢ y.value → AreListed n xs m ys ds → AreListed n (x ∷ xs) m (y ∷ ys) (other n x y ∷ ds)
both-other n x xs m y ys ds pn pm ax ay s e l =
    one-more n (x ∷ xs) xs m (y ∷ ys) ys (other n x y) ds pn ((x, inl refl, refl, refl), (y, inl refl, back, refl), e) rx (λ z h. same_before (instant n x) (instant m y) (instant m z) pn s (ry z h)) up down l
  where
    back : IsSame (instant m y) (instant n x)
    back = same_back (instant n x) (instant m y) s

    rx : After n xs (instant n x)
    rx = rest_after n x xs pn ax

    ry : After m ys (instant m y)
    ry = rest_after m y ys pm ay

    up : (t : Instant) (k : SampleMismatch) → IsBefore (instant n x) t → Differ n xs m ys t k → Differ n (x ∷ xs) m (y ∷ ys) t k
    up t k b d = whole_differ n x xs m y ys t k b (same_before (instant m y) (instant n x) t pm back b) d

    values : (v w : ℤ) → x.value ≡ v → y.value ≡ w → Value x.value y.value ≡ Value v w
    values v w f g = ap (λ z. Value z y.value) f ∙ ap (λ z. Value v z) g

    down : (t : Instant) (k : SampleMismatch) → 0 < t.den → Differ n (x ∷ xs) m (y ∷ ys) t k → (IsSame (instant n x) t × (Value x.value y.value ≡ k)) ⊎ Differ n xs m ys t k
    down t Missing pt d = value_cases n x xs t d.0.0 d.0.1 (λ f g. absurd (d.1 y (inl refl) (same_through (instant m y) (instant n x) t pm pn pt back f))) (λ h. inr ((d.0.0, h), none_rest m y ys t d.1))
    down t Extra pt d = value_cases m y ys t d.0.0 d.0.1 (λ f g. absurd (d.1 x (inl refl) (same_through (instant n x) (instant m y) t pn pm pt s f))) (λ h. inr ((d.0.0, h), none_rest n x xs t d.1))
    down t (Value v w) pt d =
        value_cases n x xs t v d.0
        (λ f g. value_cases m y ys t w d.1
        (λ f' g'. inl (f, values v w g g'))
        (λ h. apart m ys (instant m y) t w pm pt ry (same_through (instant m y) (instant n x) t pm pn pt back f) h))
        (λ h. value_cases m y ys t w d.1
        (λ f' g'. apart n xs (instant n x) t v pn pt rx (same_through (instant n x) (instant m y) t pn pm pt s f') h)
        (λ h'. inr (h, h', d.2)))

-- nothing stands in no list
none-listed : (n m : ℕ) → AreListed n [] m [] []
none-listed n m = record { each = λ d i. absurd i; every = λ t k pt d. absurd (none t k d); rise = tt }
  where
    none : (t : Instant) (k : SampleMismatch) → Differ n [] m [] t k → ⊥
    none t Missing d = d.0.1.1
    none t Extra d = d.0.1.1
    none t (Value v w) d = d.0.1

all-missing : (n : ℕ) (xs : List Point) (m : ℕ) → 0 < n → 0 < m → IsAscending xs → AreListed n xs m [] (map (missing n) xs)
all-missing n [] m pn pm ax = none-listed n m
all-missing n (x ∷ xs) m pn pm ax = one-missing n x xs m [] (map (missing n) xs) pn pm ax (λ z h. absurd h) (all-missing n xs m pn pm ax.1)

all-extra : (n m : ℕ) (ys : List Point) → 0 < n → 0 < m → IsAscending ys → AreListed n [] m ys (map (extra m) ys)
all-extra n m [] pn pm ay = none-listed n m
all-extra n m (y ∷ ys) pn pm ay = one-extra n [] m y ys (map (extra m) ys) pn pm ay (λ z h. absurd h) (all-extra n m ys pn pm ay.1)

-- what two lists with heads differ in, by cases
listed-cases : (n : ℕ) (x : Point) (xs : List Point) (m : ℕ) (y : Point) (ys : List Point) (Q : List PointDifference → Type 0)
    → (IsBefore (instant n x) (instant m y) → Q (missing n x ∷ differences_of n xs m (y ∷ ys)))
    → (IsBefore (instant m y) (instant n x) → Q (extra m y ∷ differences_of n (x ∷ xs) m ys))
    → (IsSame (instant n x) (instant m y) → x.value ≡ y.value → Q (differences_of n xs m ys))
    → (IsSame (instant n x) (instant m y) → x.value ≢ y.value → Q (other n x y ∷ differences_of n xs m ys))
    → Q (differences_of n (x ∷ xs) m (y ∷ ys))
unfolding differences_of
listed-cases n x xs m y ys Q first second same differs =
    tested (is_before (instant n x) (instant m y)) _ _ Q
    (λ e. first (is_before-true (instant n x) (instant m y) e))
    (λ e. tested (is_before (instant m y) (instant n x)) _ _ Q
    (λ f. second (is_before-true (instant m y) (instant n x) f))
    (λ f. let s : IsSame (instant n x) (instant m y) = both_same (instant n x) (instant m y) (is_before-false (instant n x) (instant m y) e) (is_before-false (instant m y) (instant n x) f) in
    tested (int_eq x.value y.value) _ _ Q
    (λ g. same s ((Decides-int_eq x.value y.value).0 g))
    (λ g. differs s (λ v. false≢true (sym g ∙ (Decides-int_eq x.value y.value).1 v)))))

pub all_listed : (n : ℕ) (xs : List Point) (m : ℕ) (ys : List Point) → 0 < n → 0 < m → IsAscending xs → IsAscending ys → AreListed n xs m ys (differences_of n xs m ys)
unfolding differences_of
all_listed n [] m ys pn pm ax ay = all-extra n m ys pn pm ay
all_listed n (x ∷ xs) m [] pn pm ax ay = all-missing n (x ∷ xs) m pn pm ax
all_listed n (x ∷ xs) m (y ∷ ys) pn pm ax ay =
    listed-cases n x xs m y ys (AreListed n (x ∷ xs) m (y ∷ ys))
    (λ b. one-missing n x xs m (y ∷ ys) (differences_of n xs m (y ∷ ys)) pn pm ax (after_head m y ys (instant n x) pm ay b) (all_listed n xs m (y ∷ ys) pn pm ax.1 ay))
    (λ b. one-extra n (x ∷ xs) m y ys (differences_of n (x ∷ xs) m ys) pn pm ay (after_head n x xs (instant m y) pn ax b) (all_listed n (x ∷ xs) m ys pn pm ax ay.1))
    (λ s e. both-same n x xs m y ys (differences_of n xs m ys) pn pm ax ay s e (all_listed n xs m ys pn pm ax.1 ay.1))
    (λ s e. both-other n x xs m y ys (differences_of n xs m ys) pn pm ax ay s e (all_listed n xs m ys pn pm ax.1 ay.1))
