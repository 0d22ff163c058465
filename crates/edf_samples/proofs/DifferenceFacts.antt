-- The difference read from the left is the least one.
use Rattle.std.proofs.Common.{◌≡◌, ◌≢◌, ℕ, ◌<◌, Bool, true, false, cond, ℤ, List, [], ◌∷◌, ◌++◌, Option, Some, None, inl, inr, ⊎_elim, refl, sym, ap, ◌∙◌, subst, MatchOption, IfSome, ◌<ℤ◌}
use Rattle.std.proofs.lemmas.Bool.Decides.{Decides-int_eq}
use Rattle.std.proofs.lemmas.Bool.{false≢true}
use Rattle.std.specs.Option.{option_or}
use Rattle.std.specs.Ordering.{int_eq}
use Rattle.edf_stream.specs.declared.times.instant.Instant.{Instant}
use Rattle.edf_samples.specs.declared.point.Point.{Point}
use Rattle.edf_verdict.specs.declared.verdict.SampleMismatch.{SampleMismatch}
use Rattle.edf_verdict.specs.declared.verdict.SampleMismatch.TheVariants.{Missing, Extra, Value}
use Rattle.edf_samples.specs.declared.difference.PointDifference.{PointDifference}
use Rattle.edf_stream.specs.times.Instants.{IsSame}
use Rattle.edf_stream.specs.times.InstantOrder.{IsNotBefore}
use Rattle.edf_samples.specs.InstantOrder.{IsBefore, is_before}
use Rattle.edf_fields.specs.Lists.{Has}
use Rattle.edf_samples.specs.Differences.{instant, first_difference_of, missing, extra, other, heads}
use Rattle.edf_samples.proofs.FractionFacts.{before-not_before, same_below, same_above, before_below, before_same, before_same_back, is_before-true, is_before-false, true-is_before, false-is_before, both_same, before_over, same_through, same_before, same_back, self_above}

-- each numerator is below all that follow it
abbrev pub IsAscending : List Point → Type 0
IsAscending [] = Unit {0}
IsAscending (x ∷ xs) = ((y : Point) → Has xs y → x.num <ℤ y.num) × IsAscending xs

-- there is a sample with this value at this instant
abbrev pub HasValue : ℕ → List Point → Instant → ℤ → Type 0
HasValue n xs t v = (x : Point) × Has xs x × IsSame (instant n x) t × (x.value ≡ v)

-- there is no sample at this instant
abbrev HasNone : ℕ → List Point → Instant → Type 0
HasNone n xs t = (x : Point) → Has xs x → IsSame (instant n x) t → ⊥

-- each sample of the first list has a partner in the second: at the same instant, of the same value
abbrev AreIn : ℕ → List Point → ℕ → List Point → Type 0
AreIn n xs m ys = (x : Point) → Has xs x → HasValue m ys (instant n x) x.value

-- the same in both directions
abbrev pub Match : ℕ → List Point → ℕ → List Point → Type 0
Match n xs m ys = AreIn n xs m ys × AreIn m ys n xs

-- what the two lists have at an instant
abbrev pub Differ : ℕ → List Point → ℕ → List Point → Instant → SampleMismatch → Type 0
Differ n xs m ys t Missing = ((v : ℤ) × HasValue n xs t v) × HasNone m ys t
Differ n xs m ys t Extra = ((w : ℤ) × HasValue m ys t w) × HasNone n xs t
Differ n xs m ys t (Value v w) = HasValue n xs t v × HasValue m ys t w × (v ≢ w)

-- a difference, and the instant at which it is
abbrev IsDifference : ℕ → List Point → ℕ → List Point → PointDifference → Type 0
IsDifference n xs m ys d = (0 < d.at.den) × Differ n xs m ys d.at d.mismatch

-- a difference, and none is before it
abbrev pub IsLeastDifference : ℕ → List Point → ℕ → List Point → PointDifference → Type 0
IsLeastDifference n xs m ys d = IsDifference n xs m ys d × ((e : PointDifference) → IsDifference n xs m ys e → IsBefore e.at d.at → ⊥)

-- each member is before t
abbrev pub AreBefore : ℕ → List Point → Instant → Type 0
AreBefore n xs t = (x : Point) → Has xs x → IsBefore (instant n x) t

-- no member is before t
abbrev pub AreFrom : ℕ → List Point → Instant → Type 0
AreFrom n xs t = (x : Point) → Has xs x → IsNotBefore (instant n x) t

-- what a test gives, by its two cases
pub tested : {X : Type 0} (b : Bool) (u v : X) (Q : X → Type 0) → (b ≡ true → Q u) → (b ≡ false → Q v) → Q (cond b u v)
tested true u v Q f g = f refl
tested false u v Q f g = g refl

pub difference_cases : (n : ℕ) (x : Point) (xs : List Point) (m : ℕ) (y : Point) (ys : List Point) (Q : Option PointDifference → Type 0) →
    (IsBefore (instant n x) (instant m y) → Q (Some (missing n x))) →
    (IsBefore (instant m y) (instant n x) → Q (Some (extra m y))) →
    (IsSame (instant n x) (instant m y) → x.value ≡ y.value → Q (first_difference_of n xs m ys)) →
    (IsSame (instant n x) (instant m y) → x.value ≢ y.value → Q (Some (other n x y))) →
    Q (first_difference_of n (x ∷ xs) m (y ∷ ys))
difference_cases n x xs m y ys Q first second same differs =
    let R : Option PointDifference → Type 0 = λ o. Q (option_or o (first_difference_of n xs m ys)) in
    tested (is_before (instant n x) (instant m y)) _ _ R
    (λ e. first (is_before-true (instant n x) (instant m y) e))
    (λ e. tested (is_before (instant m y) (instant n x)) _ _ R
    (λ f. second (is_before-true (instant m y) (instant n x) f))
    (λ f. let s : IsSame (instant n x) (instant m y) = both_same (instant n x) (instant m y) (is_before-false (instant n x) (instant m y) e) (is_before-false (instant m y) (instant n x) f) in
    tested (int_eq x.value y.value) _ _ R
    (λ g. same s ((Decides-int_eq x.value y.value).0 g))
    (λ g. differs s (λ v. false≢true (sym g ∙ (Decides-int_eq x.value y.value).1 v)))))

-- each member of the list is after t
abbrev pub After : ℕ → List Point → Instant → Type 0
After n xs t = (x : Point) → Has xs x → IsBefore t (instant n x)

pub rest_after : (n : ℕ) (x : Point) (xs : List Point) → 0 < n → IsAscending (x ∷ xs) → After n xs (instant n x)
rest_after n x xs pn a y h = before_over x.num y.num n pn (a.0 y h)

-- the head and the rest, from the rest
pub with_head : (n : ℕ) (x : Point) (xs : List Point) (t : Instant) → IsNotBefore (instant n x) t → AreFrom n xs t → AreFrom n (x ∷ xs) t
with_head n x xs t h rest y i = ⊎_elim (λ e. let P : Point → Type 0 = λ z. IsNotBefore (instant n z) t in subst P e h) (λ j. rest y j) i

pub head_above : (n : ℕ) (x : Point) (xs : List Point) → 0 < n → IsAscending (x ∷ xs) → AreFrom n (x ∷ xs) (instant n x)
head_above n x xs pn a = with_head n x xs (instant n x) (self_above (instant n x)) (λ y h. before_below (instant n x) (instant n y) (rest_after n x xs pn a y h))

-- what is before the head is before all
pub after_head : (n : ℕ) (x : Point) (xs : List Point) (t : Instant) → 0 < n → IsAscending (x ∷ xs) → IsBefore t (instant n x) → After n (x ∷ xs) t
after_head n x xs t pn a b y h = before-not_before t (instant n x) (instant n y) pn b (head_above n x xs pn a y h)

after-above : (n : ℕ) (xs : List Point) (t : Instant) → After n xs t → AreFrom n xs t
after-above n xs t a y h = before_below t (instant n y) (a y h)

-- nothing stands at t where all is after t
pub none_at : (n : ℕ) (xs : List Point) (t : Instant) → After n xs t → HasNone n xs t
none_at n xs t a x h s = before_same_back t (instant n x) (a x h) s

-- a value at t is not before s where the list is not
value_above : (n : ℕ) (xs : List Point) (t s : Instant) (v : ℤ) → 0 < n → AreFrom n xs s → HasValue n xs t v → IsBefore t s → ⊥
value_above n xs t s v pn a h b =
    before_same_back t (instant n h.0) (before-not_before t s (instant n h.0) pn b (a h.0 h.1)) h.2

differ_above : (n : ℕ) (xs : List Point) (m : ℕ) (ys : List Point) (t s : Instant) (k : SampleMismatch) → 0 < n → 0 < m → AreFrom n xs s → AreFrom m ys s → Differ n xs m ys t k → IsBefore t s → ⊥
differ_above n xs m ys t s Missing pn pm ax ay d b = value_above n xs t s d.0.0 pn ax d.0.1 b
differ_above n xs m ys t s Extra pn pm ax ay d b = value_above m ys t s d.0.0 pm ay d.0.1 b
differ_above n xs m ys t s (Value v w) pn pm ax ay d b = value_above n xs t s v pn ax d.0 b

-- a difference where all is not before it is the least
least_here : (n : ℕ) (xs : List Point) (m : ℕ) (ys : List Point) (d : PointDifference) → 0 < n → 0 < m → IsDifference n xs m ys d → AreFrom n xs d.at → AreFrom m ys d.at → IsLeastDifference n xs m ys d
least_here n xs m ys d pn pm i ax ay = (i, λ e j b. differ_above n xs m ys e.at d.at e.mismatch pn pm ax ay j.1 b)

pub weaker_value : (n : ℕ) (x : Point) (xs : List Point) (t : Instant) (v : ℤ) → HasValue n xs t v → HasValue n (x ∷ xs) t v
weaker_value n x xs t v h = (h.0, inr h.1, h.2, h.3)

-- nothing stands at t in a list whose head is before t
pub none_with_head : (n : ℕ) (x : Point) (xs : List Point) (t : Instant) → IsBefore (instant n x) t → HasNone n xs t → HasNone n (x ∷ xs) t
none_with_head n x xs t b none y i s =
    ⊎_elim (λ e. let P : Point → Type 0 = λ z. IsBefore (instant n z) t in before_same (instant n y) t (subst P e b) s) (λ j. none y j s) i

pub none_rest : (n : ℕ) (x : Point) (xs : List Point) (t : Instant) → HasNone n (x ∷ xs) t → HasNone n xs t
none_rest n x xs t none y h s = none y (inr h) s

-- a value of the rest stands after the head
value_after : (n : ℕ) (xs : List Point) (t s : Instant) (v : ℤ) → 0 < s.den → 0 < t.den → After n xs s → HasValue n xs t v → IsBefore s t
value_after n xs t s v ps pt a h = before-not_before s (instant n h.0) t pt (a h.0 h.1) (same_below (instant n h.0) t h.2)

pub differ_after : (n : ℕ) (xs : List Point) (m : ℕ) (ys : List Point) (t s : Instant) (k : SampleMismatch) → 0 < s.den → 0 < t.den → After n xs s → After m ys s → Differ n xs m ys t k → IsBefore s t
differ_after n xs m ys t s Missing ps pt ax ay d = value_after n xs t s d.0.0 ps pt ax d.0.1
differ_after n xs m ys t s Extra ps pt ax ay d = value_after m ys t s d.0.0 ps pt ay d.0.1
differ_after n xs m ys t s (Value v w) ps pt ax ay d = value_after n xs t s v ps pt ax d.0

-- a difference of the rests is one of the wholes, where the heads are the same
pub whole_differ : (n : ℕ) (x : Point) (xs : List Point) (m : ℕ) (y : Point) (ys : List Point) (t : Instant) (k : SampleMismatch) →
    IsBefore (instant n x) t → IsBefore (instant m y) t → Differ n xs m ys t k → Differ n (x ∷ xs) m (y ∷ ys) t k
whole_differ n x xs m y ys t Missing bx by' d = ((d.0.0, weaker_value n x xs t d.0.0 d.0.1), none_with_head m y ys t by' d.1)
whole_differ n x xs m y ys t Extra bx by' d = ((d.0.0, weaker_value m y ys t d.0.0 d.0.1), none_with_head n x xs t bx d.1)
whole_differ n x xs m y ys t (Value v w) bx by' d = (weaker_value n x xs t v d.0, weaker_value m y ys t w d.1, d.2)

-- a value of the whole is the head's, or one of the rest
pub value_cases : {P : Type 0} (n : ℕ) (x : Point) (xs : List Point) (t : Instant) (v : ℤ) → HasValue n (x ∷ xs) t v → (IsSame (instant n x) t → x.value ≡ v → P) → (HasValue n xs t v → P) → P
value_cases n x xs t v h here rest =
    ⊎_elim
    (λ e. let Q : Point → Type 0 = λ z. IsSame (instant n z) t in
    here (subst Q (sym e) h.2) (ap (λ (z : Point). z.value) e ∙ h.3))
    (λ j. rest (h.0, j, h.2, h.3)) h.1

-- where the heads are the same, a value of the one rest can't stand at the other's head
pub apart : {P : Type 0} (n : ℕ) (xs : List Point) (s t : Instant) (v : ℤ) → 0 < n → 0 < t.den → After n xs s → IsSame s t → HasValue n xs t v → P
apart n xs s t v pn pt a e h =
    absurd (before_same s t (before-not_before s (instant n h.0) t pt (a h.0 h.1) (same_below (instant n h.0) t h.2)) e)

-- a difference of the wholes is one of the rests, where the heads are the same and of one value
pub rest_differ : (n : ℕ) (x : Point) (xs : List Point) (m : ℕ) (y : Point) (ys : List Point) (t : Instant) (k : SampleMismatch) → 0 < n → 0 < m → 0 < t.den →
    After n xs (instant n x) → After m ys (instant m y) → IsSame (instant n x) (instant m y) → x.value ≡ y.value →
    Differ n (x ∷ xs) m (y ∷ ys) t k → Differ n xs m ys t k
rest_differ n x xs m y ys t Missing pn pm pt ax ay s e d =
    value_cases n x xs t d.0.0 d.0.1
    (λ f g. absurd (d.1 y (inl refl) (same_through (instant m y) (instant n x) t pm pn pt (same_back (instant n x) (instant m y) s) f)))
    (λ h. ((d.0.0, h), none_rest m y ys t d.1))
rest_differ n x xs m y ys t Extra pn pm pt ax ay s e d =
    value_cases m y ys t d.0.0 d.0.1
    (λ f g. absurd (d.1 x (inl refl) (same_through (instant n x) (instant m y) t pn pm pt s f)))
    (λ h. ((d.0.0, h), none_rest n x xs t d.1))
rest_differ n x xs m y ys t (Value v w) pn pm pt ax ay s e d =
    value_cases n x xs t v d.0
    (λ f g. value_cases m y ys t w d.1
    (λ f' g'. absurd (d.2 (sym g ∙ (e ∙ g'))))
    (λ h. apart m ys (instant m y) t w pm pt ay (same_through (instant m y) (instant n x) t pm pn pt (same_back (instant n x) (instant m y) s) f) h))
    (λ h. value_cases m y ys t w d.1
    (λ f' g'. apart n xs (instant n x) t v pn pt ax (same_through (instant n x) (instant m y) t pn pm pt s f') h)
    (λ h'. (h, h', d.2)))

least_whole : (n : ℕ) (x : Point) (xs : List Point) (m : ℕ) (y : Point) (ys : List Point) → 0 < n → 0 < m →
    IsAscending (x ∷ xs) → IsAscending (y ∷ ys) → IsSame (instant n x) (instant m y) → x.value ≡ y.value →
    (d : PointDifference) → IsLeastDifference n xs m ys d → IsLeastDifference n (x ∷ xs) m (y ∷ ys) d
least_whole n x xs m y ys pn pm ax ay s e d l =
    let rx : After n xs (instant n x) = rest_after n x xs pn ax in
    let ry : After m ys (instant m y) = rest_after m y ys pm ay in
    let ry' : After m ys (instant n x) = λ z h. same_before (instant n x) (instant m y) (instant m z) pn s (ry z h) in
    let rx' : After n xs (instant m y) = λ z h. same_before (instant m y) (instant n x) (instant n z) pm (same_back (instant n x) (instant m y) s) (rx z h) in
    let bx : IsBefore (instant n x) d.at = differ_after n xs m ys d.at (instant n x) d.mismatch pn l.0.0 rx ry' l.0.1 in
    let by' : IsBefore (instant m y) d.at = differ_after n xs m ys d.at (instant m y) d.mismatch pm l.0.0 rx' ry l.0.1 in (
      (l.0.0, whole_differ n x xs m y ys d.at d.mismatch bx by' l.0.1),
      λ f i b. l.1 f (i.0, rest_differ n x xs m y ys f.at f.mismatch pn pm i.0 rx ry s e i.1) b,
    )

-- each sample of the first has a partner, with two heads that are partners before them
are_in-cons : (n : ℕ) (x : Point) (xs : List Point) (m : ℕ) (y : Point) (ys : List Point) → IsSame (instant m y) (instant n x) → y.value ≡ x.value → AreIn n xs m ys → AreIn n (x ∷ xs) m (y ∷ ys)
are_in-cons n x xs m y ys s e rest z h =
    ⊎_elim
    (λ i. let P : Point → Type 0 = λ w. HasValue m (y ∷ ys) (instant n w) w.value in subst P i (y, inl refl, s, e))
    (λ j. weaker_value m y ys (instant n z) z.value (rest z j)) h

match_whole : (n : ℕ) (x : Point) (xs : List Point) (m : ℕ) (y : Point) (ys : List Point) → IsSame (instant n x) (instant m y) → x.value ≡ y.value → Match n xs m ys → Match n (x ∷ xs) m (y ∷ ys)
match_whole n x xs m y ys s e rest = (
  are_in-cons n x xs m y ys (same_back (instant n x) (instant m y) s) (sym e) rest.0,
  are_in-cons m y ys n x xs s e rest.1,
)

mapped : {A : Type 0} (o : Option A) {P Q : Type 0} {F G : A → Type 0} → (P → Q) → ((a : A) → F a → G a) → MatchOption o P F → MatchOption o Q G
mapped None f g h = f h
mapped (Some a) f g h = g a h

empty_above : (n : ℕ) (t : Instant) → AreFrom n [] t
empty_above n t x h = absurd h

-- none where the lists match, else the least difference
pub exact : (n : ℕ) (xs : List Point) (m : ℕ) (ys : List Point) → 0 < n → 0 < m → IsAscending xs → IsAscending ys →
    MatchOption (first_difference_of n xs m ys) (Match n xs m ys) (IsLeastDifference n xs m ys)
exact n [] m [] pn pm ax ay = (λ x h. absurd h, λ y h. absurd h)
exact n [] m (y ∷ ys) pn pm ax ay =
    least_here n [] m (y ∷ ys) (extra m y) pn pm (pm, ((y.value, (y, inl refl, refl, refl)), λ x h s. h)) (empty_above n (instant m y)) (head_above m y ys pm ay)
exact n (x ∷ xs) m [] pn pm ax ay =
    least_here n (x ∷ xs) m [] (missing n x) pn pm (pn, ((x.value, (x, inl refl, refl, refl)), λ y h s. h)) (head_above n x xs pn ax) (empty_above m (instant n x))
exact n (x ∷ xs) m (y ∷ ys) pn pm ax ay =
    difference_cases n x xs m y ys (λ o. MatchOption o (Match n (x ∷ xs) m (y ∷ ys)) (IsLeastDifference n (x ∷ xs) m (y ∷ ys)))
    (λ b. let after = after_head m y ys (instant n x) pm ay b in
    least_here n (x ∷ xs) m (y ∷ ys) (missing n x) pn pm
    (pn, ((x.value, (x, inl refl, refl, refl)), none_at m (y ∷ ys) (instant n x) after))
    (head_above n x xs pn ax) (after-above m (y ∷ ys) (instant n x) after))
    (λ b. let after = after_head n x xs (instant m y) pn ax b in
    least_here n (x ∷ xs) m (y ∷ ys) (extra m y) pn pm
    (pm, ((y.value, (y, inl refl, refl, refl)), none_at n (x ∷ xs) (instant m y) after))
    (after-above n (x ∷ xs) (instant m y) after) (head_above m y ys pm ay))
    (λ s e. mapped (first_difference_of n xs m ys) (match_whole n x xs m y ys s e) (least_whole n x xs m y ys pn pm ax ay s e) (exact n xs m ys pn pm ax.1 ay.1))
    (λ s e. least_here n (x ∷ xs) m (y ∷ ys) (other n x y) pn pm
    (pn, ((x, inl refl, refl, refl), (y, inl refl, same_back (instant n x) (instant m y) s, refl), e))
    (head_above n x xs pn ax)
    (with_head m y ys (instant n x) (same_above (instant m y) (instant n x) (same_back (instant n x) (instant m y) s))
    (λ z h. before_below (instant n x) (instant m z) (same_before (instant n x) (instant m y) (instant m z) pn s (rest_after m y ys pm ay z h)))))

-- two members at one instant are one
one_at : (n : ℕ) (xs : List Point) → 0 < n → IsAscending xs → (x y : Point) → Has xs x → Has xs y → IsSame (instant n x) (instant n y) → x ≡ y
one_at n [] pn a x y h i s = absurd h
one_at n (z ∷ xs) pn a x y (inl h) (inl i) s = sym h ∙ i
one_at n (z ∷ xs) pn a x y (inl h) (inr i) s =
    let P : Point → Type 0 = λ w. IsBefore (instant n w) (instant n y) in
    absurd (before_same (instant n x) (instant n y) (subst P h (rest_after n z xs pn a y i)) s)
one_at n (z ∷ xs) pn a x y (inr h) (inl i) s =
    let P : Point → Type 0 = λ w. IsBefore (instant n w) (instant n x) in
    absurd (before_same_back (instant n y) (instant n x) (subst P i (rest_after n z xs pn a x h)) s)
one_at n (z ∷ xs) pn a x y (inr h) (inr i) s = one_at n xs pn a.1 x y h i s

-- a list has no value at t where the other has none, if each of its members has a partner there
pub partner_at : (n : ℕ) (xs : List Point) (m : ℕ) (ys : List Point) (t : Instant) (v : ℤ) → 0 < n → 0 < m → 0 < t.den → AreIn n xs m ys → HasValue n xs t v → HasValue m ys t v
partner_at n xs m ys t v pn pm pt i h =
    let p : HasValue m ys (instant n h.0) (h.0).value = i h.0 h.1 in
    (p.0, p.1, same_through (instant m p.0) (instant n h.0) t pm pn pt p.2 h.2, p.3 ∙ h.3)

pub match_not_differ : (n : ℕ) (xs : List Point) (m : ℕ) (ys : List Point) (t : Instant) (k : SampleMismatch) → 0 < n → 0 < m → 0 < t.den → IsAscending ys → Match n xs m ys → Differ n xs m ys t k → ⊥
match_not_differ n xs m ys t Missing pn pm pt a i d =
    let p : HasValue m ys t d.0.0 = partner_at n xs m ys t d.0.0 pn pm pt i.0 d.0.1 in d.1 p.0 p.1 p.2
match_not_differ n xs m ys t Extra pn pm pt a i d =
    let p : HasValue n xs t d.0.0 = partner_at m ys n xs t d.0.0 pm pn pt i.1 d.0.1 in d.1 p.0 p.1 p.2
match_not_differ n xs m ys t (Value v w) pn pm pt a i d =
    let p : HasValue m ys t v = partner_at n xs m ys t v pn pm pt i.0 d.0 in
    let q : HasValue m ys t w = d.1 in
    let s : IsSame (instant m p.0) (instant m q.0) = same_through (instant m p.0) t (instant m q.0) pm pt pm p.2 (same_back (instant m q.0) t q.2) in
    d.2 (sym p.3 ∙ (ap (λ (z : Point). z.value) (one_at m ys pm a p.0 q.0 p.1 q.1 s) ∙ q.3))

difference-missing : (n : ℕ) (x : Point) (xs : List Point) (m : ℕ) (y : Point) (ys : List Point) → IsBefore (instant n x) (instant m y) → first_difference_of n (x ∷ xs) m (y ∷ ys) ≡ Some (missing n x)
difference-missing n x xs m y ys b = rw (true-is_before (instant n x) (instant m y) b)

difference-extra : (n : ℕ) (x : Point) (xs : List Point) (m : ℕ) (y : Point) (ys : List Point) → IsBefore (instant m y) (instant n x) → first_difference_of n (x ∷ xs) m (y ∷ ys) ≡ Some (extra m y)
difference-extra n x xs m y ys b = rw (false-is_before (instant n x) (instant m y) (before_below (instant m y) (instant n x) b), true-is_before (instant m y) (instant n x) b)

pub or_assoc : {A : Type 0} (a b c : Option A) → option_or a (option_or b c) ≡ option_or (option_or a b) c
or_assoc None b c = refl
or_assoc (Some x) b c = refl

pub difference_splits : (n m : ℕ) (xs xs' ys ys' : List Point) (t : Instant) → 0 < n → 0 < m → 0 < t.den → AreBefore n xs t → AreBefore m ys t → AreFrom n xs' t → AreFrom m ys' t →
    first_difference_of n (xs ++ xs') m (ys ++ ys') ≡ option_or (first_difference_of n xs m ys) (first_difference_of n xs' m ys')
difference_splits n m [] xs' [] ys' t pn pm pt bx by' fx fy = refl
difference_splits n m [] [] (y ∷ ys) ys' t pn pm pt bx by' fx fy = refl
difference_splits n m [] (x ∷ xs') (y ∷ ys) ys' t pn pm pt bx by' fx fy =
    difference-extra n x xs' m y (ys ++ ys') (before-not_before (instant m y) t (instant n x) pn (by' y (inl refl)) (fx x (inl refl)))
difference_splits n m (x ∷ xs) xs' [] [] t pn pm pt bx by' fx fy = refl
difference_splits n m (x ∷ xs) xs' [] (y ∷ ys') t pn pm pt bx by' fx fy =
    difference-missing n x (xs ++ xs') m y ys' (before-not_before (instant n x) t (instant m y) pm (bx x (inl refl)) (fy y (inl refl)))
difference_splits n m (x ∷ xs) xs' (y ∷ ys) ys' t pn pm pt bx by' fx fy =
    ap (option_or (heads n x m y)) (difference_splits n m xs xs' ys ys' t pn pm pt (λ z h. bx z (inr h)) (λ z h. by' z (inr h)) fx fy)
    ∙ or_assoc (heads n x m y) (first_difference_of n xs m ys) (first_difference_of n xs' m ys')

-- the difference of what is before t is before t
pub difference-before : (n : ℕ) (xs : List Point) (m : ℕ) (ys : List Point) (t : Instant) → AreBefore n xs t → AreBefore m ys t → IfSome (first_difference_of n xs m ys) (λ d. IsBefore d.at t)
difference-before n [] m [] t bx by' = tt
difference-before n [] m (y ∷ ys) t bx by' = by' y (inl refl)
difference-before n (x ∷ xs) m [] t bx by' = bx x (inl refl)
difference-before n (x ∷ xs) m (y ∷ ys) t bx by' =
    difference_cases n x xs m y ys (λ o. IfSome o (λ d. IsBefore d.at t))
    (λ b. bx x (inl refl)) (λ b. by' y (inl refl))
    (λ s e. difference-before n xs m ys t (λ z h. bx z (inr h)) (λ z h. by' z (inr h)))
    (λ s e. bx x (inl refl))

pub difference-from : (n : ℕ) (xs : List Point) (m : ℕ) (ys : List Point) (t : Instant) → 0 < n → 0 < m → AreFrom n xs t → AreFrom m ys t → IfSome (first_difference_of n xs m ys) (λ d. (0 < d.at.den) × IsNotBefore d.at t)
difference-from n [] m [] t pn pm bx by' = tt
difference-from n [] m (y ∷ ys) t pn pm bx by' = (pm, by' y (inl refl))
difference-from n (x ∷ xs) m [] t pn pm bx by' = (pn, bx x (inl refl))
difference-from n (x ∷ xs) m (y ∷ ys) t pn pm bx by' =
    difference_cases n x xs m y ys (λ o. IfSome o (λ d. (0 < d.at.den) × IsNotBefore d.at t))
    (λ b. (pn, bx x (inl refl))) (λ b. (pm, by' y (inl refl)))
    (λ s e. difference-from n xs m ys t pn pm (λ z h. bx z (inr h)) (λ z h. by' z (inr h)))
    (λ s e. (pn, bx x (inl refl)))
