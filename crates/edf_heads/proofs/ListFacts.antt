-- What stands in a list, and what is found first there.
use Rattle.std.proofs.Common.{◌≡◌, ℕ, zero, suc, Bool, true, false, cond, List, [], ◌∷◌, ◌++◌, find, length, get_or, Option, Some, None, MatchOption, inl, inr, ⊎_elim, refl, sym, subst, ap, ◌<◌, arith}
use Rattle.std.specs.List.{All}
use Rattle.std.specs.List.Sorted.{IsPermutation}
use Rattle.std.proofs.lemmas.List.Elements.{All-nil, All-cons, All-head, All-tail}
use Rattle.std.proofs.lemmas.List.Sorted.{IsPermutation-refl, IsPermutation-sym, IsPermutation-cons, IsPermutation-trans, IsPermutation-middle}
use Rattle.edf_fields.specs.Lists.{Has}
use Rattle.edf_fields.specs.Distinct.{AreDistinct}
use Rattle.edf_fields.proofs.ForCallers.{has-append, has-front, has-back}
use Rattle.edf_heads.specs.Firsts.{IsFirstWith}

-- what stands at a place within the list stands in it
pub has-get : {X : Type 0} (xs : List X) (k : ℕ) (d : X) → k < length xs → Has xs (get_or xs k d)
has-get [] k d lt = absurd (omega (arith, lt))
has-get (z ∷ xs) zero d lt = inl refl
has-get (z ∷ xs) (suc k) d lt = inr (has-get xs k d (omega (arith, lt)))

-- what holds of each that stands in a list holds of all of it
pub all-of : {X : Type 0} (P : X → Type 0) (xs : List X) → ((x : X) → Has xs x → P x) → All P xs
all-of P [] h = All-nil P
all-of P (z ∷ xs) h = All-cons P z xs (h z (inl refl)) (all-of P xs (λ x i. h x (inr i)))

pub of-all : {X : Type 0} (P : X → Type 0) (xs : List X) → All P xs → (x : X) → Has xs x → P x
of-all P [] all x i = absurd i
of-all P (z ∷ xs) all x (inl e) = subst P e (All-head P z xs all)
of-all P (z ∷ xs) all x (inr i) = of-all P xs (All-tail P z xs all) x i

find-case : {X : Type 0} (b : Bool) (x : X) (o : Option X) (P : Option X → Type 0) → (b ≡ true → P (Some x)) → (b ≡ false → P o) → P (cond b (Some x) o)
find-case true x o P f g = f refl
find-case false x o P f g = g refl

-- the first that passes a test is the first of which the test's meaning holds; where none passes, all are otherwise
pub first-found : {X : Type 0} (p : X → Bool) (Holds Otherwise : X → Type 0) (xs : List X)
    → ((x : X) → Has xs x → p x ≡ true → Holds x) → ((x : X) → Has xs x → p x ≡ false → Otherwise x) → ((x : X) → Otherwise x → Holds x → ⊥)
    → MatchOption (find p xs) ((x : X) → Has xs x → Otherwise x) (IsFirstWith Holds xs)
first-found p Holds Otherwise [] passed failed apart = λ x h. absurd h
first-found {X} p Holds Otherwise (z ∷ xs) passed failed apart =
    find-case (p z) z (find p xs) (λ o. MatchOption o ((x : X) → Has (z ∷ xs) x → Otherwise x) (IsFirstWith Holds (z ∷ xs)))
    (λ t. inl (refl, passed z (inl refl) t))
    (λ f. later (find p xs) (failed z (inl refl) f) (first-found p Holds Otherwise xs (λ x h. passed x (inr h)) (λ x h. failed x (inr h)) apart))
  where
    later : (o : Option X) → Otherwise z → MatchOption o ((x : X) → Has xs x → Otherwise x) (IsFirstWith Holds xs)
        → MatchOption o ((x : X) → Has (z ∷ xs) x → Otherwise x) (IsFirstWith Holds (z ∷ xs))
    later None here rest = λ x h. ⊎_elim (λ e. subst Otherwise e here) (λ i. rest x i) h
    later (Some y) here rest = inr ((λ holds. apart z here holds), rest)

pub first-has : {X : Type 0} (Holds : X → Type 0) (xs : List X) (x : X) → IsFirstWith Holds xs x → Has xs x × Holds x
first-has Holds [] x h = absurd h
first-has Holds (y ∷ ys) x (inl h) = (inl h.0, subst Holds h.0 h.1)
first-has Holds (y ∷ ys) x (inr h) = let r = first-has Holds ys x h.1 in (inr r.0, r.1)

-- ---- two lists without repetition that have the same members are rearrangements of one another

-- a member parts its list in two
pub record Parted {X : Type 0} (xs : List X) (x : X) : Type 0 where
  pub front : List X
  pub behind : List X
  pub is : xs ≡ front ++ x ∷ behind

pub parted : {X : Type 0} (xs : List X) (x : X) → Has xs x → Parted xs x
parted [] x h = absurd h
parted (y ∷ ys) x (inl e) = record { front = []; behind = ys; is = ap (λ z. z ∷ ys) e }
parted (y ∷ ys) x (inr h) = let r = parted ys x h in record { front = y ∷ r.front; behind = r.behind; is = ap (λ zs. y ∷ zs) r.is }

without : {X : Type 0} (xs : List X) (x : X) (ys : List X) → AreDistinct (xs ++ x ∷ ys) → AreDistinct (xs ++ ys) × (Has (xs ++ ys) x → ⊥)
without [] x ys d = (d.1, d.0)
without {X} (z ∷ xs) x ys d =
    let rest = without xs x ys d.1 in (
      (λ h. d.0 (⊎_elim (λ i. has-front xs (x ∷ ys) z i) (λ i. has-back xs (x ∷ ys) z (inr i)) (has-append xs ys z h)), rest.0),
      λ h. ⊎_elim (λ e. d.0 (has-back xs (x ∷ ys) z (inl (sym e)))) (λ i. rest.1 i) h,
    )

pub same-members : {X : Type 0} (xs ys : List X) → AreDistinct xs → AreDistinct ys → ((x : X) → Has xs x → Has ys x) → ((x : X) → Has ys x → Has xs x) → IsPermutation xs ys
same-members [] [] dx dy there back = IsPermutation-refl []
same-members [] (y ∷ ys) dx dy there back = absurd (back y (inl refl))
same-members {X} (x ∷ xs) ys dx dy there back =
    let at = parted ys x (there x (inl refl)) in
    let dy' : AreDistinct (at.front ++ x ∷ at.behind) = subst AreDistinct at.is dy in
    let left = without at.front x at.behind dy' in
    let member : (zs : List X) → X → Type 0 = λ zs z. Has zs z in
    let forth : (z : X) → Has xs z → Has (at.front ++ at.behind) z =
    λ z h. ⊎_elim (λ i. has-front at.front at.behind z i)
    (⊎_elim (λ e. absurd (dx.0 (let P : X → Type 0 = λ w. Has xs w in subst P (sym e) h))) (λ i. has-back at.front at.behind z i))
    (has-append at.front (x ∷ at.behind) z (let P : List X → Type 0 = λ zs. Has zs z in subst P at.is (there z (inr h)))) in
    let home : (z : X) → Has (at.front ++ at.behind) z → Has xs z =
    λ z h. ⊎_elim (λ e. absurd (left.1 (let P : X → Type 0 = λ w. Has (at.front ++ at.behind) w in subst P (sym e) h))) (λ i. i)
    (back z (let P : List X → Type 0 = λ zs. Has zs z in subst P (sym at.is) (⊎_elim (λ i. has-front at.front (x ∷ at.behind) z i) (λ i. has-back at.front (x ∷ at.behind) z (inr i)) (has-append at.front at.behind z h)))) in
    let rest = same-members xs (at.front ++ at.behind) dx.1 left.0 forth home in
    let moved : IsPermutation (x ∷ xs) (x ∷ (at.front ++ at.behind)) = IsPermutation-cons x xs (at.front ++ at.behind) rest in
    let whole : IsPermutation (x ∷ xs) (at.front ++ x ∷ at.behind) =
    IsPermutation-trans (x ∷ xs) (x ∷ (at.front ++ at.behind)) (at.front ++ x ∷ at.behind) moved
    (IsPermutation-sym (at.front ++ x ∷ at.behind) (x ∷ (at.front ++ at.behind)) (IsPermutation-middle at.front x at.behind)) in
    let P : List X → Type 0 = λ zs. IsPermutation (x ∷ xs) zs in
    subst P (sym at.is) whole
