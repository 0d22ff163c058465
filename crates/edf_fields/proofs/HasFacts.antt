-- What stands in a list.
use Rattle.std.proofs.Common.{◌≡◌, ℕ, zero, suc, Bool, true, false, cond, List, [], ◌∷◌, ◌++◌, filter, Option, Some, None, slice_get, ◌⊎◌, inl, inr, ⊎_elim, refl, sym, subst, ap, ◌∙◌, ◌||◌, find, map, length, get_or, ◌<◌, arith}
use Rattle.std.specs.List.{Contains}
use Rattle.std.specs.List.Sorted.{IsPermutation}
use Rattle.std.proofs.lemmas.List.Sorted.{Contains-permutation}
use Rattle.edf_fields.specs.Lists.{Has}

pub has-append : {X : Type 0} (xs ys : List X) (x : X) → Has (xs ++ ys) x → Has xs x ⊎ Has ys x
has-append [] ys x h = inr h
has-append (z ∷ xs) ys x (inl e) = inl (inl e)
has-append (z ∷ xs) ys x (inr h) = ⊎_elim (λ i. inl (inr i)) (λ i. inr i) (has-append xs ys x h)

pub has-front : {X : Type 0} (xs ys : List X) (x : X) → Has xs x → Has (xs ++ ys) x
has-front [] ys x h = absurd h
has-front (z ∷ xs) ys x (inl e) = inl e
has-front (z ∷ xs) ys x (inr h) = inr (has-front xs ys x h)

pub has-back : {X : Type 0} (xs ys : List X) (x : X) → Has ys x → Has (xs ++ ys) x
has-back [] ys x h = h
has-back (z ∷ xs) ys x h = inr (has-back xs ys x h)

chosen : {X : Type 0} (b : Bool) (xs ys : List X) (P : List X → Type 0) → (b ≡ true → P xs) → (b ≡ false → P ys) → P (cond b xs ys)
chosen true xs ys P f g = f refl
chosen false xs ys P f g = g refl

-- what is left of a list passed the test
pub has-filtered : {X : Type 0} (p : X → Bool) (xs : List X) (x : X) → Has (filter p xs) x → Has xs x × (p x ≡ true)
has-filtered p [] x h = absurd h
has-filtered {X} p (z ∷ xs) x h =
    chosen (p z) (z ∷ filter p xs) (filter p xs) (λ ys. Has ys x → Has (z ∷ xs) x × (p x ≡ true))
    (λ passed i. ⊎_elim
    (λ e. (inl e, let P : X → Type 0 = λ y. p y ≡ true in subst P e passed))
    (λ j. let r = has-filtered p xs x j in (inr r.0, r.1)) i)
    (λ failed i. let r = has-filtered p xs x i in (inr r.0, r.1)) h

pub filtered-has : {X : Type 0} (p : X → Bool) (xs : List X) (x : X) → Has xs x → p x ≡ true → Has (filter p xs) x
filtered-has p [] x h t = absurd h
filtered-has {X} p (z ∷ xs) x h t =
    chosen (p z) (z ∷ filter p xs) (filter p xs) (λ ys. Has ys x)
    (λ passed. ⊎_elim (λ e. inl e) (λ j. inr (filtered-has p xs x j t)) h)
    (λ failed. ⊎_elim
    (λ e. absurd (let P : X → Type 0 = λ y. p y ≡ false in let f : p x ≡ false = subst P e failed in let g : true ≡ false = sym t ∙ f in cc))
    (λ j. filtered-has p xs x j t) h)

-- what stands at an index stands in the list
pub has-at : {X : Type 0} (xs : List X) (i : ℕ) (x : X) → slice_get xs i ≡ Some x → Has xs x
has-at [] i x e = absurd (let h : None ≡ Some x = e in cc)
has-at (z ∷ xs) zero x e = inl (let h : Some z ≡ Some x = e in cc)
has-at (z ∷ xs) (suc i) x e = inr (has-at xs i x e)

-- what stands in a list stands at an index
pub at-has : {X : Type 0} (xs : List X) (x : X) → Has xs x → (i : ℕ) × (slice_get xs i ≡ Some x)
at-has [] x h = absurd h
at-has (z ∷ xs) x (inl e) = (0, ap Some e)
at-has (z ∷ xs) x (inr h) = let r = at-has xs x h in (suc r.0, r.1)

find_chosen : {X : Type 0} (b : Bool) (x : X) (o : Option X) (P : Option X → Type 0) → (b ≡ true → P (Some x)) → (b ≡ false → P o) → P (cond b (Some x) o)
find_chosen true x o P f g = f refl
find_chosen false x o P f g = g refl

pub find-none : {X : Type 0} (p : X → Bool) (xs : List X) → find p xs ≡ None → (x : X) → Has xs x → p x ≡ false
find-none p [] e x h = absurd h
find-none {X} p (z ∷ xs) e x h =
    find_chosen (p z) z (find p xs) (λ o. o ≡ None → p x ≡ false)
    (λ t i. absurd (let j : Some z ≡ None = i in cc))
    (λ f i. ⊎_elim (λ q. let P : X → Type 0 = λ y. p y ≡ false in subst P q f) (λ j. find-none p xs i x j) h) e

pub find-some : {X : Type 0} (p : X → Bool) (xs : List X) (x : X) → find p xs ≡ Some x → Has xs x × (p x ≡ true)
find-some p [] x e = absurd (let i : None ≡ Some x = e in cc)
find-some {X} p (z ∷ xs) x e =
    find_chosen (p z) z (find p xs) (λ o. o ≡ Some x → Has (z ∷ xs) x × (p x ≡ true))
    (λ t i. let q : z ≡ x = (let j : Some z ≡ Some x = i in cc) in (inl q, let P : X → Type 0 = λ y. p y ≡ true in subst P q t))
    (λ f i. let r = find-some p xs x i in (inr r.0, r.1)) e

-- what is found stands before all else that passes
pub find-first : {X : Type 0} (p : X → Bool) (xs : List X) (x : X) → find p xs ≡ Some x
    → (k : ℕ) × (slice_get xs k ≡ Some x) × (p x ≡ true) × ((j : ℕ) (y : X) → j < k → slice_get xs j ≡ Some y → p y ≡ false)
find-first p [] x e = absurd (let i : None ≡ Some x = e in cc)
find-first {X} p (z ∷ xs) x e =
    find_chosen (p z) z (find p xs) (λ o. o ≡ Some x → (k : ℕ) × (slice_get (z ∷ xs) k ≡ Some x) × (p x ≡ true) × ((j : ℕ) (y : X) → j < k → slice_get (z ∷ xs) j ≡ Some y → p y ≡ false))
    (λ t i.
    let q : z ≡ x = (let j : Some z ≡ Some x = i in cc) in
    let P : X → Type 0 = λ y. p y ≡ true in
    (0, ap Some q, subst P q t, λ j y lt g. absurd (omega (arith, lt))))
    (λ f i. let r = find-first p xs x i in (suc r.0, r.1, r.2, later p z xs r.0 f r.3)) e
  where
    later : {X : Type 0} (p : X → Bool) (z : X) (xs : List X) (k : ℕ) → p z ≡ false → ((j : ℕ) (y : X) → j < k → slice_get xs j ≡ Some y → p y ≡ false)
        → (j : ℕ) (y : X) → j < suc k → slice_get (z ∷ xs) j ≡ Some y → p y ≡ false
    later {X} p z xs k f rest zero y lt g = let q : z ≡ y = (let i : Some z ≡ Some y = g in cc) in let P : X → Type 0 = λ w. p w ≡ false in subst P q f
    later p z xs k f rest (suc j) y lt g = rest j y (omega (arith, lt)) g

pub or-cases : (a b : Bool) → (a || b) ≡ true → (a ≡ true) ⊎ (b ≡ true)
or-cases true b h = inl refl
or-cases false b h = inr h

pub or-true : (a b : Bool) → b ≡ true → (a || b) ≡ true
or-true true b e = refl
or-true false b e = e

pub get-within : {X : Type 0} (xs : List X) (i : ℕ) (x : X) → slice_get xs i ≡ Some x → i < length xs
get-within [] i x e = absurd (let h : None ≡ Some x = e in cc)
get-within (z ∷ xs) zero x e = omega arith
get-within (z ∷ xs) (suc i) x e = let r = get-within xs i x e in omega arith

pub has-map : {X Y : Type 0} (f : X → Y) (xs : List X) (x : X) → Has xs x → Has (map f xs) (f x)
has-map f [] x h = absurd h
has-map f (z ∷ xs) x (inl e) = inl (ap f e)
has-map f (z ∷ xs) x (inr h) = inr (has-map f xs x h)

pub map-has : {X Y : Type 0} (f : X → Y) (xs : List X) (y : Y) → Has (map f xs) y → (x : X) × Has xs x × (f x ≡ y)
map-has f [] y h = absurd h
map-has f (z ∷ xs) y (inl e) = (z, inl refl, e)
map-has f (z ∷ xs) y (inr h) = let r = map-has f xs y h in (r.0, inr r.1, r.2)

pub map-get : {X Y : Type 0} (f : X → Y) (xs : List X) (i : ℕ) (y : Y) → slice_get (map f xs) i ≡ Some y → (x : X) × (slice_get xs i ≡ Some x) × (f x ≡ y)
map-get f [] i y e = absurd (let h : None ≡ Some y = e in cc)
map-get f (z ∷ xs) zero y e = (z, refl, (let h : Some (f z) ≡ Some y = e in cc))
map-get f (z ∷ xs) (suc i) y e = map-get f xs i y e

pub get-map : {X Y : Type 0} (f : X → Y) (xs : List X) (i : ℕ) (x : X) → slice_get xs i ≡ Some x → slice_get (map f xs) i ≡ Some (f x)
get-map f [] i x e = absurd (let h : None ≡ Some x = e in cc)
get-map f (z ∷ xs) zero x e = ap Some (ap f (let h : Some z ≡ Some x = e in cc))
get-map f (z ∷ xs) (suc i) x e = get-map f xs i x e

pub get-index : {X : Type 0} (xs : List X) (i : ℕ) (x d : X) → slice_get xs i ≡ Some x → get_or xs i d ≡ x
get-index [] i x d e = absurd (let h : None ≡ Some x = e in cc)
get-index (z ∷ xs) zero x d e = (let h : Some z ≡ Some x = e in cc)
get-index (z ∷ xs) (suc i) x d e = get-index xs i x d e

contains-has : {X : Type 0} (xs : List X) (x : X) → Contains xs x → Has xs x
contains-has xs x c = has-at xs c.0 x (there xs c.0 x c.1 ∙ ap Some c.2)
  where
    there : {X : Type 0} (xs : List X) (k : ℕ) (d : X) → k < length xs → slice_get xs k ≡ Some (get_or xs k d)
    there [] k d lt = absurd (omega (arith, lt))
    there (z ∷ xs) zero d lt = refl
    there (z ∷ xs) (suc k) d lt = there xs k d (omega (arith, lt))

-- what stands in a list stands in its rearrangement
pub has-permutation : {X : Type 0} (xs ys : List X) (x : X) → IsPermutation xs ys → Has xs x → Has ys x
has-permutation xs ys x p h = let r = at-has xs x h in contains-has ys x (Contains-permutation xs ys x p (r.0, get-within xs r.0 x r.1, get-index xs r.0 x x r.1))
