-- Lists filtered twice, and filters that leave all or nothing.
use Rattle.std.proofs.Common.{◌≡◌, Bool, true, false, cond, List, [], ◌∷◌, filter, inl, inr, refl, ap}
use Rattle.edf_fields.specs.Lists.{Has}

-- what holds of a test, by its two cases
pub by_test : (b : Bool) (P : Bool → Type 0) → (b ≡ true → P true) → (b ≡ false → P false) → P b
by_test true P f g = f refl
by_test false P f g = g refl

pub filter_all : {X : Type 0} (p : X → Bool) (xs : List X) → ((x : X) → Has xs x → p x ≡ true) → filter p xs ≡ xs
filter_all p [] h = refl
filter_all {X} p (x ∷ xs) h = rw (h x (inl refl)) (ap (λ ys. x ∷ ys) (filter_all p xs (λ y i. h y (inr i))))

pub filter_none : {X : Type 0} (p : X → Bool) (xs : List X) → ((x : X) → Has xs x → p x ≡ false) → filter p xs ≡ []
filter_none p [] h = refl
filter_none {X} p (x ∷ xs) h = rw (h x (inl refl)) (filter_none p xs (λ y i. h y (inr i)))

-- a filter whose test implies that of the one before it
pub filter_implied : {X : Type 0} (p q : X → Bool) (xs : List X) → ((x : X) → p x ≡ true → q x ≡ true) → filter p (filter q xs) ≡ filter p xs
filter_implied p q [] h = refl
filter_implied {X} p q (x ∷ xs) h =
    let r : filter p (filter q xs) ≡ filter p xs = filter_implied p q xs h in
    by_test (p x) (λ b. filter p (filter q (x ∷ xs)) ≡ cond b (x ∷ filter p xs) (filter p xs))
    (λ e. rw (h x e, e) (ap (λ ys. x ∷ ys) r))
    (λ e. by_test (q x) (λ b. filter p (cond b (x ∷ filter q xs) (filter q xs)) ≡ filter p xs) (λ f. rw e r) (λ f. r))

-- the order of two filters doesn't matter
pub filters_swap : {X : Type 0} (p q : X → Bool) (xs : List X) → filter p (filter q xs) ≡ filter q (filter p xs)
filters_swap p q [] = refl
filters_swap {X} p q (x ∷ xs) =
    let r : filter p (filter q xs) ≡ filter q (filter p xs) = filters_swap p q xs in
    by_test (p x) (λ b. filter p (filter q (x ∷ xs)) ≡ filter q (cond b (x ∷ filter p xs) (filter p xs)))
    (λ e. by_test (q x) (λ b. filter p (cond b (x ∷ filter q xs) (filter q xs)) ≡ cond b (x ∷ filter q (filter p xs)) (filter q (filter p xs)))
    (λ f. rw e (ap (λ ys. x ∷ ys) r)) (λ f. r))
    (λ e. by_test (q x) (λ b. filter p (cond b (x ∷ filter q xs) (filter q xs)) ≡ filter q (filter p xs)) (λ f. rw e r) (λ f. r))
