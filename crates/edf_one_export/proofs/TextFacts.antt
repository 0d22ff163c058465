-- Texts that can't differ are the same, and so are lists of them.
use Rattle.std.proofs.Common.{◌≡◌, ◌⊎◌, inl, inr, ℕ, Bool, true, false, List, [], ◌∷◌, refl, ap, sym, ◌∙◌}
use Rattle.std.specs.Str.{bytes_eq}
use Rattle.std.proofs.lemmas.Slice.Eq.{bytes_eq-Decides}

-- a Bool is one of two
pub bool-cases : (b : Bool) → (b ≡ true) ⊎ (b ≡ false)
bool-cases true = inl refl
bool-cases false = inr refl

pub text-stable : (a b : List ℕ) → ((a ≡ b → ⊥) → ⊥) → a ≡ b
text-stable a b stands = elim (bool-cases (bytes_eq a b)) [
  | inl same ↦ (bytes_eq-Decides a b).0 same
  | inr other ↦ absurd (stands (λ e. let both : true ≡ false = sym ((bytes_eq-Decides a b).1 e) ∙ other in cc))
]

first-same : (x y : List ℕ) (xs ys : List (List ℕ)) → x ∷ xs ≡ y ∷ ys → x ≡ y
first-same x y xs ys e = cc

rest-same : (x y : List ℕ) (xs ys : List (List ℕ)) → x ∷ xs ≡ y ∷ ys → xs ≡ ys
rest-same x y xs ys e = cc

pub texts-stable : (xs ys : List (List ℕ)) → ((xs ≡ ys → ⊥) → ⊥) → xs ≡ ys
texts-stable [] [] stands = refl
texts-stable [] (y ∷ ys) stands = absurd (stands (λ e. let z : [] ≡ y ∷ ys = e in cc))
texts-stable (x ∷ xs) [] stands = absurd (stands (λ e. let z : x ∷ xs ≡ [] = e in cc))
texts-stable (x ∷ xs) (y ∷ ys) stands =
    ap (λ z. z ∷ xs) (text-stable x y (λ never. stands (λ e. never (first-same x y xs ys e))))
    ∙ ap (λ zs. y ∷ zs) (texts-stable xs ys (λ never. stands (λ e. never (rest-same x y xs ys e))))
