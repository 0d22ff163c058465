-- What is gathered of data records, one behind the other.
use Rattle.std.proofs.Common.{◌≡◌, inl, inr, ℕ, zero, suc, ◌<◌, List, [], ◌∷◌, ◌++◌, length, slice_get, get_or, Some, refl, sym, ap, ◌∙◌, arith, length-append}
use Rattle.std.proofs.Math.Seq.{get_or-append_seam}
use Rattle.std.proofs.lemmas.Bool.{cases_lt}
use Rattle.std.proofs.lemmas.List.{get_or_append_left}
use Rattle.std.proofs.lemmas.Option.{get_or_from_slice_get, slice_get_within}

-- what stands in each of the first n places
abbrev pub gathered : {X : Type 0} → (ℕ → X) → ℕ → List X
gathered f zero = []
gathered f (suc n) = gathered f n ++ f n ∷ []

pub gathered-count : {X : Type 0} (f : ℕ → X) (n : ℕ) → length (gathered f n) ≡ n
gathered-count f zero = refl
gathered-count f (suc n) = let r = gathered-count f n in omega (arith, r, length-append (gathered f n) (f n ∷ []))

gathered-there : {X : Type 0} (f : ℕ → X) (n k : ℕ) (d : X) → k < n → get_or (gathered f n) k d ≡ f k
gathered-there f zero k d low = absurd (omega (arith, low))
gathered-there f (suc n) k d low =
    let count = gathered-count f n in
    elim (cases_lt k n) [
      | inl less ↦ get_or_append_left (gathered f n) (f n ∷ []) d k (omega (arith, less, count)) ∙ gathered-there f n k d less
      | inr le ↦
          let last : k ≡ length (gathered f n) = omega (arith, low, le, count) in
          ap (λ m. get_or (gathered f n ++ f n ∷ []) m d) last ∙ get_or-append_seam (gathered f n) (f n) [] d ∙ ap f (sym (last ∙ count))
    ]

pub gathered-at : {X : Type 0} (f : ℕ → X) (n k : ℕ) (x : X) → slice_get (gathered f n) k ≡ Some x → x ≡ f k
gathered-at f n k x e =
    let within = slice_get_within (gathered f n) k x e in
    sym (get_or_from_slice_get (gathered f n) k x x e) ∙ gathered-there f n k x (omega (arith, within, gathered-count f n))
