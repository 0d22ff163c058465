-- Texts in a list, as tests and in words.
use Rattle.std.proofs.Common.{◌≡◌, ℕ, not, ◌||◌, Bool, true, false, List, [], ◌∷◌, inl, inr, refl, sym, ap, ◌∙◌}
use Rattle.std.specs.Str.{bytes_eq}
use Rattle.std.proofs.lemmas.Slice.Eq.{bytes_eq-Decides}
use Rattle.edf_fields.specs.Lists.{Has, is_one_of}
use Rattle.edf_fields.specs.Distinct.{AreDistinct, are_distinct}
use Rattle.edf_fields.proofs.BoolFacts.{and-true, both-true, not-true, not-is}

pub has-one_of : (ts : List (List ℕ)) (t : List ℕ) → Has ts t → is_one_of ts t ≡ true
has-one_of [] t h = absurd h
has-one_of (u ∷ ts) t (inl e) = ap (λ b. b || is_one_of ts t) ((bytes_eq-Decides u t).1 e)
has-one_of (u ∷ ts) t (inr h) = or_true (bytes_eq u t) (is_one_of ts t) (has-one_of ts t h)
  where
    or_true : (a b : Bool) → b ≡ true → (a || b) ≡ true
    or_true true b e = refl
    or_true false b e = e

pub one_of-has : (ts : List (List ℕ)) (t : List ℕ) → is_one_of ts t ≡ true → Has ts t
one_of-has [] t h = absurd (let e : false ≡ true = h in cc)
one_of-has (u ∷ ts) t h = one_case u ts t (bytes_eq u t) refl h (λ q. one_of-has ts t q)
  where
    one_case : (u : List ℕ) (ts : List (List ℕ)) (t : List ℕ) (b : Bool) → bytes_eq u t ≡ b → (b || is_one_of ts t) ≡ true → (is_one_of ts t ≡ true → Has ts t) → Has (u ∷ ts) t
    one_case u ts t true e h rest = inl ((bytes_eq-Decides u t).0 e)
    one_case u ts t false e h rest = inr (rest h)

pub distinct-tested : (ts : List (List ℕ)) → are_distinct ts ≡ true → AreDistinct ts
distinct-tested [] h = tt
distinct-tested (t ∷ ts) h =
    let both = and-true (not (is_one_of ts t)) (are_distinct ts) h in
    (λ there. let z : true ≡ false = sym (has-one_of ts t there) ∙ not-true (is_one_of ts t) both.0 in cc, distinct-tested ts both.1)

pub distinct-passes : (ts : List (List ℕ)) → AreDistinct ts → are_distinct ts ≡ true
distinct-passes [] h = refl
distinct-passes (t ∷ ts) h =
    both-true (not (is_one_of ts t)) (are_distinct ts) (not-is (is_one_of ts t) (λ e. h.0 (one_of-has ts t e))) (distinct-passes ts h.1)
