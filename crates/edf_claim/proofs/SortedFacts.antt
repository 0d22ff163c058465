-- Texts in the order of their bytes, and one of them found.
use Rattle.std.proofs.Common.{◌≡◌, ℕ, ◌<◌, Equal, Bool, true, false, ◌||◌, List, [], ◌∷◌, length, get_or, map, Result, Ok, Err, inl, inr, refl, sym, ap, ◌∙◌, arith}
use Rattle.std.specs.Cmp.Lexicographic.{slice_cmp}
use Rattle.std.specs.Global.{Vec}
use Rattle.std.specs.List.{list_any}
use Rattle.std.specs.List.Sorted.{IsSorted, IsPermutation, IsBinarySearchResult}
use Rattle.std.specs.Ordering.{nat_cmp, is_eq}
use Rattle.std.specs.Str.{bytes_eq}
use Rattle.std.proofs.lemmas.Bool.{cases_lt}
use Rattle.std.proofs.lemmas.Bool.Decides.{nat_tests}
use Rattle.std.proofs.lemmas.Cmp.{same_from_slice_cmp, nat_list_cmp_total}
use Rattle.std.proofs.lemmas.List.Folds.{list_any_at, list_any_none}
use Rattle.std.proofs.lemmas.List.Sorted.{searchable_from_sorted, list_any-IsPermutation, IsPermutation-map}
use Rattle.edf_fields.specs.Lists.{is_one_of}
use Rattle.edf_claim.specs.KeepsReading.{IsIndex}

-- texts are the same where they compare as equal
pub equal-tested : (xs ys : List ℕ) → is_eq (slice_cmp nat_cmp xs ys) ≡ bytes_eq xs ys
equal-tested xs ys = same_from_slice_cmp nat_cmp is_eq bytes_eq refl (λ _ _. refl) (λ _ _. refl) (λ x y us vs o h. grind (arith, nat_tests)) xs ys (slice_cmp nat_cmp xs ys) refl

pub any-map : {X Y : Type 0} (p : Y → Bool) (f : X → Y) (xs : List X) → list_any p (map f xs) ≡ list_any (λ x. p (f x)) xs
any-map p f [] = refl
any-map p f (x ∷ xs) = ap (λ b. p (f x) || b) (any-map p f xs)

-- whether a search found the text
abbrev pub has_found : Result ℕ ℕ → Bool
has_found (Ok i) = true
has_found (Err i) = false

pub found_there : (texts : List (Vec ℕ)) (text : List ℕ) (i : ℕ) → IsSorted (λ x y. slice_cmp nat_cmp x.items y.items) texts
    → IsBinarySearchResult (λ y. slice_cmp nat_cmp y.items text) texts (Ok i) → i < length texts → true ≡ is_one_of (map (λ t. t.items) texts) text
found_there texts text i up h within =
    sym (any-map (λ other. bytes_eq other text) (λ (t : Vec ℕ). t.items) texts ∙ at texts h within)
  where
    at : (texts : List (Vec ℕ)) → ((d : Vec ℕ) → slice_cmp nat_cmp (get_or texts i d).items text ≡ Equal) → i < length texts → list_any (λ t. bytes_eq t.items text) texts ≡ true
    at [] h lt = absurd (omega (arith, lt))
    at (t ∷ ts) h lt =
        list_any_at (λ (t : Vec ℕ). bytes_eq t.items text) (t ∷ ts) i t lt (sym (equal-tested (get_or (t ∷ ts) i t).items text) ∙ ap is_eq (h t))

pub found_nowhere : (texts : List (Vec ℕ)) (text : List ℕ) (i : ℕ) → IsSorted (λ x y. slice_cmp nat_cmp x.items y.items) texts
    → IsBinarySearchResult (λ y. slice_cmp nat_cmp y.items text) texts (Err i) → false ≡ is_one_of (map (λ t. t.items) texts) text
found_nowhere texts text i up h =
    let parts = h (searchable_from_sorted nat_list_cmp_total (λ (t : Vec ℕ). t.items) texts text up) in
    sym (any-map (λ other. bytes_eq other text) (λ (t : Vec ℕ). t.items) texts
    ∙ list_any_none (λ (t : Vec ℕ). bytes_eq t.items text) texts (λ k d lt.
    sym (equal-tested (get_or texts k d).items text)
    ∙ elim (cases_lt k i) [
      | inl before ↦ ap is_eq (parts.0 k d (omega arith) before)
      | inr behind ↦ ap is_eq (parts.1 k d behind lt)
    ]))

-- a sort puts texts in the order of their bytes, and leaves them the same texts
pub index_sorted : (texts : List (List ℕ)) (before after : List (Vec ℕ)) → map (λ t. t.items) before ≡ texts → IsPermutation before after → IsSorted (λ x y. slice_cmp nat_cmp x.items y.items) after → IsIndex texts after
index_sorted texts before after same p up = record {
  order = up;
  same = λ t. sym (list_any-IsPermutation (λ other. bytes_eq other t) (map (λ (v : Vec ℕ). v.items) before) (map (λ (v : Vec ℕ). v.items) after) (IsPermutation-map (λ (v : Vec ℕ). v.items) before after p)) ∙ ap (λ ts. is_one_of ts t) same;
}
