-- Labels in the order of their bytes, and one of them found.
use Rattle.std.proofs.Common.{subst, ◌≡◌, ℕ, ◌<◌, Equal, Bool, true, false, cond, not, nat_lt, nat_eq, ◌||◌, List, [], ◌∷◌, length, get_or, map, slice_get, Bor, Option, Some, None, is_some, MatchOption, Ok, Err, inl, inr, refl, sym, ap, ◌∙◌, arith}
use Rattle.std.specs.Cmp.Lexicographic.{slice_cmp}
use Rattle.std.specs.List.{list_any}
use Rattle.std.specs.List.Sorted.{IsSorted, IsPermutation, IsBinarySearchResult}
use Rattle.std.specs.Ordering.{nat_cmp, is_eq, is_lt}
use Rattle.std.specs.Str.{bytes_eq}
use Rattle.std.proofs.lemmas.Bool.{cases_lt}
use Rattle.std.proofs.lemmas.Bool.Decides.{nat_tests}
use Rattle.std.proofs.lemmas.Cmp.{same_from_slice_cmp, nat_list_cmp_total}
use Rattle.std.proofs.lemmas.List.Folds.{list_any_none}
use Rattle.std.proofs.lemmas.List.Sorted.{searchable_from_sorted, list_any-IsPermutation, IsPermutation-map}
use Rattle.std.proofs.lemmas.Option.{slice_get-get_or}
use Rattle.std.proofs.lemmas.Slice.Eq.{bytes_eq-Decides}
use Rattle.edf_fields.specs.Lists.{Has, is_one_of}
use Rattle.edf_fields.proofs.ForCallers.{get-map, has-at, has-one_of, one_of-has}
use Rattle.edf_heads.specs.Comparisons.{AreSorted}
use Rattle.edf_heads.specs.Labels.{IsNotAbove}

-- texts are the same where they compare as equal
pub equal-tested : (xs ys : List ℕ) → is_eq (slice_cmp nat_cmp xs ys) ≡ bytes_eq xs ys
equal-tested xs ys = same_from_slice_cmp nat_cmp is_eq bytes_eq refl (λ _ _. refl) (λ _ _. refl) (λ x y us vs o h. grind (arith, nat_tests)) xs ys (slice_cmp nat_cmp xs ys) refl

pub same-label : (x y : List ℕ) → slice_cmp nat_cmp x y ≡ Equal → x ≡ y
same-label x y e = (bytes_eq-Decides x y).0 (sym (equal-tested x y) ∙ ap is_eq e)

any-map : {X Y : Type 0} (p : Y → Bool) (f : X → Y) (xs : List X) → list_any p (map f xs) ≡ list_any (λ x. p (f x)) xs
any-map p f [] = refl
any-map p f (x ∷ xs) = ap (λ b. p (f x) || b) (any-map p f xs)

-- the label that was found stands at its place
pub place_there : (texts : List (Bor (List ℕ))) (text : List ℕ) (i : ℕ) → IsBinarySearchResult (λ y. slice_cmp nat_cmp y.now text) texts (Ok i) → i < length texts
    → slice_get (map (λ t. t.now) texts) i ≡ Some text
place_there [] text i h within = absurd (omega (arith, within))
place_there (t ∷ ts) text i h within =
    get-map (λ (u : Bor (List ℕ)). u.now) (t ∷ ts) i (get_or (t ∷ ts) i t) (slice_get-get_or (t ∷ ts) i t within) ∙ ap Some (same-label (get_or (t ∷ ts) i t).now text (h t))

found_nowhere : (texts : List (Bor (List ℕ))) (text : List ℕ) (i : ℕ) → IsSorted (λ x y. slice_cmp nat_cmp x.now y.now) texts
    → IsBinarySearchResult (λ y. slice_cmp nat_cmp y.now text) texts (Err i) → false ≡ is_one_of (map (λ t. t.now) texts) text
found_nowhere texts text i up h =
    let parts = h (searchable_from_sorted nat_list_cmp_total (λ (t : Bor (List ℕ)). t.now) texts text up) in
    sym (any-map (λ other. bytes_eq other text) (λ (t : Bor (List ℕ)). t.now) texts
    ∙ list_any_none (λ (t : Bor (List ℕ)). bytes_eq t.now text) texts (λ k d lt.
    sym (equal-tested (get_or texts k d).now text)
    ∙ elim (cases_lt k i) [
      | inl before ↦ ap is_eq (parts.0 k d (omega arith) before)
      | inr behind ↦ ap is_eq (parts.1 k d behind lt)
    ]))

-- where none was found, the label is none of them
pub place_nowhere : (texts : List (Bor (List ℕ))) (text : List ℕ) (i : ℕ) → IsSorted (λ x y. slice_cmp nat_cmp x.now y.now) texts
    → IsBinarySearchResult (λ y. slice_cmp nat_cmp y.now text) texts (Err i) → Has (map (λ t. t.now) texts) text → ⊥
place_nowhere texts text i up h there =
    let e : false ≡ true = found_nowhere texts text i up h ∙ has-one_of (map (λ t. t.now) texts) text there in cc

-- a label has a place exactly where it is one of them
pub found_said : (texts : List (List ℕ)) (text : List ℕ) (place : Option ℕ) → MatchOption place (Has texts text → ⊥) (λ p. slice_get texts p ≡ Some text) → is_some place ≡ is_one_of texts text
found_said texts text None nowhere = sym (not-is-true (is_one_of texts text) (λ e. nowhere (one_of-has texts text e)))
  where
    not-is-true : (b : Bool) → (b ≡ true → ⊥) → b ≡ false
    not-is-true true never = absurd (never refl)
    not-is-true false never = refl
found_said texts text (Some p) there = sym (has-one_of texts text (has-at texts p text there))

-- a sort puts labels in the order of their bytes, and leaves them the same labels
pub labels_sorted : (texts : List (List ℕ)) (before after : List (Bor (List ℕ))) → map (λ t. t.now) before ≡ texts → IsPermutation before after → IsSorted (λ x y. slice_cmp nat_cmp x.now y.now) after → AreSorted texts after
labels_sorted texts before after same p up = record {
  order = up;
  all = (let P : List (List ℕ) → Type 0 = λ ls. IsPermutation ls (map (λ (v : Bor (List ℕ)). v.now) after) in subst P same (IsPermutation-map (λ (v : Bor (List ℕ)). v.now) before after p));
  same = λ t. sym (list_any-IsPermutation (λ other. bytes_eq other t) (map (λ (v : Bor (List ℕ)). v.now) before) (map (λ (v : Bor (List ℕ)). v.now) after) (IsPermutation-map (λ (v : Bor (List ℕ)). v.now) before after p)) ∙ ap (λ ts. is_one_of ts t) same;
}

-- ---- the order of labels

chosen : (b : Bool) (p q : Bool) (P : Bool → Type 0) → (b ≡ true → P p) → (b ≡ false → P q) → P (cond b p q)
chosen true p q P f g = f refl
chosen false p q P f g = g refl

is_not_above : List ℕ → List ℕ → Bool
is_not_above [] other = true
is_not_above (x ∷ label) [] = false
is_not_above (x ∷ label) (y ∷ other) = cond (nat_eq x y) (is_not_above label other) (nat_lt x y)

tested-not_above : (label other : List ℕ) → is_not_above label other ≡ true → IsNotAbove label other
unfolding is_not_above
tested-not_above [] other h = tt
tested-not_above (x ∷ label) [] h = absurd (let f : false ≡ true = h in cc)
tested-not_above (x ∷ label) (y ∷ other) h =
    chosen (nat_eq x y) (is_not_above label other) (nat_lt x y) (λ b. b ≡ true → IsNotAbove (x ∷ label) (y ∷ other))
    (λ e t. inr (grind (arith, nat_tests, e), tested-not_above label other t))
    (λ e t. inl (grind (arith, nat_tests, t))) h

-- std's order puts a label that is above the other behind it
pub not_below : (label other : List ℕ) → is_lt (slice_cmp nat_cmp other label) ≡ false → IsNotAbove label other
unfolding is_not_above
not_below label other h =
    tested-not_above label other (untrue (is_not_above label other) (sym (same_from_slice_cmp nat_cmp is_lt (λ a b. not (is_not_above b a)) refl (λ _ _. refl) (λ _ _. refl) (λ x y xs ys o i. grind (arith, nat_tests)) other label (slice_cmp nat_cmp other label) refl) ∙ h))
  where
    untrue : (b : Bool) → not b ≡ false → b ≡ true
    untrue true e = refl
    untrue false e = absurd (let f : true ≡ false = e in cc)

-- two labels of which neither is above the other
pub one-label : (l other : List ℕ) → IsNotAbove l other → IsNotAbove other l → l ≡ other
one-label [] [] h i = refl
one-label [] (y ∷ other) h i = absurd i
one-label (x ∷ l) [] h i = absurd h
one-label (x ∷ l) (y ∷ other) (inl h) (inl i) = absurd (omega (arith, h, i))
one-label (x ∷ l) (y ∷ other) (inl h) (inr i) = absurd (let e = i.0 in omega (arith, h, e))
one-label (x ∷ l) (y ∷ other) (inr h) (inl i) = absurd (let e = h.0 in omega (arith, e, i))
one-label (x ∷ l) (y ∷ other) (inr h) (inr i) = ap (λ z. z ∷ l) h.0 ∙ ap (λ z. y ∷ z) (one-label l other h.1 i.1)
