-- The subfields of a text, as a relation and as a function.
use Rattle.std.proofs.Common.{◌≡◌, ◌≢◌, ◌⊎◌, inl, inr, ℕ, zero, suc, false, ◌+◌, ◌-◌, ◌<◌, ◌≤◌, List, [], ◌∷◌, ◌++◌, length, get_or, take, drop, arith, refl, ap, ◌∙◌, sym, Some, None, nat_lt, cond, filter, All, replicate, length-drop, lt-ltb, le-ltb, subst}
use Rattle.std.specs.List.{position, position_or_len, slice_split}
use Rattle.std.proofs.lemmas.Bool.{cases_lt}
use Rattle.std.proofs.lemmas.Bool.Decides.{nat_tests}
use Rattle.std.proofs.lemmas.Grind.{common_steps}
use Rattle.std.proofs.lemmas.List.Splits.{slice_split_at, slice_split_none}
use Rattle.edf_fields.specs.texts.Subfields.{IsSubfield, HasSubfields}
use Rattle.edf_fields.specs.texts.SubfieldsReading.{is_space, subfields_of, HasOneListOfSubfields, FindsSubfields}
use Rattle.std.proofs.lemmas.List.{length-take, get_or-take, get_or-drop, take-append-drop}
use Rattle.std.proofs.lemmas.List.Sums.{passes_at_first, fails_before_first}
use Rattle.edf_fields.proofs.PlaceFacts.{place_found}
use Rattle.edf_fields.proofs.texts.SubfieldFacts.{space_first, none_left, kept_first, only_one, first_of_more, no_space, not_first, is_true_space}

not_space : (b : ℕ) → b ≢ 32 → is_space b ≡ false
not_space b h = grind (arith, nat_tests)

none_space : (s : List ℕ) → All (λ b. b ≢ 32) s → All (λ b. is_space b ≡ false) s
none_space s h k d low = not_space _ (h k d low)

-- spaces in front don't count
skip_run : (n : ℕ) (t : List ℕ) → subfields_of (replicate n 32 ++ t) ≡ subfields_of t
skip_run zero t = refl
skip_run (suc n) t = space_first (replicate n 32 ++ t) ∙ skip_run n t

-- a subfield, spaces and what stands behind them
before_run : (s : List ℕ) (n : ℕ) (t : List ℕ) → IsSubfield s → 0 < n → subfields_of (s ++ (replicate n 32 ++ t)) ≡ s ∷ subfields_of t
unfolding subfields_of
before_run s zero t h some = absurd (omega arith)
before_run s (suc n) t h some =
    ap (λ parts. filter (λ s. nat_lt 0 (length s)) parts) (slice_split_at is_space s 32 (replicate n 32 ++ t) (none_space s h.1) refl)
    ∙ kept_first s (slice_split is_space (replicate n 32 ++ t)) h.0
    ∙ ap (λ parts. s ∷ parts) (skip_run n t)

-- a subfield alone
alone : (s : List ℕ) → IsSubfield s → subfields_of s ≡ s ∷ []
unfolding subfields_of
alone s h =
    ap (λ parts. filter (λ s. nat_lt 0 (length s)) parts) (slice_split_none is_space s (none_space s h.1)) ∙ kept_first s [] h.0

-- what is joined so is found so
pub joined_found : (xs : List (List ℕ)) (t : List ℕ) → HasSubfields t xs → subfields_of t ≡ xs
joined_found [] t h = ap subfields_of h ∙ none_left [] refl
joined_found (s ∷ []) t h = ap subfields_of h.1 ∙ alone s h.0
joined_found (s ∷ next ∷ more) t h =
    ap subfields_of h.4 ∙ before_run s h.1 h.2 h.0 h.3 ∙ ap (λ parts. s ∷ parts) (joined_found (next ∷ more) h.2 h.5)

pub one_list : HasOneListOfSubfields
one_list t xs ys h k = sym (joined_found xs t h) ∙ joined_found ys t k

-- how many spaces stand in front
abbrev lead : List ℕ → ℕ
lead [] = 0
lead (b ∷ bs) = cond (is_space b) (suc (lead bs)) 0

lead-spaces : (t : List ℕ) → t ≡ replicate (lead t) 32 ++ drop (lead t) t
lead-spaces [] = refl
lead-spaces (b ∷ bs) = grind (arith, nat_tests, common_steps, lead-spaces bs)

lead-first : (t : List ℕ) → get_or (drop (lead t) t) 0 0 ≢ 32
lead-first [] = λ h. absurd (omega arith)
lead-first (b ∷ bs) = grind (arith, nat_tests, common_steps, lead-first bs)

lead-below : (t : List ℕ) (i : ℕ) → i < lead t → get_or t i 0 ≡ 32
lead-below [] i h = absurd (omega arith)
lead-below (b ∷ bs) zero h = grind (arith, nat_tests, common_steps)
lead-below (b ∷ bs) (suc i) h = grind (arith, nat_tests, common_steps, lead-below bs i)

lead-found : (t : List ℕ) → subfields_of (drop (lead t) t) ≡ subfields_of t
lead-found t = sym (ap subfields_of (lead-spaces t) ∙ skip_run (lead t) (drop (lead t) t))

other_byte : (b : ℕ) → is_space b ≡ false → b ≢ 32
other_byte b h = grind (arith, nat_tests)

-- the first part of a text that doesn't begin with a space is a subfield
front_subfield : (t : List ℕ) (k : ℕ) → get_or t 0 0 ≢ 32 → position is_space t ≡ Some k → k < length t → IsSubfield (take k t)
front_subfield t k first found low =
    let place : position_or_len is_space t ≡ k = place_found is_space t k found in
    let within : position_or_len is_space t < length t = rw place low in
    let byte : get_or t k 0 ≡ 32 = is_true_space _ (ap (λ n. is_space (get_or t n 0)) (sym place) ∙ passes_at_first is_space t 0 within) in
    let some : 0 < k = not_first t k first byte in (
      omega (arith, length-take k t),
      λ i d h.
          let below : i < k = omega (arith, length-take k t) in
          let other : is_space (get_or t i d) ≡ false = fails_before_first is_space t i d (rw place below) in
          other_byte _ (ap is_space (get_or-take k t i d below) ∙ other),
    )

-- a text in which no space stands is a subfield
whole_subfield : (t : List ℕ) → 0 < length t → position is_space t ≡ None → IsSubfield t
whole_subfield t some none = (some, λ i d h. other_byte _ (no_space t none i d h))

-- where the first space stands, and what stands behind it and the spaces that follow it
record Splits (t : List ℕ) (k : ℕ) : Type 0 where
  low : k < length t
  found : position is_space t ≡ Some k
  front : IsSubfield (take k t)
  run : 0 < lead (drop k t)
  whole : t ≡ take k t ++ (replicate (lead (drop k t)) 32 ++ drop (lead (drop k t)) (drop k t))
  first : get_or (drop (lead (drop k t)) (drop k t)) 0 0 ≢ 32
  last : get_or (drop (lead (drop k t)) (drop k t)) (length (drop (lead (drop k t)) (drop k t)) - 1) 0 ≢ 32
  some : 0 < length (drop (lead (drop k t)) (drop k t))
  parts : subfields_of t ≡ take k t ∷ subfields_of (drop (lead (drop k t)) (drop k t))

lead-short : (t : List ℕ) → lead t ≤ length t
lead-short [] = omega arith
lead-short (b ∷ bs) = grind (arith, nat_tests, common_steps, lead-short bs)

lead-some : (t : List ℕ) → get_or t 0 0 ≡ 32 → 0 < lead t
lead-some [] h = absurd (omega arith)
lead-some (b ∷ bs) h = grind (arith, nat_tests, common_steps)

-- a text that doesn't end with a space isn't spaces alone behind a place
not_all_spaces : (t : List ℕ) (k : ℕ) → k < length t → get_or t (length t - 1) 0 ≢ 32 → lead (drop k t) < length (drop k t)
not_all_spaces t k low last = elim (cases_lt (lead (drop k t)) (length (drop k t))) [
  | inl less ↦ less
  | inr all ↦
      let long = length-drop k t in
      let at_end : length t - 1 - k < lead (drop k t) = omega arith in
      let space : get_or (drop k t) (length t - 1 - k) 0 ≡ 32 = lead-below (drop k t) (length t - 1 - k) at_end in
      let place : k + (length t - 1 - k) ≡ length t - 1 = omega arith in
      absurd (last (sym (get_or-drop k t (length t - 1 - k) 0 ∙ ap (λ n. get_or t n 0) place) ∙ space))
]

splits : (t : List ℕ) (k : ℕ) → get_or t 0 0 ≢ 32 → get_or t (length t - 1) 0 ≢ 32 → position is_space t ≡ Some k → k < length t → Splits t k
splits t k first last found low =
    let place : position_or_len is_space t ≡ k = place_found is_space t k found in
    let byte : get_or t k 0 ≡ 32 = is_true_space _ (ap (λ n. is_space (get_or t n 0)) (sym place) ∙ passes_at_first is_space t 0 (rw place low)) in
    let more : lead (drop k t) < length (drop k t) = not_all_spaces t k low last in
    let b = drop k t in
    let j = lead (drop k t) in
    let long = length-drop j b in
    let end : j + (length (drop j b) - 1) ≡ length b - 1 = omega arith in
    let far : k + (length b - 1) ≡ length t - 1 = let long = length-drop k t in omega arith in
    let ends : get_or (drop j b) (length (drop j b) - 1) 0 ≡ get_or t (length t - 1) 0 =
    get_or-drop j b (length (drop j b) - 1) 0 ∙ ap (λ n. get_or b n 0) end ∙ get_or-drop k t (length b - 1) 0 ∙ ap (λ n. get_or t n 0) far in
    record {
      low = low;
      found = found;
      front = front_subfield t k first found low;
      run = lead-some b (get_or-drop k t 0 0 ∙ ap (λ n. get_or t n 0) (let e : k + 0 ≡ k = omega arith in e) ∙ byte);
      whole = sym (take-append-drop k t) ∙ ap (λ r. take k t ++ r) (lead-spaces b);
      first = lead-first b;
      last = λ h. last (sym ends ∙ h);
      some = omega arith;
      parts = first_of_more t k first found low ∙ ap (λ r. take k t ∷ r) (sym (lead-found b));
    }

-- a text with a space, or without one
text_cases : (t : List ℕ) → ((k : ℕ) × (k < length t) × (position is_space t ≡ Some k)) ⊎ (position is_space t ≡ None)
text_cases t = elim (cases_lt (position_or_len is_space t) (length t)) [
  | inl low ↦ inl (position_or_len is_space t, low, rw (lt-ltb (position_or_len is_space t) (length t) low) refl)
  | inr high ↦ inr (rw (le-ltb (position_or_len is_space t) (length t) high) refl)
]

-- a text that doesn't begin with a space has a subfield, unless it is empty
no_parts : (t : List ℕ) → get_or t 0 0 ≢ 32 → 0 < length t → subfields_of t ≡ [] → ⊥
no_parts t first some e = elim (text_cases t) [
  | inl more ↦ let is = first_of_more t more.0 first more.2 more.1 in absurd (cc)
  | inr none ↦ let is = only_one t some none in absurd (cc)
]

heads_same : (s u : List ℕ) (xs ys : List (List ℕ)) → s ∷ xs ≡ u ∷ ys → (s ≡ u) × (xs ≡ ys)
heads_same s u xs ys h = (cc, cc)

not_empty : (t s : List ℕ) (xs : List (List ℕ)) → subfields_of t ≡ s ∷ xs → 0 < length t
not_empty [] s xs h = let is = none_left [] refl in absurd (cc)
not_empty (b ∷ bs) s xs h = omega arith

-- what is found so is joined so
pub found_joined : (xs : List (List ℕ)) (t : List ℕ) → subfields_of t ≡ xs → get_or t 0 0 ≢ 32 → get_or t (length t - 1) 0 ≢ 32 → HasSubfields t xs
found_joined [] [] e first last = refl
found_joined [] (b ∷ bs) e first last = absurd (no_parts (b ∷ bs) first (omega arith) e)
found_joined (s ∷ []) t e first last = elim (text_cases t) [
  | inl more ↦
      let cut = splits t more.0 first last more.2 more.1 in
      let same = heads_same _ _ _ _ (sym cut.parts ∙ e) in
      absurd (no_parts _ cut.first cut.some same.1)
  | inr none ↦
      let some : 0 < length t = not_empty t s [] e in
      let same = heads_same _ _ _ _ (sym (only_one t some none) ∙ e) in
      (subst IsSubfield same.0 (whole_subfield t some none), same.0)
]
found_joined (s ∷ next ∷ more) t e first last = elim (text_cases t) [
  | inl place ↦
      let cut = splits t place.0 first last place.2 place.1 in
      let same = heads_same _ _ _ _ (sym cut.parts ∙ e) in (
        subst IsSubfield same.0 cut.front,
        lead (drop place.0 t),
        drop (lead (drop place.0 t)) (drop place.0 t),
        cut.run,
        cut.whole ∙ ap (λ u. u ++ (replicate (lead (drop place.0 t)) 32 ++ drop (lead (drop place.0 t)) (drop place.0 t))) same.0,
        found_joined (next ∷ more) (drop (lead (drop place.0 t)) (drop place.0 t)) same.1 cut.first cut.last,
      )
  | inr none ↦
      let some : 0 < length t = not_empty t s (next ∷ more) e in
      let same = heads_same _ _ _ _ (sym (only_one t some none) ∙ e) in
      let nothing = none_left [] refl in
      absurd (let clash : [] ≡ next ∷ more = sym nothing ∙ same.1 in cc)
]

pub finds_subfields : FindsSubfields
finds_subfields t first last = found_joined (subfields_of t) t refl first last
