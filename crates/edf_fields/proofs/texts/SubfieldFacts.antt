-- The subfields of a text, taken off one by one.
use Rattle.std.proofs.Common.{◌≡◌, ◌≢◌, ℕ, zero, suc, true, false, ◌+◌, ◌<◌, List, [], ◌∷◌, length, get_or, take, drop, arith, refl, ap, ◌∙◌, sym, Some, None, nat_lt, filter, lt-ltb, All}
use Rattle.std.specs.List.{position, position_or_len, slice_split}
use Rattle.std.proofs.lemmas.Bool.Decides.{nat_tests}
use Rattle.std.proofs.lemmas.List.{length-take}
use Rattle.std.proofs.lemmas.List.Splits.{slice_split_first, slice_split_none}
use Rattle.std.proofs.lemmas.List.Sums.{passes_at_first, fails_before_first}
use Rattle.edf_fields.specs.texts.SubfieldsReading.{is_space, subfields_of}
use Rattle.edf_fields.proofs.PlaceFacts.{place_found, place_missing}
use Rattle.edf_fields.proofs.texts.ZeroFacts.{at_place}

-- a space in front doesn't count
pub space_first : (xs : List ℕ) → subfields_of (32 ∷ xs) ≡ subfields_of xs
unfolding subfields_of
space_first xs = refl

pub skip_space : (xs : List ℕ) (i : ℕ) → i < length xs → get_or xs i 0 ≡ 32 → subfields_of (drop (i + 1) xs) ≡ subfields_of (drop i xs)
skip_space xs i h e =
    sym (ap subfields_of (at_place xs i h ∙ ap (λ b. b ∷ drop (i + 1) xs) e) ∙ space_first (drop (i + 1) xs))

-- nothing has no subfields
pub none_left : (xs : List ℕ) → length xs ≡ 0 → subfields_of xs ≡ []
unfolding subfields_of
none_left [] h = refl
none_left (x ∷ xs) h = absurd (omega arith)

-- a part that isn't empty stays
pub kept_first : (s : List ℕ) (parts : List (List ℕ)) → 0 < length s → filter (λ s. nat_lt 0 (length s)) (s ∷ parts) ≡ s ∷ filter (λ s. nat_lt 0 (length s)) parts
kept_first s parts h = rw (lt-ltb 0 (length s) h) refl

pub is_true_space : (b : ℕ) → is_space b ≡ true → b ≡ 32
is_true_space b h = grind (arith, nat_tests)

-- a place that isn't the first
pub not_first : (xs : List ℕ) (k : ℕ) → get_or xs 0 0 ≢ 32 → get_or xs k 0 ≡ 32 → 0 < k
not_first xs zero h e = absurd (h e)
not_first xs (suc k) h e = omega arith

-- the first subfield, where a space stands behind it
pub first_of_more : (xs : List ℕ) (k : ℕ) → get_or xs 0 0 ≢ 32 → position is_space xs ≡ Some k → k < length xs → subfields_of xs ≡ take k xs ∷ subfields_of (drop k xs)
unfolding subfields_of
first_of_more xs k first found low =
    let place : position_or_len is_space xs ≡ k = place_found is_space xs k found in
    let within : position_or_len is_space xs < length xs = rw place low in
    let split : slice_split is_space xs ≡ take k xs ∷ slice_split is_space (drop (k + 1) xs) = slice_split_first is_space xs 0 within ∙ ap (λ n. take n xs ∷ slice_split is_space (drop (n + 1) xs)) place in
    let byte : get_or xs k 0 ≡ 32 = is_true_space _ (ap (λ n. is_space (get_or xs n 0)) (sym place) ∙ passes_at_first is_space xs 0 within) in
    let behind : 0 < k = not_first xs k first byte in
    let long : 0 < length (take k xs) = omega (arith, length-take k xs) in
    ap (λ parts. filter (λ s. nat_lt 0 (length s)) parts) split
    ∙ kept_first (take k xs) (slice_split is_space (drop (k + 1) xs)) long
    ∙ ap (λ rest. take k xs ∷ rest) (skip_space xs k low byte)

-- the only subfield, where no space stands
pub no_space : (xs : List ℕ) → position is_space xs ≡ None → All (λ b. is_space b ≡ false) xs
no_space xs none k d low =
    let place : position_or_len is_space xs ≡ length xs = place_missing is_space xs none in
    fails_before_first is_space xs k d (rw place low)

pub only_one : (xs : List ℕ) → 0 < length xs → position is_space xs ≡ None → subfields_of xs ≡ xs ∷ subfields_of []
unfolding subfields_of
only_one xs some none =
    ap (λ parts. filter (λ s. nat_lt 0 (length s)) parts) (slice_split_none is_space xs (no_space xs none)) ∙ kept_first xs [] some
