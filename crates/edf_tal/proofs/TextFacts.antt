-- Texts, cut at the byte 20 and judged one by one.
use Rattle.std.proofs.Common.{◌≡◌, ℕ, zero, suc, ◌+◌, ◌<◌, ◌≤◌, ◌-◌, ◌==◌, get_or, eqb-true, inl, inr, List, [], ◌∷◌, length, take, drop, refl, sym, ◌∙◌, ap, arith, true, false, not, ◌&&◌, length-drop, ◌⊎◌}
use Rattle.std.proofs.lemmas.List.Folds.{list_any_none}
use Rattle.std.proofs.lemmas.List.Elements.{All-nil, All-cons}
use Rattle.std.specs.List.{position_or_len, count_by, list_any}
use Rattle.std.proofs.lemmas.List.Splits.{slice_split_first, slice_split_none, length-slice_split}
use Rattle.std.proofs.lemmas.List.Sums.{fails_before_first}
use Rattle.std.proofs.lemmas.Str.{IsUtf8-from_is_utf8, is_utf8-from_IsUtf8, IsUtf8-take, IsUtf8-drop, IsCharBoundary-before_ascii, IsCharBoundary-after_ascii}
use Rattle.std.proofs.lemmas.Bool.{cases_Bool, cases_lt, false_from_ne_true, or_parts}
use Rattle.std.proofs.Math.Bool.{and-true}
use Rattle.std.proofs.lemmas.Bool.Decides.{nat_tests}
use Rattle.std.proofs.lemmas.Grind.{common_steps}
use Rattle.std.specs.Str.{IsUtf8, is_utf8}
use Rattle.std.specs.Prelude.{Ok, Err, Option, Some, None, MatchOption, All}
use Rattle.std.specs.Borrow.{Bor}
use Rattle.edf_fields.specs.declared.faults.cause.TalCause.{TalCause}
use Rattle.edf_fields.specs.declared.faults.cause.TalCause.TheVariants.{NotUtf8, ControlByte}
use Rattle.edf_tal.specs.Reading.{until, behind, pieces, closed, texts_of, judge_texts, judge_text, is_foreign, is_control}

pub closed-cons : (x : List ℕ) (parts : List (List ℕ)) → 0 < length parts → closed (x ∷ parts) ≡ x ∷ closed parts
closed-cons x [] h = absurd (omega arith)
closed-cons x (y ∷ ys) h = refl

pub texts_of-first : (bs : List ℕ) → position_or_len (λ b. b == 20) bs < length bs → texts_of bs ≡ until 20 bs ∷ texts_of (behind 20 bs)
texts_of-first bs h =
    ap closed (slice_split_first (λ b. b == 20) bs 0 h)
    ∙ closed-cons _ _ (omega (arith, length-slice_split (λ (b : ℕ). b == 20) (behind 20 bs)))

pub texts_of-none : (bs : List ℕ) → position_or_len (λ b. b == 20) bs ≡ length bs → texts_of bs ≡ []
texts_of-none bs h = ap closed (slice_split_none (λ b. b == 20) bs (λ k d l. fails_before_first (λ b. b == 20) bs k d (omega arith)))

-- the check of one text
pub not_utf8 : (t : List ℕ) → ¬ (IsUtf8 t) → judge_text t ≡ Err NotUtf8
not_utf8 t h = let bad : is_utf8 t ≡ false = false_from_ne_true _ (λ yes. h (IsUtf8-from_is_utf8 t yes)) in rw bad

pub has_control : (t : List ℕ) → IsUtf8 t → list_any is_control t ≡ true → judge_text t ≡ Err ControlByte
has_control t h bad = rw (is_utf8-from_IsUtf8 t h, bad)

-- the bytes of a text, as `IsText` has them and as a test
pub no_control : (t : List ℕ) → All (λ b. (32 ≤ b) ⊎ (b ≡ 9) ⊎ (b ≡ 10) ⊎ (b ≡ 13)) t → list_any is_control t ≡ false
no_control t h = list_any_none is_control t (λ k d lt. fine (get_or t k d) (h k d lt))
  where
    fine : (b : ℕ) → (32 ≤ b) ⊎ (b ≡ 9) ⊎ (b ≡ 10) ⊎ (b ≡ 13) → is_control b ≡ false
    fine b (inl high) = grind (arith, nat_tests)
    fine b (inr (inl tab)) = ap is_control tab
    fine b (inr (inr (inl line))) = ap is_control line
    fine b (inr (inr (inr back))) = ap is_control back

pub bytes_of_text : (t : List ℕ) → list_any is_control t ≡ false → All (λ b. (32 ≤ b) ⊎ (b ≡ 9) ⊎ (b ≡ 10) ⊎ (b ≡ 13)) t
bytes_of_text [] h = All-nil (λ b. (32 ≤ b) ⊎ (b ≡ 9) ⊎ (b ≡ 10) ⊎ (b ≡ 13))
bytes_of_text (c ∷ cs) h =
    let parts = or_parts (is_control c) (list_any is_control cs) h in
    All-cons (λ b. (32 ≤ b) ⊎ (b ≡ 9) ⊎ (b ≡ 10) ⊎ (b ≡ 13)) c cs (fine c parts.0) (bytes_of_text cs parts.1)
  where
    fine : (b : ℕ) → is_control b ≡ false → (32 ≤ b) ⊎ (b ≡ 9) ⊎ (b ≡ 10) ⊎ (b ≡ 13)
    fine b h = elim (cases_lt b 32) [
      | inr high ↦ inl high
      | inl low ↦ elim (cases_Bool (b == 9)) [
        | inl tab ↦ inr (inl (eqb-true b 9 tab))
        | inr other ↦ elim (cases_Bool (b == 10)) [
          | inl line ↦ inr (inr (inl (eqb-true b 10 line)))
          | inr another ↦ inr (inr (inr (grind (arith, nat_tests))))
        ]
      ]
    ]

pub is_fine : (t : List ℕ) → IsUtf8 t → list_any is_control t ≡ false → judge_text t ≡ Ok tt
is_fine t h good = rw (is_utf8-from_IsUtf8 t h, good)

pub judged-bad : (t : List ℕ) (ts : List (List ℕ)) (e : TalCause) → judge_text t ≡ Err e → judge_texts (t ∷ ts) ≡ Err e
judged-bad t ts e h = rw h

pub judged-more : (t : List ℕ) (ts : List (List ℕ)) → judge_text t ≡ Ok tt → judge_texts (t ∷ ts) ≡ judge_texts ts
judged-more t ts h = rw h

-- what a cut at byte 20 says of the texts
pub first_text_at : (bs : List ℕ) (r : Option (Bor (List ℕ) × Bor (List ℕ))) → MatchOption r (position_or_len (λ b. b == 20) bs ≡ length bs) (λ x.
    (position_or_len (λ b. b == 20) bs < length bs) × (x.0.now ≡ until 20 bs) × (x.1.now ≡ behind 20 bs))
    → MatchOption r (texts_of bs ≡ []) (λ x. (texts_of bs ≡ x.0.now ∷ texts_of x.1.now) × (length x.1.now < length bs))
first_text_at bs None h = texts_of-none bs h
first_text_at bs (Some x) h = (
  texts_of-first bs h.0 ∙ rw (h.1, h.2),
  rw (h.2, length-drop) (omega arith),
)

-- ---- how many texts there are

length-closed : (parts : List (List ℕ)) → length (closed parts) ≡ length parts - 1
length-closed [] = refl
length-closed (x ∷ []) = refl
length-closed (x ∷ y ∷ more) = let r = length-closed (y ∷ more) in omega (arith, r)

pub ends_counted : (bs : List ℕ) → length (texts_of bs) ≡ count_by (λ b. b == 20) bs
ends_counted bs =
    let closed-ones = length-closed (pieces 20 bs) in
    let parts = length-slice_split (λ b. b == 20) bs in
    omega (arith, closed-ones, parts)

-- ---- texts among which no control byte stands but those that end one

-- a byte that isn't looked for, in front
pub until-more : (c b : ℕ) (bytes : List ℕ) → (b == c) ≡ false → until c (b ∷ bytes) ≡ b ∷ until c bytes
until-more c b bytes f = rw f (ap (λ n. take n (b ∷ bytes)) (let e : 1 + position_or_len (λ x. x == c) bytes ≡ suc (position_or_len (λ x. x == c) bytes) = omega arith in e))

behind-more : (c b : ℕ) (bytes : List ℕ) → (b == c) ≡ false → behind c (b ∷ bytes) ≡ behind c bytes
behind-more c b bytes f = rw f (ap (λ n. drop n (b ∷ bytes)) (let e : 1 + position_or_len (λ x. x == c) bytes + 1 ≡ suc (position_or_len (λ x. x == c) bytes + 1) = omega arith in e))

-- none in the first of them
clean_first : (bs : List ℕ) → list_any is_foreign bs ≡ false → list_any is_control (until 20 bs) ≡ false
clean_first [] h = refl
clean_first (b ∷ bs) h = elim (cases_Bool (b == 20)) [
  | inl holds ↦ rw holds refl
  | inr other ↦
      let parts = or_parts (is_foreign b) (list_any is_foreign bs) h in
      let here : is_control b ≡ false = sym (and-true (is_control b)) ∙ ap (λ t. is_control b && not t) (sym other) ∙ parts.0 in
      ap (list_any is_control) (until-more 20 b bs other) ∙ rw here (clean_first bs parts.1)
]

-- nor in the others
clean_rest : (bs : List ℕ) → list_any is_foreign bs ≡ false → list_any is_foreign (behind 20 bs) ≡ false
clean_rest [] h = refl
clean_rest (b ∷ bs) h =
    let parts = or_parts (is_foreign b) (list_any is_foreign bs) h in
    elim (cases_Bool (b == 20)) [
      | inl holds ↦ let same : behind 20 (b ∷ bs) ≡ bs = rw holds refl in ap (list_any is_foreign) same ∙ parts.1
      | inr other ↦ ap (list_any is_foreign) (behind-more 20 b bs other) ∙ clean_rest bs parts.1
    ]

-- where the first of them ends
ends_within : (bs : List ℕ) → position_or_len (λ b. b == 20) bs ≤ length bs
ends_within [] = omega arith
ends_within (c ∷ cs) = grind (arith, nat_tests, common_steps, ends_within cs)

at_end : (bs : List ℕ) → position_or_len (λ b. b == 20) bs < length bs → get_or bs (position_or_len (λ b. b == 20) bs) 0 ≡ 20
at_end [] h = absurd (omega (arith, h))
at_end (c ∷ cs) h = elim (cases_Bool (c == 20)) [
  | inl holds ↦ rw holds (eqb-true c 20 holds)
  | inr other ↦
      let place : position_or_len (λ b. b == 20) (c ∷ cs) ≡ suc (position_or_len (λ b. b == 20) cs) = rw other (omega arith) in
      ap (λ k. get_or (c ∷ cs) k 0) place ∙ at_end cs (omega (arith, h, place))
]

-- texts that are UTF-8 together are each of the profile, where no other control byte stands among them
fine_within : (n : ℕ) (bs : List ℕ) → length bs < n → IsUtf8 bs → list_any is_foreign bs ≡ false → judge_texts (texts_of bs) ≡ Ok tt
fine_within zero bs few utf8 clean = absurd (omega (arith, few))
fine_within (suc n) bs few utf8 clean = elim (cases_lt (position_or_len (λ b. b == 20) bs) (length bs)) [
  | inl inside ↦
      let k : ℕ = position_or_len (λ b. b == 20) bs in
      let ascii : get_or bs k 0 < 128 = omega (arith, at_end bs inside) in
      let first = IsUtf8-take bs k utf8 (IsCharBoundary-before_ascii bs k inside ascii) in
      let rest = IsUtf8-drop bs (k + 1) utf8 (IsCharBoundary-after_ascii bs k utf8 inside ascii) in
      ap judge_texts (texts_of-first bs inside)
      ∙ judged-more (until 20 bs) (texts_of (behind 20 bs)) (is_fine (until 20 bs) first (clean_first bs clean))
      ∙ fine_within n (behind 20 bs) (omega (arith, few, length-drop (k + 1) bs)) rest (clean_rest bs clean)
  | inr outside ↦ ap judge_texts (texts_of-none bs (omega (arith, outside, ends_within bs)))
]

pub fine_together : (bs : List ℕ) → IsUtf8 bs → list_any is_foreign bs ≡ false → judge_texts (texts_of bs) ≡ Ok tt
fine_together bs utf8 clean = fine_within (suc (length bs)) bs (omega arith) utf8 clean
