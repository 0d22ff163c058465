-- The definitions of reading, at each case.
use Rattle.std.proofs.Common.{◌≡◌, ◌≢◌, ℕ, ◌+◌, ◌-◌, ◌<◌, ◌≤◌, ◌==◌, Bool, List, [], ◌∷◌, ◌++◌, length, drop, get_or, refl, sym, ◌∙◌, ap, arith, true, false, cond, length-drop, length-take, suc, subst, lit<, eqb-true, inl, inr, Ok, Err}
use Rattle.std.specs.List.{position_or_len, list_all, onto_first, list_any}
use Rattle.std.specs.Str.{IsUtf8, is_utf8}
use Rattle.std.proofs.lemmas.Bool.{cases_Bool, cases_lt, false_from_ne_true}
use Rattle.std.proofs.lemmas.Str.{IsUtf8-append, IsUtf8-nil, IsUtf8-from_is_utf8, encode_ascii}
use Rattle.std.proofs.lemmas.List.{get_or-drop}
use Rattle.std.proofs.lemmas.List.Splits.{slice_split_first, slice_split_none, length-slice_split}
use Rattle.std.proofs.lemmas.List.Sums.{fails_before_first, count_by-le-length}
use Rattle.edf_fields.specs.declared.faults.cause.TalCause.{TalCause}
use Rattle.edf_tal.proofs.TextFacts.{closed-cons}
use Rattle.edf_fields.specs.declared.faults.cause.TalCause.TheVariants.{NoEnd, NotZeroFilled}
use Rattle.edf_tal.specs.Tals.{TalValue}
use Rattle.edf_tal.specs.Reading.{until, behind, pieces, Item, closed, texts_of, judge_texts, IsClosed, is_nil, onto, tal_of, items_of, items_of_pieces, is_control, ended, are_zeros}

-- ---- a body that is closed

-- a byte 20 at the end is found
pub closed_cut : (bs : List ℕ) → 0 < length bs → get_or bs (length bs - 1) 0 ≡ 20 → position_or_len (λ b. b == 20) bs < length bs
closed_cut bs h e = elim (cases_lt (position_or_len (λ b. b == 20) bs) (length bs)) [
  | inl before ↦ before
  | inr behind ↦
      let fails : (20 == 20) ≡ false = ap (λ b. b == 20) (sym e) ∙ fails_before_first (λ b. b == 20) bs (length bs - 1) 0 (omega arith) in
      absurd (cc)
]

pub closed_after : (bs : List ℕ) → 0 < length bs → get_or bs (length bs - 1) 0 ≡ 20 → IsClosed (behind 20 bs)
closed_after bs h e more =
    let n : ℕ = position_or_len (λ b. b == 20) bs + 1 in
    let at_end : n + (length (drop n bs) - 1) ≡ length bs - 1 = omega (arith, length-drop n bs) in
    get_or-drop n bs (length (drop n bs) - 1) 0 ∙ ap (λ i. get_or bs i 0) at_end ∙ e

closed-tail : (b c : ℕ) (cs : List ℕ) → IsClosed (b ∷ c ∷ cs) → IsClosed (c ∷ cs)
closed-tail b c cs h more =
    let place : suc (length (c ∷ cs) - 1) ≡ length (b ∷ c ∷ cs) - 1 = omega arith in
    ap (λ i. get_or (b ∷ c ∷ cs) i 0) place ∙ h (omega arith)

onto-closed : (b : ℕ) (parts : List (List ℕ)) → 0 < length (closed parts) → ended (closed (onto_first b parts)) ≡ b ∷ ended (closed parts)
onto-closed b [] h = absurd (omega arith)
onto-closed b (p ∷ []) h = absurd (omega arith)
onto-closed b (p ∷ q ∷ ps) h = refl

some-texts : (ts : List (List ℕ)) → 0 < length (ended ts) → 0 < length ts
some-texts [] h = absurd (omega arith)
some-texts (t ∷ ts) h = omega arith

-- what the texts spell
pub spelled-texts_of : (bs : List ℕ) → IsClosed bs → ended (texts_of bs) ≡ bs
spelled-texts_of [] h = refl
spelled-texts_of (b ∷ []) h =
    let is : b ≡ 20 = h (omega arith) in
    rw is
spelled-texts_of (b ∷ c ∷ cs) h =
    let later = spelled-texts_of (c ∷ cs) (closed-tail b c cs h) in
    elim (cases_Bool (b == 20)) [
      | inl holds ↦
          let is : b ≡ 20 = eqb-true b 20 holds in
          ap (λ t. ended (closed (cond t ([] ∷ pieces 20 (c ∷ cs)) (onto_first b (pieces 20 (c ∷ cs)))))) holds
          ∙ ap ended (closed-cons [] (pieces 20 (c ∷ cs)) (omega (arith, length-slice_split (λ (b : ℕ). b == 20) (c ∷ cs))))
          ∙ ap (λ xs. 20 ∷ xs) later ∙ ap (λ x. x ∷ c ∷ cs) (sym is)
      | inr fails ↦
          let some : 0 < length (texts_of (c ∷ cs)) = some-texts _ (rw later (omega arith)) in
          ap (λ t. ended (closed (cond t ([] ∷ pieces 20 (c ∷ cs)) (onto_first b (pieces 20 (c ∷ cs)))))) fails
          ∙ onto-closed b (pieces 20 (c ∷ cs)) some ∙ ap (λ xs. b ∷ xs) later
    ]

pub judged-ok : (t : List ℕ) (ts : List (List ℕ)) → judge_texts (t ∷ ts) ≡ Ok tt → IsUtf8 t × (list_any is_control t ≡ false) × (judge_texts ts ≡ Ok tt)
judged-ok t ts h = elim (cases_Bool (is_utf8 t)) [
  | inr fails ↦ absurd (let h' = rw fails at h in cc)
  | inl holds ↦ elim (cases_Bool (list_any is_control t)) [
    | inl bad ↦ absurd (let h' = rw (holds, bad) at h in cc)
    | inr good ↦ (IsUtf8-from_is_utf8 t holds, good, rw (holds, good) at h)
  ]
]

byte-20 : IsUtf8 (20 ∷ [])
byte-20 = (20 ∷ [], (refl, rw (encode_ascii 20 (lit< tt))))

spelled-IsUtf8 : (ts : List (List ℕ)) → judge_texts ts ≡ Ok tt → IsUtf8 (ended ts)
spelled-IsUtf8 [] h = IsUtf8-nil
spelled-IsUtf8 (t ∷ ts) h =
    let parts = judged-ok t ts h in
    IsUtf8-append (t ++ 20 ∷ []) (ended ts) (IsUtf8-append t (20 ∷ []) parts.0 byte-20) (spelled-IsUtf8 ts parts.2)

pub closed-IsUtf8 : (bs : List ℕ) → IsClosed bs → judge_texts (texts_of bs) ≡ Ok tt → IsUtf8 bs
closed-IsUtf8 bs h s =
    let u = spelled-IsUtf8 (texts_of bs) s in
    subst IsUtf8 (spelled-texts_of bs h) u

-- ---- the first item of a lane

pub pieces-cons : (piece : List ℕ) (pieces : List (List ℕ)) → 0 < length pieces → is_nil piece ≡ false → items_of_pieces (piece ∷ pieces) ≡ onto (tal_of piece) (items_of_pieces pieces)
pieces-cons piece [] h n = absurd (omega arith)
pieces-cons piece (next ∷ pieces) h n = rw n

pub split-pos : (bs : List ℕ) → 0 < length (pieces 0 bs)
split-pos bs = omega (arith, length-slice_split (λ (b : ℕ). b == 0) bs)

pub items_of-nil : items_of [] ≡ []
unfolding items_of
items_of-nil = refl

pub items_of-empty : (lane : List ℕ) → length lane ≡ 0 → items_of lane ≡ []
items_of-empty [] h = items_of-nil
items_of-empty (b ∷ bs) h = absurd (omega arith)

onto-not_nil : (b : ℕ) (parts : List (List ℕ)) → list_all is_nil (onto_first b parts) ≡ false
onto-not_nil b [] = refl
onto-not_nil b (p ∷ ps) = refl

-- the pieces of zeros are empty
zeros-nil : (bs : List ℕ) → list_all is_nil (pieces 0 bs) ≡ are_zeros bs
zeros-nil [] = refl
zeros-nil (b ∷ bs) = elim (cases_Bool (b == 0)) [
  | inl holds ↦ rw holds (zeros-nil bs)
  | inr fails ↦ rw fails (onto-not_nil b (pieces 0 bs))
]

pieces-zero : (parts : List (List ℕ)) → 0 < length parts → items_of_pieces ([] ∷ parts) ≡ cond (list_all is_nil parts) [] (Err NotZeroFilled ∷ [])
pieces-zero [] h = absurd (omega arith)
pieces-zero (p ∷ ps) h = refl

pub items_of-zero : (lane : List ℕ) → 0 < length lane → get_or lane 0 0 ≡ 0 → items_of lane ≡ cond (are_zeros lane) [] (Err NotZeroFilled ∷ [])
unfolding items_of
items_of-zero [] h z = absurd (omega arith)
items_of-zero (b ∷ bs) h z =
    rw z (pieces-zero (pieces 0 bs) (split-pos bs) ∙ ap (λ t. cond t [] (Err NotZeroFilled ∷ [])) (zeros-nil bs))

pub not_nil : (bs : List ℕ) → 0 < length bs → is_nil bs ≡ false
not_nil [] h = absurd (omega arith)
not_nil (b ∷ bs) h = refl

pub items_of-endless : (lane : List ℕ) → 0 < length lane → position_or_len (λ b. b == 0) lane ≡ length lane → items_of lane ≡ Err NoEnd ∷ []
unfolding items_of
items_of-endless lane h n =
    ap items_of_pieces (slice_split_none (λ b. b == 0) lane (λ k d l. fails_before_first (λ b. b == 0) lane k d (omega arith)))
    ∙ rw (not_nil lane h)

pub first-not_nil : (lane : List ℕ) → get_or lane 0 0 ≢ 0 → 0 < length (until 0 lane)
first-not_nil [] h = absurd (h refl)
first-not_nil (b ∷ bs) h =
    let fails : (b == 0) ≡ false = false_from_ne_true _ (λ holds. h (eqb-true b 0 holds)) in
    rw fails (omega (arith, length-take {A = ℕ}))

pub items_of-tal : (lane : List ℕ) → get_or lane 0 0 ≢ 0 → position_or_len (λ b. b == 0) lane < length lane → items_of lane ≡ onto (tal_of (until 0 lane)) (items_of (behind 0 lane))
unfolding items_of
items_of-tal lane h n =
    ap items_of_pieces (slice_split_first (λ b. b == 0) lane 0 n)
    ∙ pieces-cons _ _ (split-pos (behind 0 lane)) (not_nil _ (first-not_nil lane h))

pub open_piece : (piece : List ℕ) → get_or piece (length piece - 1) 0 ≢ 20 → tal_of piece ≡ Err NoEnd
open_piece piece h =
    let fails : (get_or piece (length piece - 1) 0 == 20) ≡ false = false_from_ne_true _ (λ holds. h (eqb-true _ _ holds)) in
    rw fails

pub position-le : (c : ℕ) (bs : List ℕ) → position_or_len (λ b. b == c) bs ≤ length bs
position-le c [] = omega arith
position-le c (b ∷ bs) = elim (cases_Bool (b == c)) [
  | inl holds ↦ rw holds (omega arith)
  | inr fails ↦ rw fails (omega (arith, position-le c bs))
]

-- the items behind an Err are none
pub items_of-err : (lane : List ℕ) (e : TalCause) → items_of lane ≡ Err e ∷ [] → items_of lane ≡ Err e ∷ items_of []
items_of-err lane e h = h ∙ ap (λ xs. Err e ∷ xs) (sym items_of-nil)

one-at-most : (b : Bool) (n : ℕ) → length {A = Item} (cond b [] (Err NotZeroFilled ∷ [])) ≤ suc (suc n)
one-at-most true n = omega arith
one-at-most false n = omega arith

onto-length : (i : Item) (items : List Item) (n : ℕ) → length items ≤ n → length (onto i items) ≤ suc n
onto-length (Ok t) items n h = omega arith
onto-length (Err e) items n h = omega arith

length-pieces : (pieces : List (List ℕ)) → length (items_of_pieces pieces) ≤ length pieces
length-pieces [] = omega arith
length-pieces ([] ∷ []) = omega arith
length-pieces ((b ∷ bs) ∷ []) = omega arith
length-pieces ([] ∷ next ∷ pieces) = one-at-most (list_all is_nil (next ∷ pieces)) (length pieces)
length-pieces ((b ∷ bs) ∷ next ∷ pieces) = onto-length (tal_of (b ∷ bs)) _ _ (length-pieces (next ∷ pieces))

pub length-items_of : (lane : List ℕ) → length (items_of lane) ≤ length lane + 1
unfolding items_of
length-items_of lane = omega (arith, length-pieces (pieces 0 lane), length-slice_split (λ (b : ℕ). b == 0) lane, count_by-le-length (λ (b : ℕ). b == 0) lane)

-- ---- the first item, as a reader finds it

pub nothing_there : (lane : List ℕ) → length lane ≡ 0 → items_of lane ≡ []
nothing_there lane h = items_of-empty lane h

pub zeros_alone : (lane : List ℕ) → 0 < length lane → get_or lane 0 0 ≡ 0 → are_zeros lane ≡ true → items_of lane ≡ []
zeros_alone lane some first all = items_of-zero lane some first ∙ ap (λ t. cond t [] (Err NotZeroFilled ∷ [])) all

pub zeros_and_others : (lane : List ℕ) → 0 < length lane → get_or lane 0 0 ≡ 0 → are_zeros lane ≡ false → items_of lane ≡ Err NotZeroFilled ∷ items_of []
zeros_and_others lane some first not_all = items_of-err lane NotZeroFilled (items_of-zero lane some first ∙ ap (λ t. cond t [] (Err NotZeroFilled ∷ [])) not_all)

pub without_end : (lane : List ℕ) → 0 < length lane → position_or_len (λ b. b == 0) lane ≡ length lane → items_of lane ≡ Err NoEnd ∷ items_of []
without_end lane some none = items_of-err lane NoEnd (items_of-endless lane some none)

pub tal_read : (lane piece rest : List ℕ) (tal : TalValue) → get_or lane 0 0 ≢ 0 → position_or_len (λ b. b == 0) lane < length lane → piece ≡ until 0 lane → rest ≡ behind 0 lane → tal_of piece ≡ Ok tal
    → items_of lane ≡ Ok tal ∷ items_of rest
tal_read lane piece rest tal first found front back read =
    items_of-tal lane first found
    ∙ ap (λ i. onto i (items_of (behind 0 lane))) (ap tal_of (sym front) ∙ read)
    ∙ ap (λ xs. Ok tal ∷ items_of xs) (sym back)

pub tal_refused : (lane piece : List ℕ) (cause : TalCause) → get_or lane 0 0 ≢ 0 → position_or_len (λ b. b == 0) lane < length lane → piece ≡ until 0 lane → tal_of piece ≡ Err cause
    → items_of lane ≡ Err cause ∷ items_of []
tal_refused lane piece cause first found front read =
    items_of-err lane cause (items_of-tal lane first found ∙ ap (λ i. onto i (items_of (behind 0 lane))) (ap tal_of (sym front) ∙ read))

pub closed_piece : (piece : List ℕ) → 0 < length piece → get_or piece (length piece - 1) 0 ≡ 20 → position_or_len (λ b. b == 20) piece ≡ length piece → ⊥
closed_piece piece some last none = let found = closed_cut piece some last in absurd (omega arith)
