-- What splits so is spelled so, and what is spelled so splits so.
use Rattle.std.proofs.Common.{◌≡◌, ◌≢◌, ℕ, ◌-◌, ◌<◌, ◌==◌, List, [], ◌∷◌, ◌++◌, map, length, get_or, refl, sym, ◌∙◌, ap, arith, true, cond, subst, eqb-true, inl, inr, Option, Some, None, Result, Ok, Err, take_all, append-nil, lt-ltb, le-ltb, ◌⊎◌, true≢false}
use Rattle.edf_tal.proofs.TextFacts.{bytes_of_text}
use Rattle.std.proofs.lemmas.List.Elements.{All-nil, All-cons}
use Rattle.std.specs.Prelude.{ℤ, All}
use Rattle.std.specs.List.{position_or_len}
use Rattle.std.specs.Option.{ok_or}
use Rattle.std.proofs.lemmas.Bool.{cases_Bool, cases_lt}
use Rattle.std.proofs.lemmas.List.Sums.{split_at_first, passes_at_first}
use Rattle.edf_fields.specs.declared.faults.cause.TalCause.{TalCause}
use Rattle.edf_fields.specs.declared.faults.cause.TalCause.TheVariants.{BadOnset, BadDuration, NoEnd, NotZeroFilled}
use Rattle.edf_fields.specs.texts.Onsets.{SpellsOnset}
use Rattle.edf_fields.specs.texts.OnsetsReading.{onset_of, span_of}
use Rattle.edf_fields.proofs.ForCallers.{onset_of_some, span_of_some}
use Rattle.edf_tal.specs.Tals.{TalValue, SpellsTal, SpellsDuration, IsText, IsLaneOf}
use Rattle.edf_tal.specs.Reading.{until, behind, Item, texts_of, duration_of, judge_texts, IsClosed, onto, tal_of, tal_of_parts, items_of, ◌then◌, are_zeros}
use Rattle.edf_tal.proofs.LaneFacts.{items_of-nil, items_of-zero, items_of-endless, items_of-tal, spelled-texts_of, judged-ok, closed_cut, closed_after, first-not_nil, position-le}

-- ---- what splits so is spelled so

bind_ok : {A B : Type 0} (r : Result A TalCause) (f : A → Result B TalCause) (y : B) → (r then f) ≡ Ok y → (x : A) × (r ≡ Ok x) × (f x ≡ Ok y)
bind_ok (Ok x) f y h = (x, refl, h)
bind_ok (Err e) f y h = absurd (cc)

ok_or_ok : {A : Type 0} (o : Option A) (e : TalCause) (x : A) → ok_or o e ≡ Ok x → o ≡ Some x
ok_or_ok None e x h = absurd (cc)
ok_or_ok (Some y) e x h = cc

judged-texts : (ts : List (List ℕ)) → judge_texts ts ≡ Ok tt → All IsText ts
judged-texts [] h = All-nil IsText
judged-texts (t ∷ ts) h = let parts = judged-ok t ts h in All-cons IsText t ts (parts.0, bytes_of_text t parts.1) (judged-texts ts parts.2)

-- the front, the byte and what follows it
pub parted : (c : ℕ) (bs : List ℕ) → position_or_len (λ b. b == c) bs < length bs → bs ≡ until c bs ++ c ∷ behind c bs
parted c bs h =
    let found = eqb-true _ _ (passes_at_first (λ b. b == c) bs 0 h) in
    split_at_first (λ b. b == c) bs 0 h ∙ ap (λ x. until c bs ++ x ∷ behind c bs) found

-- what stands before the first byte 20 spells an onset, and maybe a duration
pub record Head (head : List ℕ) (onset : ℤ) (duration : Option ℤ) : Type 0 where
  pub first : List ℕ
  pub second : List ℕ
  pub onset_is : SpellsOnset first onset
  pub duration_is : SpellsDuration second duration
  pub whole : head ≡ first ++ second

pub head-spelled : (head : List ℕ) (onset : ℤ) (duration : Option ℤ) → onset_of (until 21 head) ≡ Some onset → duration_of head ≡ Ok duration → Head head onset duration
head-spelled head onset duration o d = elim (cases_lt (position_or_len (λ b. b == 21) head) (length head)) [
  | inl found ↦
      let d' = rw (lt-ltb (position_or_len (λ b. b == 21) head) (length head) found) at d in
      let parts = bind_ok (ok_or (span_of (behind 21 head)) BadDuration) (λ d. Ok (Some d)) duration d' in
      let is : Some parts.0 ≡ duration = cc in
      let span = span_of_some (behind 21 head) parts.0 (ok_or_ok _ BadDuration _ parts.1) in
      record {
        first = until 21 head;
        second = 21 ∷ behind 21 head;
        onset_is = onset_of_some _ onset o;
        duration_is = subst (SpellsDuration (21 ∷ behind 21 head)) is (behind 21 head, refl, span.0, span.1);
        whole = parted 21 head found;
      }
  | inr none ↦
      let d' = rw (le-ltb (position_or_len (λ b. b == 21) head) (length head) none) at d in
      let is : None ≡ duration = cc in
      record {
        first = head;
        second = [];
        onset_is = onset_of_some head onset (ap onset_of (sym (take_all (position_or_len (λ b. b == 21) head) head none)) ∙ o);
        duration_is = subst (SpellsDuration []) is refl;
        whole = sym (append-nil head);
      }
]

parts-spelled : (head body : List ℕ) (t : TalValue) → IsClosed body → tal_of_parts head body ≡ Ok t → SpellsTal (head ++ 20 ∷ body) t
unfolding tal_of_parts
parts-spelled head body t h e =
    let a = bind_ok (ok_or (onset_of (until 21 head)) BadOnset) _ t e in
    let b = bind_ok (duration_of head) _ t a.2 in
    let c = bind_ok (judge_texts (texts_of body)) _ t b.2 in
    let made : TalValue = record { onset = a.0; duration = b.0; texts = texts_of body } in
    let is : made ≡ t = cc in
    let front = head-spelled head a.0 b.0 (ok_or_ok _ BadOnset _ a.1) b.1 in
    subst (SpellsTal (head ++ 20 ∷ body)) is (record {
      onset = front.first;
      duration = front.second;
      onset_is = front.onset_is;
      duration_is = front.duration_is;
      texts = judged-texts (texts_of body) c.1;
      whole = ap (λ h. h ++ 20 ∷ body) front.whole ∙ ap (λ b. (front.first ++ front.second) ++ 20 ∷ b) (sym (spelled-texts_of body h));
    })

pub tal-spelled : (piece : List ℕ) (t : TalValue) → 0 < length piece → tal_of piece ≡ Ok t → SpellsTal piece t
tal-spelled piece t h e = elim (cases_Bool (get_or piece (length piece - 1) 0 == 20)) [
  | inr open_end ↦
      let is : Err NoEnd ≡ Ok t = sym (ap (λ b. cond b (tal_of_parts (until 20 piece) (behind 20 piece)) (Err NoEnd)) open_end) ∙ e in
      absurd (cc)
  | inl ends ↦
      let is : get_or piece (length piece - 1) 0 ≡ 20 = eqb-true _ _ ends in
      let e' : tal_of_parts (until 20 piece) (behind 20 piece) ≡ Ok t =
      sym (ap (λ b. cond b (tal_of_parts (until 20 piece) (behind 20 piece)) (Err NoEnd)) ends) ∙ e in
      subst (λ s. SpellsTal s t) (sym (parted 20 piece (closed_cut piece h is))) (parts-spelled _ _ t (closed_after piece h is) e')
]

-- how a lane begins
abbrev pub IsZeros : List ℕ → Type 0
IsZeros lane = (are_zeros lane ≡ true) × (items_of lane ≡ [])

abbrev pub IsFault : List ℕ → Type 0
IsFault lane = (e : TalCause) × (items_of lane ≡ Err e ∷ [])

abbrev pub IsMore : List ℕ → Type 0
IsMore lane = (piece : List ℕ) × (rest : List ℕ) × (0 < length piece) × (lane ≡ piece ++ 0 ∷ rest) × (items_of lane ≡ onto (tal_of piece) (items_of rest))

pub lane-cases : (lane : List ℕ) → IsZeros lane ⊎ (IsFault lane ⊎ IsMore lane)
lane-cases [] = inl (refl, items_of-nil)
lane-cases (b ∷ bs) = elim (cases_Bool (b == 0)) [
  | inl zero_first ↦
      let read = items_of-zero (b ∷ bs) (omega arith) (eqb-true b 0 zero_first) in
      elim (cases_Bool (are_zeros (b ∷ bs))) [
        | inl zeros ↦ inl (zeros, read ∙ ap (λ t. cond t [] (Err NotZeroFilled ∷ [])) zeros)
        | inr others ↦ inr (inl (NotZeroFilled, read ∙ ap (λ t. cond t [] (Err NotZeroFilled ∷ [])) others))
      ]
  | inr text_first ↦ elim (cases_lt (position_or_len (λ b. b == 0) (b ∷ bs)) (length (b ∷ bs))) [
    | inl found ↦
        let first : b ≢ 0 = λ is. true≢false (ap (λ c. c == 0) (sym is) ∙ text_first) in
        inr (inr (until 0 (b ∷ bs), behind 0 (b ∷ bs), first-not_nil (b ∷ bs) first, parted 0 (b ∷ bs) found, items_of-tal (b ∷ bs) first found))
    | inr none ↦ inr (inl (NoEnd, items_of-endless (b ∷ bs) (omega arith) (omega (arith, position-le 0 (b ∷ bs)))))
  ]
]

pub onto-ok : (i : Item) (items others : List Item) (t : TalValue) → onto i items ≡ Ok t ∷ others → (i ≡ Ok t) × (items ≡ others)
onto-ok (Ok u) items others t h = (cc, cc)
onto-ok (Err e) items others t h = absurd (cc)

onto-nil : (i : Item) (items : List Item) → onto i items ≡ [] → ⊥
onto-nil (Ok u) items h = cc
onto-nil (Err e) items h = cc

pub lane-spelled : (tals : List TalValue) (lane : List ℕ) → items_of lane ≡ map Ok tals → IsLaneOf lane tals
lane-spelled [] lane h = elim (lane-cases lane) [
  | inl zeros ↦ zeros.0
  | inr (inl fault) ↦ let is = fault.1 in absurd (cc)
  | inr (inr more) ↦ absurd (onto-nil _ _ (sym more.4 ∙ h))
]
lane-spelled (t ∷ ts) lane h = elim (lane-cases lane) [
  | inl zeros ↦ let is = zeros.1 in absurd (cc)
  | inr (inl fault) ↦ let is = fault.1 in absurd (cc)
  | inr (inr more) ↦
      let parts = onto-ok _ _ _ t (sym more.4 ∙ h) in
      (more.0, more.1, tal-spelled more.0 t more.2 parts.0, more.3, lane-spelled ts more.1 parts.1)
]
