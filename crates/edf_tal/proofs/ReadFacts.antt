-- What is spelled so splits so.
use Rattle.std.proofs.Common.{◌≡◌, ℕ, ◌+◌, ◌-◌, ◌<◌, ◌≤◌, ◌==◌, Bool, ◌&&◌, List, [], ◌∷◌, ◌++◌, map, length, take, drop, get_or, refl, sym, ◌∙◌, ap, arith, true, false, cond, suc, subst, lit≤, ◌||◌, eqb-true, inl, inr, Option, Some, None, Result, Ok, Err, append_assoc, take_all, append-nil, lt-ltb, le-ltb, true≢false, length-append}
use Rattle.std.proofs.lemmas.List.Elements.{All-head, All-tail}
use Rattle.std.specs.Prelude.{ℤ, nat_lt, slice_index, All}
use Rattle.std.specs.List.{position_or_len, list_any}
use Rattle.std.specs.Option.{ok_or}
use Rattle.std.proofs.lemmas.Bool.{cases_Bool, false_from_ne_true}
use Rattle.std.proofs.lemmas.List.Splits.{length-slice_split}
use Rattle.std.proofs.Math.Seq.{take-append_seam, get_or-append_seam}
use Rattle.edf_fields.specs.declared.faults.cause.TalCause.{TalCause}
use Rattle.edf_fields.specs.declared.faults.cause.TalCause.TheVariants.{BadDuration, NoEnd, NotZeroFilled}
use Rattle.edf_fields.specs.texts.Onsets.{SpellsOnset}
use Rattle.edf_fields.specs.texts.OnsetsReading.{onset_of, span_of, SpellsSpan}
use Rattle.edf_fields.proofs.ForCallers.{onset_of_spelled, span_of_spelled, onset_bytes_from, span_bytes_from}
use Rattle.edf_tal.specs.Tals.{TalValue, SpellsTal, SpellsDuration, IsText, IsLaneOf}
use Rattle.edf_tal.specs.Faults.{Lacks}
use Rattle.edf_tal.specs.Reading.{until, behind, pieces, closed, texts_of, duration_of, judge_texts, onto, tal_of, tal_of_parts, items_of, items_of_pieces, ◌then◌, is_control, ended, are_zeros}
use Rattle.edf_tal.proofs.TextFacts.{closed-cons, is_fine, judged-more, no_control}
use Rattle.edf_tal.proofs.LaneFacts.{items_of-nil, items_of-zero, pieces-cons, split-pos, not_nil}

pub lacks-append : (c : ℕ) (xs ys : List ℕ) → Lacks c xs → Lacks c ys → Lacks c (xs ++ ys)
lacks-append c [] ys h k = k
lacks-append c (x ∷ xs) ys h k = (h.0, lacks-append c xs ys h.1 k)

-- where a list is cut
pub position-lacks : (c : ℕ) (xs ys : List ℕ) → (c == c) ≡ true → Lacks c xs → position_or_len (λ b. b == c) (xs ++ c ∷ ys) ≡ length xs
position-lacks c [] ys r h = rw r
position-lacks c (x ∷ xs) ys r h = let first = h.0 in rw first (omega (arith, position-lacks c xs ys r h.1))

position-none : (c : ℕ) (xs : List ℕ) → Lacks c xs → position_or_len (λ b. b == c) xs ≡ length xs
position-none c [] h = refl
position-none c (x ∷ xs) h = let first = h.0 in rw first (omega (arith, position-none c xs h.1))

drop-seam : (c : ℕ) (xs ys : List ℕ) → drop (length xs + 1) (xs ++ c ∷ ys) ≡ ys
drop-seam c [] ys = refl
drop-seam c (x ∷ xs) ys =
    let one_more : length (x ∷ xs) + 1 ≡ suc (length xs + 1) = omega arith in
    ap (λ n. drop n (x ∷ (xs ++ c ∷ ys))) one_more ∙ drop-seam c xs ys

pub before-lacks : (c : ℕ) (xs ys : List ℕ) → (c == c) ≡ true → Lacks c xs → until c (xs ++ c ∷ ys) ≡ xs
before-lacks c xs ys r h = ap (λ n. take n (xs ++ c ∷ ys)) (position-lacks c xs ys r h) ∙ take-append_seam xs (c ∷ ys)

pub after-lacks : (c : ℕ) (xs ys : List ℕ) → (c == c) ≡ true → Lacks c xs → behind c (xs ++ c ∷ ys) ≡ ys
after-lacks c xs ys r h = ap (λ n. drop (n + 1) (xs ++ c ∷ ys)) (position-lacks c xs ys r h) ∙ drop-seam c xs ys

pub split-lacks : (c : ℕ) (xs ys : List ℕ) → (c == c) ≡ true → Lacks c xs → pieces c (xs ++ c ∷ ys) ≡ xs ∷ pieces c ys
split-lacks c [] ys r h = rw r
split-lacks c (x ∷ xs) ys r h = let first = h.0 in let later = split-lacks c xs ys r h.1 in rw (first, later)

-- ---- what the parts lack

or_false : (x y : Bool) → (x || y) ≡ false → (x ≡ false) × (y ≡ false)
or_false true y h = absurd (true≢false h)
or_false false y h = (refl, h)

and_true : (x y : Bool) → (x && y) ≡ true → (x ≡ true) × (y ≡ true)
and_true true y h = (refl, h)
and_true false y h = absurd (true≢false (sym h))

above-lacks : (c b : ℕ) → c < b → (b == c) ≡ false
above-lacks c b h = false_from_ne_true _ (λ holds. omega (arith, eqb-true b c holds))

-- bytes that are all above c
high-lacks : (c : ℕ) (s : List ℕ) → ((k : ℕ) → k < length s → c < slice_index s k) → Lacks c s
high-lacks c [] h = tt
high-lacks c (b ∷ bs) h = (above-lacks c b (h 0 (omega arith)), high-lacks c bs (λ k lt. h (suc k) (omega arith)))

pub lacks-text : (c : ℕ) (t : List ℕ) → is_control c ≡ true → list_any is_control t ≡ false → Lacks c t
lacks-text c [] k h = tt
lacks-text c (b ∷ bs) k h = elim (cases_Bool (b == c)) [
  | inl holds ↦
      let is : is_control b ≡ true = ap is_control (eqb-true b c holds) ∙ k in
      absurd (true≢false (sym (ap (λ t. t || list_any is_control bs) is) ∙ h))
  | inr fails ↦ (fails, lacks-text c bs k ((or_false (is_control b) _ h).1))
]

span-lacks : (c : ℕ) (s : List ℕ) (v : ℤ) → c ≤ 42 → SpellsSpan s v → Lacks c s
span-lacks c s v h e = high-lacks c s (λ k lt. let low = span_bytes_from s v (span_of_spelled s v e) k lt in omega (arith, low))

pub onset-lacks : (c : ℕ) (s : List ℕ) (v : ℤ) → c ≤ 42 → SpellsOnset s v → Lacks c s
onset-lacks c s v h e = high-lacks c s (λ k lt. let low = onset_bytes_from s v (onset_of_spelled s v e) k lt in omega (arith, low))

pub duration-lacks : (c : ℕ) (s : List ℕ) (v : Option ℤ) → c ≤ 42 → (21 == c) ≡ false → SpellsDuration s v → Lacks c s
duration-lacks c s None h k e = rw e tt
duration-lacks c s (Some v) h k (digits, is, time, value) = rw is (k, span-lacks c digits v h (time, value))

texts-lack : (ts : List (List ℕ)) → All IsText ts → Lacks 0 (ended ts)
texts-lack [] h = tt
texts-lack (t ∷ ts) h = lacks-append 0 (t ++ 20 ∷ []) (ended ts) (lacks-append 0 t (20 ∷ []) (lacks-text 0 t refl (no_control t (All-head IsText t ts h).1)) (refl, tt)) (texts-lack ts (All-tail IsText t ts h))

-- ---- what is read of what is spelled

pub texts-read : (ts : List (List ℕ)) → All IsText ts → texts_of (ended ts) ≡ ts
texts-read [] h = refl
texts-read (t ∷ ts) h =
    ap texts_of (append_assoc t (20 ∷ []) (ended ts))
    ∙ ap closed (split-lacks 20 t (ended ts) refl (lacks-text 20 t refl (no_control t (All-head IsText t ts h).1)))
    ∙ closed-cons t (pieces 20 (ended ts)) (omega (arith, length-slice_split (λ (b : ℕ). b == 20) (ended ts)))
    ∙ ap (λ xs. t ∷ xs) (texts-read ts (All-tail IsText t ts h))

pub texts-judge_texts : (ts : List (List ℕ)) → All IsText ts → judge_texts ts ≡ Ok tt
texts-judge_texts [] h = refl
texts-judge_texts (t ∷ ts) h =
    let first : IsText t = All-head IsText t ts h in
    judged-more t ts (is_fine t first.0 (no_control t first.1)) ∙ texts-judge_texts ts (All-tail IsText t ts h)

pub duration-read : (onset s : List ℕ) (v : Option ℤ) → Lacks 21 onset → SpellsDuration s v → (until 21 (onset ++ s) ≡ onset) × (duration_of (onset ++ s) ≡ Ok v)
duration-read onset s None l e =
    let whole : onset ++ s ≡ onset = ap (λ s. onset ++ s) e ∙ append-nil onset in
    let at_end = position-none 21 onset l in
    let none : nat_lt (position_or_len (λ b. b == 21) onset) (length onset) ≡ false = le-ltb _ _ (omega (arith, at_end)) in (
      ap (λ h. until 21 h) whole ∙ take_all _ onset (omega (arith, at_end)),
      ap duration_of whole ∙ ap (λ b. cond b (ok_or (span_of (behind 21 onset)) BadDuration then λ d. Ok (Some d)) (Ok None)) none,
    )
duration-read onset s (Some v) l (digits, is, time, value) =
    let whole : onset ++ s ≡ onset ++ 21 ∷ digits = ap (λ s. onset ++ s) is in
    let found : nat_lt (position_or_len (λ b. b == 21) (onset ++ 21 ∷ digits)) (length (onset ++ 21 ∷ digits)) ≡ true = lt-ltb _ _ (omega (arith, position-lacks 21 onset digits refl l, length-append onset (21 ∷ digits))) in
    let read : (ok_or (span_of (behind 21 (onset ++ 21 ∷ digits))) BadDuration then λ d. Ok (Some d)) ≡ Ok (Some v) =
    ap (λ a. ok_or (span_of a) BadDuration then λ d. Ok (Some d)) (after-lacks 21 onset digits refl l) ∙ ap (λ o. ok_or o BadDuration then λ d. Ok (Some d)) (span_of_spelled digits v (time, value)) in (
      ap (λ h. until 21 h) whole ∙ before-lacks 21 onset digits refl l,
      ap duration_of whole ∙ ap (λ b. cond b (ok_or (span_of (behind 21 (onset ++ 21 ∷ digits))) BadDuration then λ d. Ok (Some d)) (Ok None)) found ∙ read,
    )

pub last-is : (xs : List ℕ) (ts : List (List ℕ)) → get_or (xs ++ 20 ∷ ended ts) (length (xs ++ 20 ∷ ended ts) - 1) 0 ≡ 20
last-is xs [] = ap (λ n. get_or (xs ++ 20 ∷ []) n 0) (omega (arith, length-append xs (20 ∷ []))) ∙ get_or-append_seam xs 20 [] 0
last-is xs (t ∷ ts) =
    let same : xs ++ 20 ∷ ended (t ∷ ts) ≡ (xs ++ 20 ∷ t) ++ 20 ∷ ended ts =
    ap (λ ys. xs ++ 20 ∷ ys) (append_assoc t (20 ∷ []) (ended ts)) ∙ sym (append_assoc xs (20 ∷ t) (20 ∷ ended ts)) in
    rw same (last-is (xs ++ 20 ∷ t) ts)

parts-read : (head body : List ℕ) (o s : List ℕ) (t : TalValue) → head ≡ o ++ s → body ≡ ended t.texts → SpellsOnset o t.onset → SpellsDuration s t.duration → All IsText t.texts → tal_of_parts head body ≡ Ok t
unfolding tal_of_parts
parts-read head body o s t e f onset duration texts =
    let d = duration-read o s t.duration (onset-lacks 21 o t.onset (lit≤ tt) onset) duration in
    let first : onset_of (until 21 head) ≡ Some t.onset = ap (λ h. onset_of (until 21 h)) e ∙ ap onset_of d.0 ∙ onset_of_spelled o t.onset onset in
    let second : duration_of head ≡ Ok t.duration = ap duration_of e ∙ d.1 in
    let third : texts_of body ≡ t.texts = ap texts_of f ∙ texts-read t.texts texts in
    let fourth : judge_texts (texts_of body) ≡ Ok tt = ap judge_texts third ∙ texts-judge_texts t.texts texts in
    rw (first, second, fourth, third)

pub tal-read : (s : List ℕ) (t : TalValue) → SpellsTal s t → tal_of s ≡ Ok t
tal-read s t sp =
    let head : List ℕ = sp.onset ++ sp.duration in
    let body : List ℕ = ended t.texts in
    let l : Lacks 20 head = lacks-append 20 sp.onset sp.duration (onset-lacks 20 sp.onset t.onset (lit≤ tt) sp.onset_is) (duration-lacks 20 sp.duration t.duration (lit≤ tt) refl sp.duration_is) in
    let is_end : (get_or s (length s - 1) 0 == 20) ≡ true = ap (λ s. get_or s (length s - 1) 0 == 20) sp.whole ∙ ap (λ b. b == 20) (last-is head t.texts) in
    let front : until 20 s ≡ head = ap (λ s. until 20 s) sp.whole ∙ before-lacks 20 head body refl l in
    let back : behind 20 s ≡ body = ap (λ s. behind 20 s) sp.whole ∙ after-lacks 20 head body refl l in
    ap (λ b. cond b (tal_of_parts (until 20 s) (behind 20 s)) (Err NoEnd)) is_end
    ∙ parts-read _ _ sp.onset sp.duration t front back sp.onset_is sp.duration_is sp.texts

pub tal-lacks : (s : List ℕ) (t : TalValue) → SpellsTal s t → Lacks 0 s
tal-lacks s t sp =
    let head = lacks-append 0 sp.onset sp.duration (onset-lacks 0 sp.onset t.onset (lit≤ tt) sp.onset_is) (duration-lacks 0 sp.duration t.duration (lit≤ tt) refl sp.duration_is) in
    subst (Lacks 0) (sym sp.whole) (lacks-append 0 (sp.onset ++ sp.duration) (20 ∷ ended t.texts) head (refl, texts-lack t.texts sp.texts))

pub tal-some : (s : List ℕ) (t : TalValue) → SpellsTal s t → 0 < length s
tal-some s t sp = omega (arith, ap length sp.whole, length-append (sp.onset ++ sp.duration) (20 ∷ ended t.texts))

pub items_of-front : (s rest : List ℕ) → Lacks 0 s → 0 < length s → items_of (s ++ 0 ∷ rest) ≡ onto (tal_of s) (items_of rest)
unfolding items_of
items_of-front s rest l h = ap items_of_pieces (split-lacks 0 s rest refl l) ∙ pieces-cons s (pieces 0 rest) (split-pos rest) (not_nil s h)

pub zeros-read : (lane : List ℕ) → are_zeros lane ≡ true → items_of lane ≡ []
zeros-read [] h = items_of-nil
zeros-read (b ∷ bs) h =
    let first : b ≡ 0 = eqb-true b 0 (and_true (b == 0) _ h).0 in
    items_of-zero (b ∷ bs) (omega arith) first ∙ ap (λ t. cond t [] (Err NotZeroFilled ∷ [])) h

pub lane-read : (tals : List TalValue) (lane : List ℕ) → IsLaneOf lane tals → items_of lane ≡ map Ok tals
lane-read [] lane h = zeros-read lane h
lane-read (t ∷ ts) lane (s, rest, spelled, whole, later) =
    ap items_of whole ∙ items_of-front s rest (tal-lacks s t spelled) (tal-some s t spelled)
    ∙ ap (λ i. onto i (items_of rest)) (tal-read s t spelled) ∙ ap (λ xs. Ok t ∷ xs) (lane-read ts rest later)

-- the items tell the list
items-tell : (tals others : List TalValue) → map {B = Result TalValue TalCause} Ok tals ≡ map Ok others → tals ≡ others
items-tell [] [] h = refl
items-tell [] (t ∷ others) h = absurd (let z : [] ≡ Ok t ∷ map Ok others = h in cc)
items-tell (t ∷ tals) [] h = absurd (let z : Ok t ∷ map Ok tals ≡ [] = h in cc)
items-tell (t ∷ tals) (u ∷ others) h =
    let first : t ≡ u = cc in
    let rest : map Ok tals ≡ map Ok others = cc in
    ap (λ x. x ∷ tals) first ∙ ap (λ xs. u ∷ xs) (items-tell tals others rest)

pub one-list : (lane : List ℕ) (tals others : List TalValue) → IsLaneOf lane tals → IsLaneOf lane others → tals ≡ others
one-list lane tals others h k = items-tell tals others (sym (lane-read tals lane h) ∙ lane-read others lane k)
