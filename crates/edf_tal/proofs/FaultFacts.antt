-- The first fault of a lane, in words and as it is read.
use Rattle.std.proofs.Common.{◌≡◌, ◌≢◌, ℕ, suc, ℤ, ◌+◌, ◌-◌, ◌<◌, ◌==◌, ◌&&◌, true, false, cond, List, [], ◌∷◌, ◌++◌, map, length, get_or, Option, Some, None, Result, Ok, Err, inl, inr, refl, sym, ap, ◌∙◌, subst, arith, append_assoc, length-append, eqb-true, lt-ltb, le-ltb, true≢false}
use Rattle.std.proofs.lemmas.List.Elements.{All-nil, All-cons, All-head, All-tail}
use Rattle.std.specs.Prelude.{IsUtf8, All}
use Rattle.std.specs.List.{position_or_len, list_any, onto_first}
use Rattle.std.specs.Option.{ok_or}
use Rattle.std.specs.Str.{is_utf8}
use Rattle.std.proofs.lemmas.Bool.{cases_Bool, cases_lt}
use Rattle.std.proofs.lemmas.List.Splits.{length-slice_split}
use Rattle.std.proofs.lemmas.Str.{IsUtf8-from_is_utf8, is_utf8-from_IsUtf8}
use Rattle.edf_fields.specs.texts.OnsetsReading.{onset_of, span_of, SpellsSpan}
use Rattle.edf_fields.proofs.ForCallers.{onset_of_spelled, onset_of_some, onset_of_none, span_of_spelled, span_of_none}
use Rattle.edf_fields.specs.declared.faults.cause.TalCause.{TalCause}
use Rattle.edf_fields.specs.declared.faults.cause.TalCause.TheVariants.{BadOnset, BadDuration, NoEnd, NotUtf8, ControlByte, NotZeroFilled}
use Rattle.edf_tal.specs.Tals.{TalValue, IsText}
use Rattle.edf_tal.specs.Reading.{Item, until, behind, pieces, closed, texts_of, duration_of, judge_text, judge_texts, IsClosed, onto, tal_of, tal_of_parts, items_of, ◌then◌, is_control, ended, are_zeros}
use Rattle.edf_tal.specs.Faults.{Lacks, BeginsWith, SpellsHead, FirstBadText, HasFault, FaultAfter}
use Rattle.edf_tal.proofs.TextFacts.{closed-cons, not_utf8, has_control, is_fine, judged-bad, judged-more, until-more, no_control, bytes_of_text}
use Rattle.edf_tal.proofs.LaneFacts.{items_of-nil, items_of-zero, items_of-endless, items_of-tal, spelled-texts_of, judged-ok, closed_cut, closed_after, first-not_nil, open_piece, position-le}
use Rattle.edf_tal.proofs.ReadFacts.{before-lacks, after-lacks, position-lacks, split-lacks, lacks-text, onset-lacks, duration-read, last-is, tal-lacks, tal-some, tal-read, items_of-front}
use Rattle.edf_tal.proofs.LawFacts.{head-spelled, parted, onto-ok, tal-spelled, lane-cases}

-- ---- what begins a lane is read as a TAL

last-closed : (head body : List ℕ) → IsClosed body → get_or (head ++ 20 ∷ body) (length (head ++ 20 ∷ body) - 1) 0 ≡ 20
last-closed head body h =
    ap (λ b. get_or (head ++ 20 ∷ b) (length (head ++ 20 ∷ b) - 1) 0) (sym (spelled-texts_of body h)) ∙ last-is head (texts_of body)

piece-parts : (head body : List ℕ) → IsClosed body → Lacks 20 head → tal_of (head ++ 20 ∷ body) ≡ tal_of_parts head body
piece-parts head body h l =
    let ends : (get_or (head ++ 20 ∷ body) (length (head ++ 20 ∷ body) - 1) 0 == 20) ≡ true = ap (λ b. b == 20) (last-closed head body h) in
    ap (λ b. cond b (tal_of_parts (until 20 (head ++ 20 ∷ body)) (behind 20 (head ++ 20 ∷ body))) (Err NoEnd)) ends
    ∙ ap (λ x. tal_of_parts x (behind 20 (head ++ 20 ∷ body))) (before-lacks 20 head body refl l)
    ∙ ap (tal_of_parts head) (after-lacks 20 head body refl l)

begun : (lane head body : List ℕ) → (w : BeginsWith lane head body) → items_of lane ≡ onto (tal_of_parts head body) (items_of w.rest)
begun lane head body w =
    ap items_of w.whole ∙ items_of-front (head ++ 20 ∷ body) w.rest w.no_zero (omega (arith, length-append head (20 ∷ body)))
    ∙ ap (λ i. onto i (items_of w.rest)) (piece-parts head body w.closed w.no_end)

-- ---- the parts at fault

parts-onset : (head body : List ℕ) → onset_of (until 21 head) ≡ None → tal_of_parts head body ≡ Err BadOnset
unfolding tal_of_parts
parts-onset head body e = rw e

parts-duration : (head body : List ℕ) (v : ℤ) → onset_of (until 21 head) ≡ Some v → duration_of head ≡ Err BadDuration → tal_of_parts head body ≡ Err BadDuration
unfolding tal_of_parts
parts-duration head body v e d = rw (e, d)

parts-text : (head body : List ℕ) (v : ℤ) (duration : Option ℤ) (cause : TalCause) → onset_of (until 21 head) ≡ Some v → duration_of head ≡ Ok duration → judge_texts (texts_of body) ≡ Err cause → tal_of_parts head body ≡ Err cause
unfolding tal_of_parts
parts-text head body v duration cause e d t = rw (e, d, t)

no-span : (head : List ℕ) → position_or_len (λ b. b == 21) head < length head → ((v : ℤ) → SpellsSpan (behind 21 head) v → ⊥) → duration_of head ≡ Err BadDuration
no-span head found none = rw (lt-ltb (position_or_len (λ b. b == 21) head) (length head) found, span_of_none (behind 21 head) none)

head-read : (head : List ℕ) → (h : SpellsHead head) → (onset_of (until 21 head) ≡ Some h.onset_value) × (duration_of head ≡ Ok h.duration_value)
head-read head h =
    let d = duration-read h.onset h.duration h.duration_value (onset-lacks 21 h.onset h.onset_value (omega arith) h.onset_is) h.duration_is in (
      ap (λ x. onset_of (until 21 x)) h.whole ∙ ap onset_of d.0 ∙ onset_of_spelled h.onset h.onset_value h.onset_is,
      ap duration_of h.whole ∙ d.1,
    )

one-text : (text after : List ℕ) → Lacks 20 text → texts_of (text ++ 20 ∷ after) ≡ text ∷ texts_of after
one-text text after l =
    ap closed (split-lacks 20 text after refl l)
    ∙ closed-cons text (pieces 20 after) (omega (arith, length-slice_split (λ (b : ℕ). b == 20) after))

bad-read : (before : List (List ℕ)) (text after : List ℕ) (cause : TalCause) → All IsText before → Lacks 20 text → judge_text text ≡ Err cause → judge_texts (texts_of (ended before ++ (text ++ 20 ∷ after))) ≡ Err cause
bad-read [] text after cause good l bad = ap judge_texts (one-text text after l) ∙ judged-bad text (texts_of after) cause bad
bad-read (t ∷ ts) text after cause good l bad =
    let rest = ended ts ++ (text ++ 20 ∷ after) in
    let first : IsText t = All-head IsText t ts good in
    let whole : ended (t ∷ ts) ++ (text ++ 20 ∷ after) ≡ t ++ 20 ∷ rest =
    ap (λ x. x ++ (text ++ 20 ∷ after)) (append_assoc t (20 ∷ []) (ended ts)) ∙ append_assoc t (20 ∷ ended ts) (text ++ 20 ∷ after) in
    ap (λ x. judge_texts (texts_of x)) whole
    ∙ ap judge_texts (one-text t rest (lacks-text 20 t refl (no_control t first.1)))
    ∙ judged-more t (texts_of rest) (is_fine t first.0 (no_control t first.1))
    ∙ bad-read ts text after cause (All-tail IsText t ts good) l bad

-- ---- what a lane begins with

until-lacks : (c : ℕ) (bytes : List ℕ) → Lacks c (until c bytes)
until-lacks c [] = tt
until-lacks c (b ∷ bytes) = elim (cases_Bool (b == c)) [
  | inl holds ↦ rw holds tt
  | inr fails ↦ subst (Lacks c) (sym (until-more c b bytes fails)) (fails, until-lacks c bytes)
]

begins : (lane : List ℕ) → position_or_len (λ b. b == 0) lane < length lane → (get_or (until 0 lane) (length (until 0 lane) - 1) 0 == 20) ≡ true → get_or lane 0 0 ≢ 0
    → BeginsWith lane (until 20 (until 0 lane)) (behind 20 (until 0 lane))
begins lane found ends first =
    let piece = until 0 lane in
    let some : 0 < length piece = first-not_nil lane first in
    let last : get_or piece (length piece - 1) 0 ≡ 20 = eqb-true _ _ ends in
    let cut : piece ≡ until 20 piece ++ 20 ∷ behind 20 piece = parted 20 piece (closed_cut piece some last) in
    record {
      rest = behind 0 lane;
      whole = parted 0 lane found ∙ ap (λ x. x ++ 0 ∷ behind 0 lane) cut;
      no_zero = subst (Lacks 0) cut (until-lacks 0 lane);
      no_end = until-lacks 20 piece;
      closed = closed_after piece some last;
    }

-- ---- a fault in words is read

pub fault-is : (lane : List ℕ) (cause : TalCause) → HasFault lane cause → items_of lane ≡ Err cause ∷ []
fault-is lane NotZeroFilled (rest, whole, others) =
    ap items_of whole ∙ items_of-zero (0 ∷ rest) (omega arith) refl ∙ ap (λ t. cond t [] (Err NotZeroFilled ∷ [])) others
fault-is lane NoEnd (b, rest, whole, some, none) =
    let first : get_or lane 0 0 ≢ 0 = λ e. some (ap (λ (x : List ℕ). get_or x 0 0) (sym whole) ∙ e) in
    let long : 0 < length lane = rw whole (omega arith) in
    elim (cases_lt (position_or_len (λ b. b == 0) lane) (length lane)) [
      | inl found ↦ elim (cases_Bool (get_or (until 0 lane) (length (until 0 lane) - 1) 0 == 20)) [
        | inl ends ↦ absurd (none _ _ (begins lane found ends first))
        | inr open_end ↦
            items_of-tal lane first found
            ∙ ap (λ i. onto i (items_of (behind 0 lane))) (open_piece (until 0 lane) (λ e. true≢false (ap (λ x. x == 20) (sym e) ∙ open_end)))
      ]
      | inr behind_all ↦ items_of-endless lane long (omega (arith, position-le 0 lane))
    ]
fault-is lane BadOnset (head, body, w, none) =
    begun lane head body w ∙ ap (λ i. onto i (items_of w.rest)) (parts-onset head body (onset_of_none (until 21 head) none))
fault-is lane BadDuration (head, body, w, onset, found, none) =
    begun lane head body w
    ∙ ap (λ i. onto i (items_of w.rest)) (parts-duration head body onset.0 (onset_of_spelled (until 21 head) onset.0 onset.1) (no-span head found none))
fault-is lane NotUtf8 (head, body, text, w, h, first, bad) =
    let r = head-read head h in
    begun lane head body w
    ∙ ap (λ i. onto i (items_of w.rest)) (parts-text head body h.onset_value h.duration_value NotUtf8 r.0 r.1
    (ap (λ x. judge_texts (texts_of x)) first.whole ∙ bad-read first.before text first.after NotUtf8 first.good first.no_end (not_utf8 text bad)))
fault-is lane ControlByte (head, body, text, w, h, first, utf8, bad) =
    let r = head-read head h in
    begun lane head body w
    ∙ ap (λ i. onto i (items_of w.rest)) (parts-text head body h.onset_value h.duration_value ControlByte r.0 r.1
    (ap (λ x. judge_texts (texts_of x)) first.whole ∙ bad-read first.before text first.after ControlByte first.good first.no_end (has_control text utf8 bad)))

-- ---- a fault that is read, in words

onto-err : (i : Item) (items : List Item) (cause : TalCause) → onto i items ≡ Err cause ∷ [] → i ≡ Err cause
onto-err (Ok tal) items cause h = absurd (let z : Ok tal ∷ items ≡ Err cause ∷ [] = h in cc)
onto-err (Err e) items cause h = cc

-- each text that ends before a byte 20 has none
abbrev AllLack : List (List ℕ) → Type 0
AllLack [] = Unit {0}
AllLack (t ∷ ts) = Lacks 20 t × AllLack ts

first-lacks : (b : ℕ) (parts : List (List ℕ)) → (b == 20) ≡ false → AllLack parts → AllLack (onto_first b parts)
first-lacks b [] f h = ((f, tt), tt)
first-lacks b (p ∷ ps) f h = ((f, h.0), h.1)

pieces-lack : (bytes : List ℕ) → AllLack (pieces 20 bytes)
pieces-lack [] = (tt, tt)
pieces-lack (b ∷ bytes) = elim (cases_Bool (b == 20)) [
  | inl holds ↦ rw holds (tt, pieces-lack bytes)
  | inr fails ↦ rw fails (first-lacks b (pieces 20 bytes) fails (pieces-lack bytes))
]

closed-lack : (parts : List (List ℕ)) → AllLack parts → AllLack (closed parts)
closed-lack [] h = tt
closed-lack (p ∷ []) h = tt
closed-lack (p ∷ q ∷ ps) h = (h.0, closed-lack (q ∷ ps) h.1)

-- the first of these texts that is none
record BadAmong (texts : List (List ℕ)) (cause : TalCause) : Type 0 where
  before : List (List ℕ)
  text : List ℕ
  more : List (List ℕ)
  whole : texts ≡ before ++ text ∷ more
  good : All IsText before
  no_end : Lacks 20 text
  bad : judge_text text ≡ Err cause

bad-among : (texts : List (List ℕ)) (cause : TalCause) → AllLack texts → judge_texts texts ≡ Err cause → BadAmong texts cause
bad-among [] cause l h = absurd (let z : Ok tt ≡ Err cause = h in cc)
bad-among (t ∷ ts) cause l h = cases (judge_text t) refl (λ k. bad-among ts cause l.1 k)
  where
    cases : (r : Result (Unit {0}) TalCause) → judge_text t ≡ r → (judge_texts ts ≡ Err cause → BadAmong ts cause) → BadAmong (t ∷ ts) cause
    cases (Err e) is rest =
        let same : e ≡ cause = (let z : Err e ≡ Err cause = sym (judged-bad t ts e is) ∙ h in cc) in
        record { before = []; text = t; more = ts; whole = refl; good = All-nil IsText; no_end = l.0; bad = is ∙ ap Err same }
    cases (Ok u) is rest =
        let r = rest (sym (judged-more t ts is) ∙ h) in
        let parts = judged-ok t [] (judged-more t [] is) in
        record { before = t ∷ r.before; text = r.text; more = r.more; whole = ap (λ x. t ∷ x) r.whole; good = All-cons IsText t r.before (parts.0, bytes_of_text t parts.1) r.good; no_end = r.no_end; bad = r.bad }

ended-append : (xs ys : List (List ℕ)) → ended (xs ++ ys) ≡ ended xs ++ ended ys
ended-append [] ys = refl
ended-append (x ∷ xs) ys = ap (λ z. (x ++ 20 ∷ []) ++ z) (ended-append xs ys) ∙ sym (append_assoc (x ++ 20 ∷ []) (ended xs) (ended ys))

first-bad : (body : List ℕ) (cause : TalCause) → IsClosed body → (r : BadAmong (texts_of body) cause) → FirstBadText body r.text
first-bad body cause h r = record {
  before = r.before;
  after = ended r.more;
  whole = sym (spelled-texts_of body h) ∙ ap ended r.whole ∙ ended-append r.before (r.text ∷ r.more) ∙ ap (λ z. ended r.before ++ z) (append_assoc r.text (20 ∷ []) (ended r.more));
  good = r.good;
  no_end = r.no_end;
}

spells-head : (head : List ℕ) (onset : ℤ) (duration : Option ℤ) → onset_of (until 21 head) ≡ Some onset → duration_of head ≡ Ok duration → SpellsHead head
spells-head head onset duration o d =
    let h = head-spelled head onset duration o d in
    record { onset = h.first; duration = h.second; onset_value = onset; duration_value = duration; onset_is = h.onset_is; duration_is = h.duration_is; whole = h.whole }

text-fault : (lane head body text : List ℕ) (cause : TalCause) → BeginsWith lane head body → SpellsHead head → FirstBadText body text → judge_text text ≡ Err cause → HasFault lane cause
text-fault lane head body text cause w h first bad = elim (cases_Bool (is_utf8 text)) [
  | inr wrong ↦
      let none : IsUtf8 text → ⊥ = λ valid. true≢false (sym (is_utf8-from_IsUtf8 text valid) ∙ wrong) in
      let same : NotUtf8 ≡ cause = (let z : Err NotUtf8 ≡ Err cause = sym (not_utf8 text none) ∙ bad in cc) in
      subst (HasFault lane) same (head, body, text, w, h, first, none)
  | inl valid ↦
      let utf8 : IsUtf8 text = IsUtf8-from_is_utf8 text valid in
      elim (cases_Bool (list_any is_control text)) [
        | inl found ↦
            let same : ControlByte ≡ cause = (let z : Err ControlByte ≡ Err cause = sym (has_control text utf8 found) ∙ bad in cc) in
            subst (HasFault lane) same (head, body, text, w, h, first, utf8, found)
        | inr clean ↦ absurd (let z : Ok tt ≡ Err cause = sym (is_fine text utf8 clean) ∙ bad in cc)
      ]
]

parts-fault : (lane head body : List ℕ) (cause : TalCause) → BeginsWith lane head body → tal_of_parts head body ≡ Err cause → HasFault lane cause
unfolding tal_of_parts
parts-fault lane head body cause w h = onset (onset_of (until 21 head)) refl
  where
    texts : (v : ℤ) (duration : Option ℤ) → onset_of (until 21 head) ≡ Some v → duration_of head ≡ Ok duration → (r : Result (Unit {0}) TalCause) → judge_texts (texts_of body) ≡ r → HasFault lane cause
    texts v duration o d (Ok u) j = absurd (let z = rw (o, d, j) at h in cc)
    texts v duration o d (Err e) j =
        let same : e ≡ cause = (let z = rw (o, d, j) at h in cc) in
        let r = bad-among (texts_of body) cause (closed-lack (pieces 20 body) (pieces-lack body)) (j ∙ ap Err same) in
        text-fault lane head body r.text cause w (spells-head head v duration o d) (first-bad body cause w.closed r) r.bad

    durations : (v : ℤ) → onset_of (until 21 head) ≡ Some v → (r : Result (Option ℤ) TalCause) → duration_of head ≡ r → HasFault lane cause
    durations v o (Ok duration) d = texts v duration o d (judge_texts (texts_of body)) refl
    durations v o (Err e) d =
        let same : e ≡ cause = (let z = rw (o, d) at h in cc) in
        let is = no-duration head e d in
        let same' : BadDuration ≡ cause = sym is.0 ∙ same in
        subst (HasFault lane) same' (head, body, w, (v, onset_of_some (until 21 head) v o), is.1, is.2)
      where
        no-duration : (head : List ℕ) (e : TalCause) → duration_of head ≡ Err e → (e ≡ BadDuration) × (position_or_len (λ b. b == 21) head < length head) × ((v : ℤ) → SpellsSpan (behind 21 head) v → ⊥)
        no-duration head e d = elim (cases_lt (position_or_len (λ b. b == 21) head) (length head)) [
          | inr none ↦ absurd (let z = rw (le-ltb (position_or_len (λ b. b == 21) head) (length head) none) at d in cc)
          | inl found ↦ spans (span_of (behind 21 head)) refl (rw (lt-ltb (position_or_len (λ b. b == 21) head) (length head) found) at d) found
        ]
          where
            spans : (o : Option ℤ) → span_of (behind 21 head) ≡ o → (ok_or (span_of (behind 21 head)) BadDuration then λ duration. Ok (Some duration)) ≡ Err e → position_or_len (λ b. b == 21) head < length head
                → (e ≡ BadDuration) × (position_or_len (λ b. b == 21) head < length head) × ((v : ℤ) → SpellsSpan (behind 21 head) v → ⊥)
            spans None is d found = ((let z = rw is at d in cc), found, λ v s. let z : None ≡ Some v = sym is ∙ span_of_spelled (behind 21 head) v s in cc)
            spans (Some v) is d found = absurd (let z = rw is at d in cc)

    onset : (o : Option ℤ) → onset_of (until 21 head) ≡ o → HasFault lane cause
    onset None o =
        let same : BadOnset ≡ cause = (let z = rw o at h in cc) in
        subst (HasFault lane) same (head, body, w, λ v s. let z : None ≡ Some v = sym o ∙ onset_of_spelled (until 21 head) v s in cc)
    onset (Some v) o = durations v o (duration_of head) refl

-- a lane that begins so has a byte 0, and the byte 20 before it
begins-where : (lane head body : List ℕ) → BeginsWith lane head body → (until 0 lane ≡ head ++ 20 ∷ body) × (position_or_len (λ b. b == 0) lane < length lane)
begins-where lane head body w = (
  ap (until 0) w.whole ∙ before-lacks 0 (head ++ 20 ∷ body) w.rest refl w.no_zero,
  (let at : position_or_len (λ b. b == 0) lane ≡ length (head ++ 20 ∷ body) = ap (position_or_len (λ b. b == 0)) w.whole ∙ position-lacks 0 (head ++ 20 ∷ body) w.rest refl w.no_zero in
      let long : length lane ≡ length (head ++ 20 ∷ body) + suc (length w.rest) = ap length w.whole ∙ length-append (head ++ 20 ∷ body) (0 ∷ w.rest) in
      omega arith),
)

is-fault : (lane : List ℕ) (cause : TalCause) → items_of lane ≡ Err cause ∷ [] → HasFault lane cause
is-fault [] cause h = absurd (let z : [] ≡ Err cause ∷ [] = sym items_of-nil ∙ h in cc)
is-fault (b ∷ bytes) cause h = elim (cases_Bool (b == 0)) [
  | inl zero_first ↦
      let is : b ≡ 0 = eqb-true b 0 zero_first in
      let read = sym (items_of-zero (b ∷ bytes) (omega arith) is) ∙ h in
      elim (cases_Bool (are_zeros bytes)) [
        | inl zeros ↦
            let all : are_zeros (b ∷ bytes) ≡ true = ap (λ t. t && are_zeros bytes) zero_first ∙ zeros in
            absurd (let z : [] ≡ Err cause ∷ [] = sym (ap (λ t. cond t [] (Err NotZeroFilled ∷ [])) all) ∙ read in cc)
        | inr others ↦
            let all : are_zeros (b ∷ bytes) ≡ false = ap (λ t. t && are_zeros bytes) zero_first ∙ others in
            let same : NotZeroFilled ≡ cause = (let z : Err NotZeroFilled ∷ [] ≡ Err cause ∷ [] = sym (ap (λ t. cond t [] (Err NotZeroFilled ∷ [])) all) ∙ read in cc) in
            subst (HasFault (b ∷ bytes)) same (bytes, ap (λ x. x ∷ bytes) is, others)
      ]
  | inr text_first ↦
      let first : b ≢ 0 = λ e. true≢false (ap (λ x. x == 0) (sym e) ∙ text_first) in
      elim (cases_lt (position_or_len (λ x. x == 0) (b ∷ bytes)) (length (b ∷ bytes))) [
        | inr none ↦
            let same : NoEnd ≡ cause = (let z : Err NoEnd ∷ [] ≡ Err cause ∷ [] = sym (items_of-endless (b ∷ bytes) (omega arith) (omega (arith, position-le 0 (b ∷ bytes)))) ∙ h in cc) in
            subst (HasFault (b ∷ bytes)) same (b, bytes, refl, first, λ head body w. let at = (begins-where (b ∷ bytes) head body w).1 in absurd (omega arith))
        | inl found ↦
            let piece = until 0 (b ∷ bytes) in
            let refused : tal_of piece ≡ Err cause = onto-err (tal_of piece) (items_of (behind 0 (b ∷ bytes))) cause (sym (items_of-tal (b ∷ bytes) first found) ∙ h) in
            elim (cases_Bool (get_or piece (length piece - 1) 0 == 20)) [
              | inr open_end ↦
                  let same : NoEnd ≡ cause = (let z : Err NoEnd ≡ Err cause = sym (open_piece piece (λ e. true≢false (ap (λ x. x == 20) (sym e) ∙ open_end))) ∙ refused in cc) in
                  subst (HasFault (b ∷ bytes)) same (
                    b,
                    bytes,
                    refl,
                    first,
                    λ head body w.
                        let is = (begins-where (b ∷ bytes) head body w).0 in
                        let last : get_or piece (length piece - 1) 0 ≡ 20 = ap (λ x. get_or x (length x - 1) 0) is ∙ last-closed head body w.closed in
                        true≢false (ap (λ x. x == 20) (sym last) ∙ open_end),
                  )
              | inl ends ↦
                  let w = begins (b ∷ bytes) found ends first in
                  let parts : tal_of piece ≡ tal_of_parts (until 20 piece) (behind 20 piece) = ap (λ t. cond t (tal_of_parts (until 20 piece) (behind 20 piece)) (Err NoEnd)) ends in
                  parts-fault (b ∷ bytes) (until 20 piece) (behind 20 piece) cause w (sym parts ∙ refused)
            ]
      ]
]

-- ---- the TALs before a fault

pub fault-read : (tals : List TalValue) (cause : TalCause) (lane : List ℕ) → FaultAfter lane tals cause → items_of lane ≡ map Ok tals ++ Err cause ∷ []
fault-read [] cause lane h = fault-is lane cause h
fault-read (t ∷ ts) cause lane (s, rest, spelled, whole, later) =
    ap items_of whole ∙ items_of-front s rest (tal-lacks s t spelled) (tal-some s t spelled)
    ∙ ap (λ i. onto i (items_of rest)) (tal-read s t spelled) ∙ ap (λ xs. Ok t ∷ xs) (fault-read ts cause rest later)

pub fault-told : (tals : List TalValue) (cause : TalCause) (lane : List ℕ) → items_of lane ≡ map Ok tals ++ Err cause ∷ [] → FaultAfter lane tals cause
fault-told [] cause lane h = is-fault lane cause h
fault-told (t ∷ ts) cause lane h = elim (lane-cases lane) [
  | inl zeros ↦ let is = zeros.1 in absurd (cc)
  | inr (inl fault) ↦ let is = fault.1 in absurd (cc)
  | inr (inr more) ↦
      let parts = onto-ok _ _ _ t (sym more.4 ∙ h) in
      (more.0, more.1, tal-spelled more.0 t more.2 parts.0, more.3, fault-told ts cause more.1 parts.1)
]
