-- A plain order with room for all annotations has all of them.
use Rattle.std.proofs.Common.{◌≡◌, ℕ, ℤ, zero, suc, ◌+◌, ◌*◌, ◌<◌, Bool, true, false, cond, ◌||◌, nat_le, List, [], ◌∷◌, ◌++◌, length, map, take, drop, Option, Some, None, refl, ap, ◌∙◌, sym, subst, arith, length-append}
use Rattle.std.specs.List.{flat_map, list_any}
use Rattle.std.specs.List.Sorted.{IsPermutation}
use Rattle.std.specs.Option.{option_map, option_map_or}
use Rattle.std.proofs.lemmas.List.{append_assoc, take-append-drop, length-drop}
use Rattle.std.proofs.lemmas.Grind.{flat_map-append}
use Rattle.std.proofs.lemmas.List.Sorted.{IsPermutation-refl, IsPermutation-trans, IsPermutation-sym, IsPermutation-middle, IsPermutation-append_left, IsPermutation-append_right}
use Rattle.edf_tal.specs.Tals.{TalValue}
use Rattle.edf_stream.specs.annotation.Notes.{NoteValue}
use Rattle.edf_layout.specs.body.PlainOrders.{PlainOrder, FilledLane, tal_bytes, with_tal, put_first, put_from, record_for, tal_of_note, tal_of_start, bare_lane, bare_record, filled, parts_of, plain_lanes}
use Rattle.edf_layout.specs.body.PlainBodyLaws.{AllHaveRoom, PlainLanesHoldAll}

-- the TALs in lanes, one behind the other
abbrev tals_in : List FilledLane → List TalValue
tals_in lanes = flat_map (λ (lane : FilledLane). lane.tals) lanes

abbrev room : TalValue → FilledLane → Bool
room tal lane = nat_le (tal_bytes tal) lane.free

-- what has one more TAL
record HasOneMore (tal : TalValue) (before after : List FilledLane) : Type 0 where
  more : IsPermutation (tal ∷ tals_in before) (tals_in after)
  long : length after ≡ length before

abbrev MayHave : TalValue → List FilledLane → Option (List FilledLane) → Type 0
MayHave tal lanes None = list_any (room tal) lanes ≡ false
MayHave tal lanes (Some after) = HasOneMore tal lanes after

-- a TAL behind those of the first lane
put-here : (tal : TalValue) (lane : FilledLane) (lanes : List FilledLane) → HasOneMore tal (lane ∷ lanes) (with_tal tal lane ∷ lanes)
put-here tal lane lanes = record {
  more = subst (IsPermutation (tal ∷ (lane.tals ++ tals_in lanes))) (sym (append_assoc lane.tals (tal ∷ []) (tals_in lanes)))
      (IsPermutation-sym (lane.tals ++ tal ∷ tals_in lanes) (tal ∷ (lane.tals ++ tals_in lanes)) (IsPermutation-middle lane.tals tal (tals_in lanes)));
  long = refl;
}

-- what stands before them doesn't matter
put-behind : (tal : TalValue) (front before after : List FilledLane) → HasOneMore tal before after → HasOneMore tal (front ++ before) (front ++ after)
put-behind tal front before after h =
    let f : FilledLane → List TalValue = λ lane. lane.tals in
    let one : IsPermutation (tal ∷ (tals_in front ++ tals_in before)) (tals_in front ++ tal ∷ tals_in before) =
    IsPermutation-sym (tals_in front ++ tal ∷ tals_in before) (tal ∷ (tals_in front ++ tals_in before)) (IsPermutation-middle (tals_in front) tal (tals_in before)) in
    let two : IsPermutation (tals_in front ++ tal ∷ tals_in before) (tals_in front ++ tals_in after) = IsPermutation-append_right (tals_in front) (tal ∷ tals_in before) (tals_in after) h.more in
    record {
      more =
          subst (λ xs. IsPermutation (tal ∷ xs) (tals_in (front ++ after))) (sym (flat_map-append f front before))
          (subst (IsPermutation (tal ∷ (tals_in front ++ tals_in before))) (sym (flat_map-append f front after))
          (IsPermutation-trans (tal ∷ (tals_in front ++ tals_in before)) (tals_in front ++ tal ∷ tals_in before) (tals_in front ++ tals_in after) one two));
      long = length-append front after ∙ ap (λ n. length front + n) h.long ∙ sym (length-append front before);
    }

-- nor what stands behind
put-before : (tal : TalValue) (back before after : List FilledLane) → HasOneMore tal before after → HasOneMore tal (before ++ back) (after ++ back)
put-before tal back before after h =
    let f : FilledLane → List TalValue = λ lane. lane.tals in
    let one : IsPermutation (tal ∷ (tals_in before ++ tals_in back)) (tals_in after ++ tals_in back) = IsPermutation-append_left (tals_in back) (tal ∷ tals_in before) (tals_in after) h.more in
    record {
      more =
          subst (λ xs. IsPermutation (tal ∷ xs) (tals_in (after ++ back))) (sym (flat_map-append f before back))
          (subst (IsPermutation (tal ∷ (tals_in before ++ tals_in back))) (sym (flat_map-append f after back)) one);
      long = length-append after back ∙ ap (λ n. n + length back) h.long ∙ sym (length-append before back);
    }

first-may : (tal : TalValue) (lanes : List FilledLane) → MayHave tal lanes (put_first tal lanes)
first-may tal [] = refl
first-may tal (lane ∷ lanes) = cases (room tal lane) (put_first tal lanes) refl (first-may tal lanes)
  where
    cases : (b : Bool) (o : Option (List FilledLane)) → room tal lane ≡ b → MayHave tal lanes o → MayHave tal (lane ∷ lanes) (cond b (Some (with_tal tal lane ∷ lanes)) (option_map (λ after. lane ∷ after) o))
    cases true o e h = put-here tal lane lanes
    cases false None e h = ap (λ b. b || list_any (room tal) lanes) e ∙ h
    cases false (Some after) e h = put-behind tal (lane ∷ []) lanes after h

or-false : (a b : Bool) → (a || b) ≡ false → (a ≡ false) × (b ≡ false)
or-false true b h = absurd (let z : true ≡ false = h in cc)
or-false false b h = (refl, h)

any-append : (tal : TalValue) (xs ys : List FilledLane) → list_any (room tal) xs ≡ false → list_any (room tal) ys ≡ false → list_any (room tal) (xs ++ ys) ≡ false
any-append tal [] ys h k = k
any-append tal (x ∷ xs) ys h k =
    let both = or-false (room tal x) (list_any (room tal) xs) h in
    ap (λ b. b || list_any (room tal) (xs ++ ys)) both.0 ∙ any-append tal xs ys both.1 k

-- where some lane has room, one has the TAL
from-has : (at : ℕ) (tal : TalValue) (lanes : List FilledLane) → list_any (room tal) lanes ≡ true → HasOneMore tal lanes (put_from at tal lanes)
from-has at tal lanes some = cases (put_first tal (drop at lanes)) (put_first tal (take at lanes)) (first-may tal (drop at lanes)) (first-may tal (take at lanes))
  where
    whole : take at lanes ++ drop at lanes ≡ lanes
    whole = take-append-drop at lanes

    cases : (o p : Option (List FilledLane)) → MayHave tal (drop at lanes) o → MayHave tal (take at lanes) p
        → HasOneMore tal lanes (option_map_or (λ after. take at lanes ++ after) o (option_map_or (λ after. after ++ drop at lanes) p lanes))
    cases (Some after) p h k = subst (λ ls. HasOneMore tal ls (take at lanes ++ after)) whole (put-behind tal (take at lanes) (drop at lanes) after h)
    cases None (Some after) h k = subst (λ ls. HasOneMore tal ls (after ++ drop at lanes)) whole (put-before tal (drop at lanes) (take at lanes) after k)
    cases None None h k = absurd (let z : true ≡ false = sym some ∙ sym (ap (list_any (room tal)) whole) ∙ any-append tal (take at lanes) (drop at lanes) k h in cc)

-- all annotations, one by one
record HasAll (tals : List TalValue) (before after : List FilledLane) : Type 0 where
  more : IsPermutation (tals ++ tals_in before) (tals_in after)
  long : length after ≡ length before

all-have : (order : PlainOrder) (starts : List ℤ) (width i : ℕ) (notes : List NoteValue) (lanes : List FilledLane) → AllHaveRoom order starts width i notes lanes
    → HasAll (map tal_of_note notes) lanes (filled order starts width i notes lanes)
all-have order starts width i [] lanes h = record { more = IsPermutation-refl (tals_in lanes); long = refl }
all-have order starts width i (note ∷ notes) lanes h =
    let tal : TalValue = tal_of_note note in
    let rest : List TalValue = map tal_of_note notes in
    let next : List FilledLane = put_from (width * record_for order starts i note) tal lanes in
    let last : List FilledLane = filled order starts width (i + 1) notes next in
    let one = from-has (width * record_for order starts i note) tal lanes h.0 in
    let behind = all-have order starts width (i + 1) notes next h.1 in
    let first : IsPermutation (tal ∷ (rest ++ tals_in lanes)) (rest ++ tal ∷ tals_in lanes) =
    IsPermutation-sym (rest ++ tal ∷ tals_in lanes) (tal ∷ (rest ++ tals_in lanes)) (IsPermutation-middle rest tal (tals_in lanes)) in
    let second : IsPermutation (rest ++ tal ∷ tals_in lanes) (rest ++ tals_in next) = IsPermutation-append_right rest (tal ∷ tals_in lanes) (tals_in next) one.more in
    record {
      more =
          IsPermutation-trans (tal ∷ (rest ++ tals_in lanes)) (rest ++ tals_in next) (tals_in last)
          (IsPermutation-trans (tal ∷ (rest ++ tals_in lanes)) (rest ++ tal ∷ tals_in lanes) (rest ++ tals_in next) first second) behind.more;
      long = behind.long ∙ one.long;
    }

-- bare lanes hold the TALs that keep the time
bare-none : (sizes : List ℕ) → tals_in (map bare_lane sizes) ≡ []
bare-none [] = refl
bare-none (size ∷ sizes) = bare-none sizes

bare-long : (sizes : List ℕ) (start : ℤ) → length (bare_record sizes start) ≡ length sizes
bare-long [] start = refl
bare-long (size ∷ sizes) start = ap suc (mapped sizes)
  where
    mapped : (sizes : List ℕ) → length (map bare_lane sizes) ≡ length sizes
    mapped [] = refl
    mapped (size ∷ sizes) = ap suc (mapped sizes)

bare-tals : (sizes : List ℕ) (start : ℤ) → 0 < length sizes → tals_in (bare_record sizes start) ≡ tal_of_start start ∷ []
bare-tals [] start some = absurd (omega arith)
bare-tals (size ∷ sizes) start some = ap (λ xs. tal_of_start start ∷ xs) (bare-none sizes)

bodies-tals : (sizes : List ℕ) (starts : List ℤ) → 0 < length sizes → tals_in (flat_map (bare_record sizes) starts) ≡ map tal_of_start starts
bodies-tals sizes [] some = refl
bodies-tals sizes (start ∷ starts) some =
    let f : FilledLane → List TalValue = λ lane. lane.tals in
    flat_map-append f (bare_record sizes start) (flat_map (bare_record sizes) starts)
    ∙ ap (λ xs. xs ++ tals_in (flat_map (bare_record sizes) starts)) (bare-tals sizes start some)
    ∙ ap (λ xs. tal_of_start start ∷ xs) (bodies-tals sizes starts some)

pub bodies-long : (sizes : List ℕ) (starts : List ℤ) → length (flat_map (bare_record sizes) starts) ≡ length starts * length sizes
bodies-long sizes [] = (let e : 0 ≡ 0 * length sizes = omega arith in e)
bodies-long sizes (start ∷ starts) =
    let one = length-append (bare_record sizes start) (flat_map (bare_record sizes) starts) in
    let here = bare-long sizes start in
    let rest = bodies-long sizes starts in
    let product : suc (length starts) * length sizes ≡ length sizes + length starts * length sizes = omega arith in
    one ∙ ap (λ n. n + length (flat_map (bare_record sizes) starts)) here ∙ ap (λ n. length sizes + n) rest ∙ sym product

-- parts hold what they are parts of
abbrev joined : List (List TalValue) → List TalValue
joined talss = flat_map (λ tals. tals) talss

parts-hold : (width n : ℕ) (xs : List (List TalValue)) → length xs ≡ n * width → flat_map joined (parts_of width n xs) ≡ joined xs
parts-hold width zero [] long = refl
parts-hold width zero (x ∷ xs) long = absurd (let e : 0 * width ≡ 0 = omega arith in omega (arith, long, e))
parts-hold width (suc n) xs long =
    let product : suc n * width ≡ width + n * width = omega arith in
    let rest : length (drop width xs) ≡ n * width = (let a = length-drop width xs in omega (arith, a, long, product)) in
    ap (λ ys. joined (take width xs) ++ ys) (parts-hold width n (drop width xs) rest)
    ∙ sym (flat_map-append (λ tals. tals) (take width xs) (drop width xs)) ∙ ap joined (take-append-drop width xs)

joined-tals : (lanes : List FilledLane) → joined (map (λ (lane : FilledLane). lane.tals) lanes) ≡ tals_in lanes
joined-tals [] = refl
joined-tals (lane ∷ lanes) = ap (λ xs. lane.tals ++ xs) (joined-tals lanes)

mapped-long : (lanes : List FilledLane) → length (map (λ (lane : FilledLane). lane.tals) lanes) ≡ length lanes
mapped-long [] = refl
mapped-long (lane ∷ lanes) = ap suc (mapped-long lanes)

pub plain_lanes_hold_all : PlainLanesHoldAll
unfolding plain_lanes
plain_lanes_hold_all order notes sizes starts some rooms =
    let bare : List FilledLane = flat_map (bare_record sizes) starts in
    let after : List FilledLane = filled order starts (length sizes) 0 notes bare in
    let all = all-have order starts (length sizes) 0 notes bare rooms in
    let long : length (map (λ (lane : FilledLane). lane.tals) after) ≡ length starts * length sizes = mapped-long after ∙ all.long ∙ bodies-long sizes starts in
    let told : flat_map joined (parts_of (length sizes) (length starts) (map (λ (lane : FilledLane). lane.tals) after)) ≡ tals_in after =
    parts-hold (length sizes) (length starts) (map (λ (lane : FilledLane). lane.tals) after) long ∙ joined-tals after in
    subst (IsPermutation (map tal_of_note notes ++ map tal_of_start starts)) (sym told)
    (subst (λ xs. IsPermutation (map tal_of_note notes ++ xs) (tals_in after)) (bodies-tals sizes starts some) all.more)
