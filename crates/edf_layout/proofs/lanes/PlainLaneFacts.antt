-- A TAL is put into the first lane that has room for it.
use Rattle.std.proofs.Common.{◌≡◌, inl, inr, ℕ, ℤ, pos, Bool, true, false, not, cond, zero, suc, ◌==◌, ◌+◌, ◌-◌, ◌*◌, ◌/◌, ◌%◌, ◌^◌, ◌<◌, ◌≤◌, nat_lt, nat_le, List, [], ◌∷◌, ◌++◌, length, get_or, take, drop, map, slice_get, Option, Some, None, arith, refl, ap, ◌∙◌, sym, subst, append_assoc, lt-ltb, le-ltb}
use Rattle.std.specs.List.{position, position_or_len}
use Rattle.std.specs.Option.{option_map, option_map_or}
use Rattle.std.proofs.Math.ListN.{set}
use Rattle.std.proofs.Math.Nat.{mod-lt}
use Rattle.std.proofs.Math.Seq.{take-append_seam, take-length, drop-cons}
use Rattle.std.proofs.lemmas.Bool.{cases_lt}
use Rattle.std.proofs.lemmas.Bool.Decides.{nat_tests}
use Rattle.std.proofs.lemmas.Option.{slice_get-get_or}
use Rattle.std.proofs.lemmas.List.{take-append-drop, take-map, drop-map, length-map, get_or-map, map-set, map-append}
use Rattle.edf_stream.specs.Views.{note_value}
use Rattle.edf_stream.specs.annotation.Notes.{NoteValue}
use Rattle.edf_stream.specs.declared.annotation.notes.Note.{Note}
use Rattle.edf_tal.specs.Tals.{TalValue}
use Rattle.edf_layout.specs.body.PlainLanes.{plain_view, time_in, tals_in, lane_view, room_in, room_from}
use Rattle.edf_layout.specs.body.PlainOrders.{FilledLane, PlainOrder, bare_lane, bare_record, filled, last_digits, record_for, tal_bytes, tal_of_note, tal_of_start, with_tal, put_first, put_from}
use Rattle.edf_layout.specs.declared.plain_lanes.PlainLane.{PlainLane}
use Rattle.edf_layout.specs.declared.plain_lanes.PlainTal.{PlainTal}
use Rattle.edf_layout.specs.declared.plain_lanes.PlainTal.TheVariants as tals
use Rattle.edf_layout.proofs.body.PlainTalFacts.{opened, ten-power}

room : TalValue → FilledLane → Bool
room tal lane = nat_le (tal_bytes tal) lane.free

-- the first place in a longer list
position-cons : {X : Type 0} (p : X → Bool) (x : X) (xs : List X) → position p (x ∷ xs) ≡ cond (p x) (Some 0) (option_map suc (position p xs))
position-cons p x xs = cases (p x) refl
  where
    n : ℕ
    n = position_or_len p xs

    opened : (b : Bool) → p x ≡ b → position p (x ∷ xs) ≡ cond (nat_lt (cond (not b) (1 + n) 0) (suc (length xs))) (Some (cond (not b) (1 + n) 0)) None
    opened b e = ap (λ c. cond (nat_lt (cond (not c) (1 + n) 0) (suc (length xs))) (Some (cond (not c) (1 + n) 0)) None) e

    more : cond (nat_lt (1 + n) (suc (length xs))) (Some (1 + n)) None ≡ option_map suc (cond (nat_lt n (length xs)) (Some n) None)
    more = elim (cases_lt n (length xs)) [
      | inl low ↦
          ap (λ b. cond b (Some (1 + n)) None) (lt-ltb (1 + n) (suc (length xs)) (omega (arith, low))) ∙ ap Some (let e : 1 + n ≡ suc n = omega arith in e)
          ∙ sym (ap (λ b. option_map suc (cond b (Some n) None)) (lt-ltb n (length xs) low))
      | inr high ↦
          ap (λ b. cond b (Some (1 + n)) None) (le-ltb (1 + n) (suc (length xs)) (omega (arith, high)))
          ∙ sym (ap (λ b. option_map suc (cond b (Some n) None)) (le-ltb n (length xs) high))
    ]

    cases : (b : Bool) → p x ≡ b → position p (x ∷ xs) ≡ cond b (Some 0) (option_map suc (position p xs))
    cases true e = opened true e ∙ ap (λ b. cond b (Some 0) None) (lt-ltb 0 (suc (length xs)) (omega arith))
    cases false e = opened false e ∙ more

-- the lane at a place with one more TAL
with-at : TalValue → List FilledLane → ℕ → List FilledLane
with-at tal lanes i = set lanes i (with_tal tal (get_or lanes i (record { free = 0; tals = [] })))

first-put : (tal : TalValue) (ls : List FilledLane) → put_first tal ls ≡ option_map (with-at tal ls) (position (room tal) ls)
unfolding room with-at
first-put tal [] = refl
first-put tal (l ∷ ls) = cases (room tal l) refl (first-put tal ls)
  where
    later : (o : Option ℕ) → option_map (λ filled. l ∷ filled) (option_map (with-at tal ls) o) ≡ option_map (with-at tal (l ∷ ls)) (option_map suc o)
    later None = refl
    later (Some i) = refl

    cases : (b : Bool) → room tal l ≡ b → put_first tal ls ≡ option_map (with-at tal ls) (position (room tal) ls)
        → put_first tal (l ∷ ls) ≡ option_map (with-at tal (l ∷ ls)) (position (room tal) (l ∷ ls))
    cases true e rest =
        ap (λ b. cond b (Some (with_tal tal l ∷ ls)) (option_map (λ filled. l ∷ filled) (put_first tal ls))) e
        ∙ sym (ap (option_map (with-at tal (l ∷ ls))) (position-cons (room tal) l ls ∙ ap (λ b. cond b (Some 0) (option_map suc (position (room tal) ls))) e))
    cases false e rest =
        ap (λ b. cond b (Some (with_tal tal l ∷ ls)) (option_map (λ filled. l ∷ filled) (put_first tal ls))) e
        ∙ ap (option_map (λ filled. l ∷ filled)) rest ∙ later (position (room tal) ls)
        ∙ sym (ap (option_map (with-at tal (l ∷ ls))) (position-cons (room tal) l ls ∙ ap (λ b. cond b (Some 0) (option_map suc (position (room tal) ls))) e))

position-within : {X : Type 0} (p : X → Bool) (xs : List X) (k : ℕ) → position p xs ≡ Some k → k < length xs
position-within p xs k e = elim (cases_lt (position_or_len p xs) (length xs)) [
  | inl low ↦
      let is : Some (position_or_len p xs) ≡ Some k = sym (ap (λ b. cond b (Some (position_or_len p xs)) None) (lt-ltb (position_or_len p xs) (length xs) low)) ∙ e in
      let same : position_or_len p xs ≡ k = cc in
      omega (arith, same, low)
  | inr high ↦ absurd (let none : None ≡ Some k = sym (ap (λ b. cond b (Some (position_or_len p xs)) None) (le-ltb (position_or_len p xs) (length xs) high)) ∙ e in cc)
]

behind : (tal : TalValue) (at : ℕ) (ls : List FilledLane) (k : ℕ) → at ≤ length ls → take at ls ++ with-at tal (drop at ls) k ≡ with-at tal ls (at + k)
unfolding with-at
behind tal zero ls k low = ap (with-at tal ls) (let e : k ≡ 0 + k = omega arith in e)
behind tal (suc at) [] k low = absurd (omega (arith, low))
behind tal (suc at) (l ∷ ls) k low =
    ap (λ r. l ∷ r) (behind tal at ls k (omega (arith, low))) ∙ ap (with-at tal (l ∷ ls)) (let e : suc (at + k) ≡ suc at + k = omega arith in e)

front : (tal : TalValue) (at : ℕ) (ls : List FilledLane) (k : ℕ) → k < length (take at ls) → with-at tal (take at ls) k ++ drop at ls ≡ with-at tal ls k
unfolding with-at
front tal zero ls k low = absurd (omega (arith, low))
front tal (suc at) [] k low = absurd (omega (arith, low))
front tal (suc at) (l ∷ ls) zero low = ap (λ r. with_tal tal l ∷ r) (take-append-drop at ls)
front tal (suc at) (l ∷ ls) (suc k) low = ap (λ r. l ∷ r) (front tal at ls k (omega (arith, low)))

-- the first lane with room from a place on, or else before it
room-from : TalValue → ℕ → List FilledLane → Option ℕ
room-from tal at ls = option_map_or (λ k. Some (at + k)) (position (room tal) (drop at ls)) (position (room tal) (take at ls))

put-is : (tal : TalValue) (at : ℕ) (ls : List FilledLane) → at ≤ length ls → put_from at tal ls ≡ option_map_or (with-at tal ls) (room-from tal at ls) ls
unfolding room-from
put-is tal at ls low =
    ap (λ o. option_map_or (λ filled. take at ls ++ filled) o (option_map_or (λ filled. filled ++ drop at ls) (put_first tal (take at ls)) ls)) (first-put tal (drop at ls))
    ∙ ap (λ o. option_map_or (λ filled. take at ls ++ filled) (option_map (with-at tal (drop at ls)) (position (room tal) (drop at ls))) (option_map_or (λ filled. filled ++ drop at ls) o ls)) (first-put tal (take at ls))
    ∙ cases (position (room tal) (drop at ls)) (position (room tal) (take at ls)) refl
  where
    cases : (o p : Option ℕ) → position (room tal) (take at ls) ≡ p
        → option_map_or (λ filled. take at ls ++ filled) (option_map (with-at tal (drop at ls)) o) (option_map_or (λ filled. filled ++ drop at ls) (option_map (with-at tal (take at ls)) p) ls)
        ≡ option_map_or (with-at tal ls) (option_map_or (λ k. Some (at + k)) o p) ls
    cases (Some k) p e = behind tal at ls k low
    cases None (Some k) e = front tal at ls k (position-within (room tal) (take at ls) k e)
    cases None None e = refl

-- ---- lanes as the code holds them

places-mapped : {X Y : Type 0} (p : Y → Bool) (q : X → Bool) (f : X → Y) (xs : List X) → ((x : X) → p (f x) ≡ q x) → position_or_len p (map f xs) ≡ position_or_len q xs
places-mapped p q f [] same = refl
places-mapped p q f (x ∷ xs) same =
    ap (λ b. cond (not b) (1 + position_or_len p (map f xs)) 0) (same x) ∙ ap (λ n. cond (not (q x)) (1 + n) 0) (places-mapped p q f xs same)

position-mapped : {X Y : Type 0} (p : Y → Bool) (q : X → Bool) (f : X → Y) (xs : List X) → ((x : X) → p (f x) ≡ q x) → position p (map f xs) ≡ position q xs
position-mapped p q f xs same =
    ap (λ n. cond (nat_lt n (length (map f xs))) (Some n) None) (places-mapped p q f xs same)
    ∙ ap (λ n. cond (nat_lt (position_or_len q xs) n) (Some (position_or_len q xs)) None) (length-map xs f)

room-mapped : (notes : List NoteValue) (lanes : List PlainLane) (need : ℕ) (tal : TalValue) → tal_bytes tal ≡ need → position (room tal) (map (lane_view notes) lanes) ≡ room_in lanes need
unfolding room
room-mapped notes lanes need tal is = position-mapped (room tal) (λ (lane : PlainLane). nat_le need lane.free) (lane_view notes) lanes (λ lane. ap (λ n. nat_le n lane.free) is)

found-mapped : (notes : List NoteValue) (lanes : List PlainLane) (at need : ℕ) (tal : TalValue) → tal_bytes tal ≡ need → room-from tal at (map (lane_view notes) lanes) ≡ room_from lanes at need
unfolding room-from
found-mapped notes lanes at need tal is =
    ap (λ ls. option_map_or (λ k. Some (at + k)) (position (room tal) ls) (position (room tal) (take at (map (lane_view notes) lanes)))) (drop-map (lane_view notes) at lanes)
    ∙ ap (λ o. option_map_or (λ k. Some (at + k)) o (position (room tal) (take at (map (lane_view notes) lanes)))) (room-mapped notes (drop at lanes) need tal is)
    ∙ ap (λ ls. option_map_or (λ k. Some (at + k)) (room_in (drop at lanes) need) (position (room tal) ls)) (take-map (lane_view notes) at lanes)
    ∙ ap (option_map_or (λ k. Some (at + k)) (room_in (drop at lanes) need)) (room-mapped notes (take at lanes) need tal is)

-- where no lane has room
pub put-none : (notes : List NoteValue) (lanes : List PlainLane) (at need : ℕ) (tal : PlainTal) → at ≤ length lanes → None ≡ room_from lanes at need
    → tal_bytes (plain_view notes tal) ≡ need → map (lane_view notes) lanes ≡ put_from at (plain_view notes tal) (map (lane_view notes) lanes)
put-none notes lanes at need tal low found is =
    sym (put-is (plain_view notes tal) at (map (lane_view notes) lanes) (let e = length-map lanes (lane_view notes) in omega (arith, e, low))
    ∙ ap (λ o. option_map_or (with-at (plain_view notes tal) (map (lane_view notes) lanes)) o (map (lane_view notes) lanes)) (found-mapped notes lanes at need (plain_view notes tal) is ∙ sym found))

-- and where one has
pub put-some : (notes : List NoteValue) (lanes : List PlainLane) (at need place number : ℕ) (d after : PlainLane) → at ≤ length lanes → Some place ≡ room_from lanes at need
    → place < length lanes → after.free ≡ (get_or lanes place d).free - need → time_in (option_map (λ s. s.now) after.start) ≡ time_in (option_map (λ s. s.now) (get_or lanes place d).start) → after.notes.items ≡ (get_or lanes place d).notes.items ++ number ∷ []
    → tal_bytes (plain_view notes (tals.Annotates number)) ≡ need
    → map (lane_view notes) (set lanes place after) ≡ put_from at (plain_view notes (tals.Annotates number)) (map (lane_view notes) lanes)
unfolding with-at
put-some notes lanes at need place number d after low found within free start more is =
    let tal : PlainTal = tals.Annotates number in
    let had : PlainLane = get_or lanes place d in
    let timed : List PlainTal = time_in (option_map (λ s. s.now) had.start) in
    let told : tals_in after ≡ tals_in had ++ tal ∷ [] =
    ap (λ time. time ++ map tals.Annotates after.notes.items) start
    ∙ ap (λ xs. timed ++ map tals.Annotates xs) more ∙ ap (λ xs. timed ++ xs) (map-append tals.Annotates had.notes.items (number ∷ []))
    ∙ sym (append_assoc timed (map tals.Annotates had.notes.items) (tal ∷ [])) in
    let view : PlainLane → FilledLane = lane_view notes in
    let value : TalValue = plain_view notes tal in
    let make : ℕ → List TalValue → FilledLane = λ f ts. record { free = f; tals = ts } in
    let old : FilledLane = get_or (map view lanes) place (record { free = 0; tals = [] }) in
    let same : old ≡ view (get_or lanes place d) = get_or-map view lanes place d (record { free = 0; tals = [] }) within in
    let one : view after ≡ with_tal value (view (get_or lanes place d)) =
    ap (λ f. make f (map (plain_view notes) (tals_in after))) (free ∙ ap (λ n. had.free - n) (sym is))
    ∙ ap (λ ts. make (had.free - tal_bytes value) (map (plain_view notes) ts)) told
    ∙ ap (make (had.free - tal_bytes value)) (map-append (plain_view notes) (tals_in had) (tal ∷ [])) in
    map-set view lanes place after
    ∙ ap (set (map view lanes) place) (one ∙ ap (with_tal value) (sym same))
    ∙ sym (put-is value at (map view lanes) (let e = length-map lanes view in omega (arith, e, low))
    ∙ ap (λ o. option_map_or (with-at value (map view lanes)) o (map view lanes)) (found-mapped notes lanes at need value is ∙ sym found))

-- ---- the digits of a fraction

pub digits-step : (places rest unit : ℕ) (text more all : List ℕ) → 0 < places → 0 < rest → unit ≡ 10 ^ (places - 1) → more ≡ text ++ (48 + rest / unit) ∷ []
    → text ++ last_digits places rest ≡ all → more ++ last_digits (places - 1) (rest % unit) ≡ all
digits-step zero rest unit text more all low some is pushed told = absurd (omega (arith, low))
digits-step (suc p) rest unit text more all low some is pushed told =
    let less : suc p - 1 ≡ p = omega arith in
    let power : unit ≡ 10 ^ p = is ∙ ap (λ n. 10 ^ n) less in
    let other : (rest == 0) ≡ false = not-nought rest some in
    let one : last_digits (suc p) rest ≡ (48 + rest / unit) ∷ last_digits p (rest % unit) =
    opened p rest other ∙ ap (λ u. (48 + rest / u) ∷ last_digits p (rest % u)) (sym power) in
    ap (λ t. t ++ last_digits (suc p - 1) (rest % unit)) pushed ∙ ap (λ n. (text ++ (48 + rest / unit) ∷ []) ++ last_digits n (rest % unit)) less
    ∙ append_assoc text ((48 + rest / unit) ∷ []) (last_digits p (rest % unit)) ∙ ap (λ r. text ++ r) (sym one) ∙ told
  where
    not-nought : (n : ℕ) → 0 < n → (n == 0) ≡ false
    not-nought n h = grind (arith, nat_tests)

pub rest-below : (rest unit places : ℕ) → unit ≡ 10 ^ (places - 1) → rest % unit < 10 ^ (places - 1)
rest-below rest unit places is = subst (λ u. rest % u < 10 ^ (places - 1)) (sym is) (mod-lt rest (ten-power (places - 1)))

-- ---- all annotations

-- a list that is written over by one as long
pub kept-whole : {X : Type 0} (after old : List X) (n : ℕ) → length after ≡ length old → n ≡ length old → take n (after ++ drop (length after) old) ≡ after
kept-whole after old n long is =
    ap (λ k. take k (after ++ drop (length after) old)) (is ∙ sym long) ∙ take-append_seam after (drop (length after) old)

-- the lanes behind one more annotation
pub filled-more : (order : PlainOrder) (starts : List ℤ) (width number at : ℕ) (all : List NoteValue) (rest : List Note) (note : Note) (before after : List FilledLane)
    → at ≡ width * record_for order starts number (note_value note) → after ≡ put_from at (tal_of_note (note_value note)) before
    → filled order starts width (number + 1) (map note_value rest) after ≡ filled order starts width number (map note_value (note ∷ rest)) before
filled-more order starts width number at all rest note before after place put =
    ap (filled order starts width (number + 1) (map note_value rest)) (put ∙ ap (λ k. put_from k (tal_of_note (note_value note)) before) place)

pub bare-pushed : (notes : List NoteValue) (sizes : List ℕ) (start : ℤ) (old mid after : List PlainLane) (lane : PlainLane) (d : ℕ) → 1 ≤ length sizes
    → lane_view notes lane ≡ with_tal (tal_of_start start) (bare_lane (get_or sizes 0 d)) → mid ≡ old ++ lane ∷ []
    → map (lane_view notes) after ≡ map (lane_view notes) mid ++ map bare_lane (take (length sizes - 1) (drop 1 sizes)) → map (lane_view notes) after ≡ map (lane_view notes) old ++ bare_record sizes start
bare-pushed notes [] start old mid after lane d some one pushed more = absurd (omega (arith, some))
bare-pushed notes (s ∷ ss) start old mid after lane d some one pushed more =
    let less : suc (length ss) - 1 ≡ length ss = omega arith in
    more ∙ ap (λ n. map (lane_view notes) mid ++ map bare_lane (take n ss)) less ∙ ap (λ xs. map (lane_view notes) mid ++ map bare_lane xs) (take-length ss)
    ∙ ap (λ ls. map (lane_view notes) ls ++ map bare_lane ss) pushed ∙ ap (λ ls. ls ++ map bare_lane ss) (map-append (lane_view notes) old (lane ∷ []))
    ∙ append_assoc (map (lane_view notes) old) (lane_view notes lane ∷ []) (map bare_lane ss) ∙ ap (λ l. map (lane_view notes) old ++ (l ∷ map bare_lane ss)) one

pub record OneMore (order : PlainOrder) (starts : List ℤ) (width number : ℕ) (notes : List Note) (lanes whole : List PlainLane) : Type 0 where
  pub long : length whole ≡ length lanes
  pub filled : filled order starts width (number + 1) (map note_value (drop (number + 1) notes)) (map (lane_view (map note_value notes)) whole)
      ≡ filled order starts width number (map note_value (drop number notes)) (map (lane_view (map note_value notes)) lanes)

pub one-more : (order : PlainOrder) (starts : List ℤ) (width number need at n : ℕ) (notes : List Note) (note : Note) (lanes before after : List PlainLane)
    → number < length notes → note ≡ get_or notes number note → before ≡ lanes → length before ≡ n → length after ≡ length before
    → need ≡ tal_bytes (tal_of_note (note_value note)) → at ≡ width * record_for order starts number (note_value note)
    → ((all : List NoteValue) → tal_bytes (plain_view all (tals.Annotates number)) ≡ need
    → map (lane_view all) after ≡ put_from at (plain_view all (tals.Annotates number)) (map (lane_view all) before))
    → OneMore order starts width number notes lanes (take n (after ++ drop (length after) lanes))
one-more order starts width number need at n notes note lanes before after low is same long size bytes place put =
    let all : List NoteValue = map note_value notes in
    let whole : take n (after ++ drop (length after) lanes) ≡ after =
    kept-whole after lanes n (size ∙ ap length same) (sym long ∙ ap length same) in
    let there : slice_get all number ≡ Some (note_value note) =
    slice_get-get_or all number (note_value note) (let e = length-map notes note_value in omega (arith, e, low))
    ∙ ap Some (get_or-map note_value notes number note (note_value note) low ∙ ap note_value (sym is)) in
    let tal : plain_view all (tals.Annotates number) ≡ tal_of_note (note_value note) = ap (λ o. option_map_or tal_of_note o (tal_of_start (pos 0))) there in
    let told : map (lane_view all) after ≡ put_from at (plain_view all (tals.Annotates number)) (map (lane_view all) before) = put all (ap tal_bytes tal ∙ sym bytes) in
    let less : suc number ≡ number + 1 = omega arith in
    let cut : drop number notes ≡ note ∷ drop (number + 1) notes =
    drop-cons notes number note low ∙ ap (λ z. z ∷ drop (suc number) notes) (sym is) ∙ ap (λ k. note ∷ drop k notes) less in
    record {
      long = ap length whole ∙ size ∙ ap length same;
      filled =
          ap (λ ls. filled order starts width (number + 1) (map note_value (drop (number + 1) notes)) (map (lane_view all) ls)) whole
          ∙ filled-more order starts width number at all (drop (number + 1) notes) note (map (lane_view all) lanes) (map (lane_view all) after) place
          (told ∙ ap (λ t. put_from at t (map (lane_view all) before)) tal ∙ ap (λ ls. put_from at (tal_of_note (note_value note)) (map (lane_view all) ls)) same)
          ∙ ap (λ xs. filled order starts width number (map note_value xs) (map (lane_view all) lanes)) (sym cut);
    }
