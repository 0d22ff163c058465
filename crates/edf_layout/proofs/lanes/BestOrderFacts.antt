-- The order that fits best is found by the lanes that one order has otherwise, and by the first that the other has.
use Rattle.std.proofs.Common.{◌≡◌, inl, inr, ℕ, ℤ, cond, ◌<◌, ◌≤◌, List, [], ◌++◌, length, map, arith, refl, ap, ◌∙◌, sym, subst, length-append, lt-ltb, le-ltb}
use Rattle.std.proofs.lemmas.Bool.{cases_lt}
use Rattle.std.proofs.lemmas.List.{append-nil, length-map}
use Rattle.edf_stream.specs.annotation.Notes.{NoteValue}
use Rattle.edf_layout.specs.body.BodyLayouts.{BodyLayout}
use Rattle.edf_layout.specs.body.OddLanes.{OddLane, odd_lanes, base_order}
use Rattle.edf_layout.specs.body.PlainOrders.{PlainOrder, OneByOne, ByTime}
use Rattle.edf_layout.specs.whole.LaneRows.{AreFirst, IsLaidBody}

-- they are all
pub are-all : {X : Type 0} (most : ℕ) (first whole : List X) → length first ≤ most → AreFirst most first whole → first ≡ whole
are-all most first whole low f = sym (append-nil first) ∙ ap (λ xs. first ++ xs) (sym (f.ends low)) ∙ f.told

-- all are the first
pub all-first : {X : Type 0} (most : ℕ) (first whole : List X) → first ≡ whole → AreFirst most first whole
all-first most first whole same = record { rest = []; told = append-nil first ∙ same; ends = λ low. refl }

-- there are as many at least
at-least : {X : Type 0} (most : ℕ) (first whole : List X) → AreFirst most first whole → length first ≤ length whole
at-least most first whole f =
    let long = length-append first f.rest in
    let told = ap length f.told in
    omega (arith, long, told)

-- as the code holds them
by-time-fits : {X : Type 0} (view : X → OddLane) (notes : List NoteValue) (sizes : List ℕ) (starts : List ℤ) (layout : BodyLayout) (most n : ℕ) (by one : List X)
    → n ≡ length by → length by ≤ most → AreFirst most (map view by) (odd_lanes ByTime notes sizes starts layout)
    → AreFirst n (map view one) (odd_lanes OneByOne notes sizes starts layout)
    → length by < length one → IsLaidBody notes sizes starts layout ByTime (map view by)
unfolding base_order
by-time-fits view notes sizes starts layout most n by one count low f g less =
    let those = odd_lanes ByTime notes sizes starts layout in
    let others = odd_lanes OneByOne notes sizes starts layout in
    let here = length-map by view in
    let there = length-map one view in
    let all : map view by ≡ those = are-all most (map view by) those (let z : length (map view by) ≤ most = omega (arith, here, low) in z) f in
    let long = at-least n (map view one) others g in
    let same : length (map view by) ≡ length those = ap length all in
    record {
      order_is = sym (ap (λ b. cond b ByTime OneByOne) (lt-ltb (length those) (length others) (omega (arith, here, there, long, same, less))));
      odd_is = all;
    }

one-by-one-fits : {X : Type 0} (view : X → OddLane) (notes : List NoteValue) (sizes : List ℕ) (starts : List ℤ) (layout : BodyLayout) (most n : ℕ) (by one : List X)
    → n ≡ length by → length by ≤ most → AreFirst most (map view by) (odd_lanes ByTime notes sizes starts layout)
    → AreFirst n (map view one) (odd_lanes OneByOne notes sizes starts layout)
    → length one ≤ length by → IsLaidBody notes sizes starts layout OneByOne (map view one)
unfolding base_order
one-by-one-fits view notes sizes starts layout most n by one count low f g less =
    let those = odd_lanes ByTime notes sizes starts layout in
    let others = odd_lanes OneByOne notes sizes starts layout in
    let here = length-map by view in
    let there = length-map one view in
    let all : map view by ≡ those = are-all most (map view by) those (let z : length (map view by) ≤ most = omega (arith, here, low) in z) f in
    let each : map view one ≡ others = are-all n (map view one) others (let z : length (map view one) ≤ n = omega (arith, there, less, count) in z) g in
    let same : length (map view by) ≡ length those = ap length all in
    let other : length (map view one) ≡ length others = ap length each in
    record {
      order_is = sym (ap (λ b. cond b ByTime OneByOne) (le-ltb (length those) (length others) (omega (arith, here, there, same, other, less))));
      odd_is = each;
    }

-- the one that was chosen of both
pub best-fits : {X : Type 0} (view : X → OddLane) (notes : List NoteValue) (sizes : List ℕ) (starts : List ℤ) (layout : BodyLayout) (most n : ℕ) (by one odd : List X) (order : PlainOrder)
    → n ≡ length by → length by ≤ most → AreFirst most (map view by) (odd_lanes ByTime notes sizes starts layout)
    → AreFirst n (map view one) (odd_lanes OneByOne notes sizes starts layout)
    → (length by < length one → (order ≡ ByTime) × (odd ≡ by)) → (length one ≤ length by → (order ≡ OneByOne) × (odd ≡ one))
    → IsLaidBody notes sizes starts layout order (map view odd)
best-fits view notes sizes starts layout most n by one odd order count low f g first second = elim (cases_lt (length by) (length one)) [
  | inl less ↦
      let chosen = first less in
      subst (λ o. IsLaidBody notes sizes starts layout o (map view odd)) (sym chosen.0)
      (subst (λ xs. IsLaidBody notes sizes starts layout ByTime (map view xs)) (sym chosen.1) (by-time-fits view notes sizes starts layout most n by one count low f g less))
  | inr more ↦
      let chosen = second more in
      subst (λ o. IsLaidBody notes sizes starts layout o (map view odd)) (sym chosen.0)
      (subst (λ xs. IsLaidBody notes sizes starts layout OneByOne (map view xs)) (sym chosen.1) (one-by-one-fits view notes sizes starts layout most n by one count low f g more))
]
