-- Intervals in order, and the half of them in which an instant can be.
use Rattle.std.proofs.Common.{◌≡◌, ℕ, zero, suc, ℤ, pos, ◌*ℤ◌, ◌≤ℤ◌, ◌<ℤ◌, ◌<◌, ◌-◌, int_le, int_lt, ◌||◌, Bool, true, false, List, [], ◌∷◌, length, get_or, take, drop, take-append-drop, refl, sym, ap, ◌∙◌, arith}
use Rattle.std.specs.List.{list_any}
use Rattle.std.proofs.lemmas.Bool.{and_left, and_right, or_from}
use Rattle.std.proofs.lemmas.Int.{ints}
use Rattle.std.proofs.lemmas.List.{take_rest}
use Rattle.std.proofs.lemmas.List.Elements.{All-head, All-tail, All-take, All-drop}
use Rattle.std.proofs.lemmas.List.Folds.{list_any-append}
use Rattle.edf_claim.specs.Claims.{IsInterval, IsFollowedBy, AreInOrder}
use Rattle.edf_claim.specs.KeepsReading.{AreKept, is_within}
use Rattle.edf_claim.specs.declared.kept.interval.Interval.{Interval}

-- a part of intervals in order
order-drop : (k : ℕ) (is : List Interval) → AreInOrder is → AreInOrder (drop k is)
order-drop zero is h = h
order-drop (suc k) [] h = tt
order-drop (suc k) (i ∷ is) h = order-drop k is h.1

followed-take : (k : ℕ) (i : Interval) (is : List Interval) → IsFollowedBy i is → IsFollowedBy i (take k is)
followed-take zero i is h = tt
followed-take (suc k) i [] h = tt
followed-take (suc k) i (j ∷ is) h = h

order-take : (k : ℕ) (is : List Interval) → AreInOrder is → AreInOrder (take k is)
order-take zero is h = tt
order-take (suc k) [] h = tt
order-take (suc k) (i ∷ is) h = (followed-take k i is h.0, order-take k is h.1)

pub kept_behind : (is : List Interval) (k : ℕ) → AreKept is → AreKept (drop k is)
kept_behind is k h = record { each = All-drop IsInterval k is h.each; in_order = order-drop k is h.in_order }

pub kept_before : (is : List Interval) (k : ℕ) → AreKept is → AreKept (take k is)
kept_before is k h = record { each = All-take IsInterval k is h.each; in_order = order-take k is h.in_order }

pub kept-tail : (i : Interval) (is : List Interval) → AreKept (i ∷ is) → AreKept is
kept-tail i is h = record { each = All-tail IsInterval i is h.each; in_order = h.in_order.1 }

-- a product grows with its first factor
scale-mono : (n : ℕ) (x y : ℤ) → x ≤ℤ y → (x *ℤ pos n) ≤ℤ (y *ℤ pos n)
scale-mono zero x y h = omega (arith, ints)
scale-mono (suc n) x y h =
    let r : (x *ℤ pos n) ≤ℤ (y *ℤ pos n) = scale-mono n x y h in
    omega (arith, ints)

-- tests that fail
le-fails : (x y : ℤ) → y <ℤ x → int_le x y ≡ false
le-fails x y h = le-case x y (int_le x y) refl h
  where
    le-case : (x y : ℤ) (b : Bool) → int_le x y ≡ b → y <ℤ x → b ≡ false
    le-case x y true e h = absurd (omega (arith, ints, h, e))
    le-case x y false e h = refl

lt-fails : (x y : ℤ) → y ≤ℤ x → int_lt x y ≡ false
lt-fails x y h = lt-case x y (int_lt x y) refl h
  where
    lt-case : (x y : ℤ) (b : Bool) → int_lt x y ≡ b → y ≤ℤ x → b ≡ false
    lt-case x y true e h = absurd (omega (arith, ints, h, e))
    lt-case x y false e h = refl

-- an interval ends before each one behind it begins, or where it does
pub ends-before : (i : Interval) (is : List Interval) (k : ℕ) (d : Interval) → AreKept (i ∷ is) → k < length is → i.to_ps ≤ℤ (get_or is k d).from_ps
ends-before i [] k d h lt = absurd (omega (arith, lt))
ends-before i (j ∷ is) zero d h lt = h.in_order.0
ends-before i (j ∷ is) (suc k) d h lt =
    let next : i.to_ps ≤ℤ j.from_ps = h.in_order.0 in
    let order : j.from_ps <ℤ j.to_ps = (All-head IsInterval j is (All-tail IsInterval i (j ∷ is) h.each)).order in
    let more : j.to_ps ≤ℤ (get_or is k d).from_ps = ends-before j is k d (kept-tail i (j ∷ is) h) (omega (arith, lt)) in
    omega (arith, ints, next, order, more)

-- where one has begun, those before it are over
over : (is : List Interval) (k : ℕ) (d : Interval) (num : ℤ) (den : ℕ) → AreKept is → k < length is → ((get_or is k d).from_ps *ℤ pos den) ≤ℤ num → list_any (λ i. is_within i num den) (take k is) ≡ false
over is zero d num den h lt at = refl
over [] (suc k) d num den h lt at = absurd (omega (arith, lt))
over (i ∷ is) (suc k) d num den h lt at =
    let within : k < length is = omega (arith, lt) in
    let scaled = scale-mono den i.to_ps (get_or is k d).from_ps (ends-before i is k d h within) in
    or_from (is_within i num den) (list_any (λ j. is_within j num den) (take k is))
    (and_right (int_le (i.from_ps *ℤ pos den) num) (int_lt num (i.to_ps *ℤ pos den)) (lt-fails num (i.to_ps *ℤ pos den) (omega (arith, ints, scaled, at))))
    (over is k d num den (kept-tail i is h) within at)

-- where one hasn't begun, no later one has
ahead : (i : Interval) (is : List Interval) (num : ℤ) (den : ℕ) → AreKept (i ∷ is) → num <ℤ (i.from_ps *ℤ pos den) → list_any (λ j. is_within j num den) (i ∷ is) ≡ false
ahead i [] num den h at =
    or_from (is_within i num den) false (and_left (int_le (i.from_ps *ℤ pos den) num) (int_lt num (i.to_ps *ℤ pos den)) (le-fails (i.from_ps *ℤ pos den) num at)) refl
ahead i (j ∷ is) num den h at =
    let order : i.from_ps <ℤ i.to_ps = (All-head IsInterval i (j ∷ is) h.each).order in
    let next : i.to_ps ≤ℤ j.from_ps = h.in_order.0 in
    let scaled = scale-mono den i.from_ps j.from_ps (omega (arith, ints, order, next)) in
    or_from (is_within i num den) (list_any (λ k. is_within k num den) (j ∷ is))
    (and_left (int_le (i.from_ps *ℤ pos den) num) (int_lt num (i.to_ps *ℤ pos den)) (le-fails (i.from_ps *ℤ pos den) num at))
    (ahead j is num den (kept-tail i (j ∷ is) h) (omega (arith, ints, scaled, at)))

ahead-from : (is : List Interval) (k : ℕ) (d : Interval) (num : ℤ) (den : ℕ) → AreKept is → k < length is → num <ℤ ((get_or is k d).from_ps *ℤ pos den) → list_any (λ i. is_within i num den) (drop k is) ≡ false
ahead-from [] k d num den h lt at = absurd (omega (arith, lt))
ahead-from (i ∷ is) zero d num den h lt at = ahead i is num den h at
ahead-from (i ∷ is) (suc k) d num den h lt at = ahead-from is k d num den (kept-tail i is h) (omega (arith, lt)) at

or-false : (b : Bool) → (b || false) ≡ b
or-false true = refl
or-false false = refl

in-parts : (p : Interval → Bool) (is : List Interval) (k : ℕ) → list_any p is ≡ (list_any p (take k is) || list_any p (drop k is))
in-parts p is k = ap (list_any p) (sym (take-append-drop k is)) ∙ list_any-append p (take k is) (drop k is)

-- the half from the place on, where the interval there has begun; else the half before it
pub half_behind : (is : List Interval) (k : ℕ) (d : Interval) (num : ℤ) (den : ℕ) (b : Bool) → AreKept is → k < length is → b ≡ int_le ((get_or is k d).from_ps *ℤ pos den) num → b ≡ true
    → list_any (λ i. is_within i num den) (take (length is - k) (drop k is)) ≡ list_any (λ i. is_within i num den) is
half_behind is k d num den b h lt e t =
    let test : int_le ((get_or is k d).from_ps *ℤ pos den) num ≡ true = sym e ∙ t in
    let p : Interval → Bool = λ i. is_within i num den in
    ap (list_any p) (take_rest is k) ∙ sym (in-parts p is k ∙ ap (λ c. c || list_any p (drop k is)) (over is k d num den h lt (omega (arith, ints, test))))

pub half_before : (is : List Interval) (k : ℕ) (d : Interval) (num : ℤ) (den : ℕ) (b : Bool) → AreKept is → k < length is → b ≡ int_le ((get_or is k d).from_ps *ℤ pos den) num → b ≡ false
    → list_any (λ i. is_within i num den) (take k is) ≡ list_any (λ i. is_within i num den) is
half_before is k d num den b h lt e t =
    let test : int_le ((get_or is k d).from_ps *ℤ pos den) num ≡ false = sym e ∙ t in
    let p : Interval → Bool = λ i. is_within i num den in
    sym (in-parts p is k ∙ ap (λ c. list_any p (take k is) || c) (ahead-from is k d num den h lt (omega (arith, ints, test))) ∙ or-false (list_any p (take k is)))
