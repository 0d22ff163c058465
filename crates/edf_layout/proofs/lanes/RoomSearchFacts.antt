-- The first lane with room is found where blocks of lanes without it are passed over.
use Rattle.std.proofs.Common.{◌≡◌, inl, inr, ℕ, zero, suc, true, false, cond, ◌+◌, ◌-◌, ◌*◌, ◌/◌, ◌%◌, ◌<◌, ◌≤◌, nat_lt, nat_le, List, [], ◌∷◌, length, get_or, take, drop, Option, Some, None, arith, refl, ap, ◌∙◌, sym, subst, lt-ltb, le-ltb}
use Rattle.std.specs.Option.{option_map_or}
use Rattle.std.proofs.Math.Nat.{div-add-mod, div-eq_of_lt-le, mod-lt}
use Rattle.std.proofs.lemmas.Bool.{cases_lt}
use Rattle.std.proofs.lemmas.Bool.Decides.{nat_tests}
use Rattle.std.proofs.lemmas.List.{get_or-drop, get_or-take, length-drop, length-take-le}
use Rattle.std.proofs.lemmas.List.Sums.{position_or_len_is}
use Rattle.edf_layout.specs.body.PlainLanes.{room_in, room_from, is_known_full, AreUnknown, AreFull, IsFirstRoom}
use Rattle.edf_layout.specs.declared.plain_lanes.PlainLane.{PlainLane}

-- ---- blocks

-- those that stand in one block
same-block : (at i : ℕ) → at % 1024 ≡ 0 → at ≤ i → i < at + 1024 → i / 1024 ≡ at / 1024
same-block at i first from to =
    let parts = div-add-mod at 1024 in
    div-eq_of_lt-le 1024 (let z : at / 1024 * 1024 ≤ i = omega (arith, parts, first, from) in z) (let z : i < (at / 1024 + 1) * 1024 = omega (arith, parts, first, to) in z)

-- lanes that were looked through have no such room
pub record AreLooked (lanes : List PlainLane) (full : List (Option ℕ)) (need begin end at count : ℕ) : Type 0 where
  pub least : begin ≤ at
  pub most : at ≤ end
  pub none : (i : ℕ) (d : PlainLane) → begin ≤ i → i < at → (get_or lanes i d).free < need
  pub known : AreFull lanes full
  pub long : length full ≡ count

-- the block has none
pub looked-block : (lanes : List PlainLane) (full : List (Option ℕ)) (need begin end at after count : ℕ) (o : Option ℕ) → end ≤ length lanes → at < end → at % 1024 ≡ 0
    → is_known_full (get_or full (at / 1024) o) need ≡ true → after ≤ end → after ≤ at + 1024 → at ≤ after
    → AreLooked lanes full need begin end at count → AreLooked lanes full need begin end after count
looked-block lanes full need begin end at after count o within low first known most few more l =
    let least = l.least in
    record {
      least = omega (arith, least, more);
      most = most;
      none = λ i d from to. elim (cases_lt i at) [
        | inl before ↦ l.none i d from before
        | inr behind ↦ of (get_or full (at / 1024) o) refl known i d behind (let z : i < at + 1024 = omega (arith, to, few) in z) (let z : i < length lanes = omega (arith, to, most, within) in z)
      ];
      known = l.known;
      long = l.long;
    }
  where
    of : (p : Option ℕ) → get_or full (at / 1024) o ≡ p → is_known_full p need ≡ true → (i : ℕ) (d : PlainLane) → at ≤ i → i < at + 1024 → i < length lanes → (get_or lanes i d).free < need
    of None e k i d from to less = absurd (let z : false ≡ true = k in cc)
    of (Some n) e k i d from to less =
        let block : get_or full (i / 1024) o ≡ Some n = ap (λ b. get_or full b o) (same-block at i first from to) ∙ e in
        let under = l.known.none i n d o less block in
        let small : n ≤ need = grind (arith, nat_tests, k) in
        omega (arith, under, small)

-- ---- the place that was found

-- among lanes that aren't none
place-in : (need n : ℕ) (d : PlainLane) (xs : List PlainLane) → n ≤ length xs → ((i : ℕ) → i < n → (get_or xs i d).free < need) → (n < length xs → need ≤ (get_or xs n d).free)
    → room_in xs need ≡ cond (nat_lt n (length xs)) (Some n) None
place-in need n d xs low none some =
    ap (λ k. cond (nat_lt k (length xs)) (Some k) None)
    (position_or_len_is (λ (lane : PlainLane). nat_le need lane.free) xs n d low (λ i less. (let z = none i less in over need (get_or xs i d).free z)) (λ less. (let z = some less in under need (get_or xs n d).free z)))
  where
    over : (a b : ℕ) → b < a → nat_le a b ≡ false
    over a b h = grind (arith, nat_tests)

    under : (a b : ℕ) → a ≤ b → nat_le a b ≡ true
    under a b h = grind (arith, nat_tests)

-- from a place on
pub first-behind : (lanes : List PlainLane) (need at place : ℕ) → at ≤ length lanes → IsFirstRoom lanes need at (length lanes) place
    → option_map_or (λ k. Some (at + k)) (room_in (drop at lanes) need) None ≡ cond (nat_lt place (length lanes)) (Some place) None
first-behind [] need at place low f = of at place f.most
  where
    of : (at place : ℕ) → place ≤ 0 → option_map_or (λ k. Some (at + k)) (room_in (drop at []) need) None ≡ cond (nat_lt place 0) (Some place) None
    of zero zero h = refl
    of (suc at) zero h = refl
    of at (suc place) h = absurd (omega (arith, h))
first-behind (l ∷ ls) need at place low f =
    let lanes = l ∷ ls in
    let least = f.least in
    let most = f.most in
    let long : length (drop at lanes) ≡ length lanes - at = length-drop at lanes in
    let found = place-in need (place - at) l (drop at lanes) (omega (arith, long, most, least))
    (λ i less. subst (λ (x : PlainLane). x.free < need) (sym (get_or-drop at lanes i l)) (f.none (at + i) l (omega arith) (omega (arith, less, least))))
    (λ less. subst (λ (x : PlainLane). need ≤ x.free) (ap (λ k. get_or lanes k l) (let z : place ≡ at + (place - at) = omega (arith, least) in z) ∙ sym (get_or-drop at lanes (place - at) l)) (f.some l (omega (arith, less, long, least)))) in
    ap (λ o. option_map_or (λ k. Some (at + k)) o None) found ∙ elim (cases_lt place (length lanes)) [
      | inl inside ↦
          ap (λ b. option_map_or (λ k. Some (at + k)) (cond b (Some (place - at)) None) None) (lt-ltb (place - at) (length (drop at lanes)) (omega (arith, inside, long, least)))
          ∙ ap Some (let z : at + (place - at) ≡ place = omega (arith, least) in z)
          ∙ sym (ap (λ b. cond b (Some place) None) (lt-ltb place (length lanes) inside))
      | inr outside ↦
          ap (λ b. option_map_or (λ k. Some (at + k)) (cond b (Some (place - at)) None) None) (le-ltb (place - at) (length (drop at lanes)) (omega (arith, outside, long, least)))
          ∙ sym (ap (λ b. cond b (Some place) None) (le-ltb place (length lanes) outside))
    ]

-- before a place
pub first-before : (lanes : List PlainLane) (need at place : ℕ) → at ≤ length lanes → IsFirstRoom lanes need 0 at place → room_in (take at lanes) need ≡ cond (nat_lt place at) (Some place) None
first-before [] need at place low f = of at place f.most low
  where
    of : (at place : ℕ) → place ≤ at → at ≤ 0 → room_in (take at []) need ≡ cond (nat_lt place at) (Some place) None
    of zero zero h k = refl
    of zero (suc place) h k = absurd (omega (arith, h))
    of (suc at) place h k = absurd (omega (arith, k))
first-before (l ∷ ls) need at place low f =
    let lanes = l ∷ ls in
    let most = f.most in
    let long : length (take at lanes) ≡ at = length-take-le at lanes low in
    place-in need place l (take at lanes) (omega (arith, long, most))
    (λ i less. subst (λ (x : PlainLane). x.free < need) (sym (get_or-take at lanes i l (omega (arith, less, most)))) (f.none i l (omega arith) less))
    (λ less. subst (λ (x : PlainLane). need ≤ x.free) (sym (get_or-take at lanes place l (omega (arith, less, long)))) (f.some l (omega (arith, less, long))))
    ∙ ap (λ n. cond (nat_lt place n) (Some place) None) long

-- both
pub found-behind : (lanes : List PlainLane) (need at place : ℕ) → at ≤ length lanes → IsFirstRoom lanes need at (length lanes) place → place < length lanes → Some place ≡ room_from lanes at need
found-behind lanes need at place low f less = sym (of (room_in (drop at lanes) need) (first-behind lanes need at place low f ∙ ap (λ b. cond b (Some place) None) (lt-ltb place (length lanes) less)))
  where
    of : (o : Option ℕ) → option_map_or (λ k. Some (at + k)) o None ≡ Some place → option_map_or (λ k. Some (at + k)) o (room_in (take at lanes) need) ≡ Some place
    of None e = absurd (let z : None ≡ Some place = e in cc)
    of (Some k) e = e

pub found-before : (lanes : List PlainLane) (need at place before : ℕ) → at ≤ length lanes → IsFirstRoom lanes need at (length lanes) place → length lanes ≤ place → IsFirstRoom lanes need 0 at before
    → cond (nat_lt before at) (Some before) None ≡ room_from lanes at need
found-before lanes need at place before low f over g =
    sym (of (room_in (drop at lanes) need) (first-behind lanes need at place low f ∙ ap (λ b. cond b (Some place) None) (le-ltb place (length lanes) over)) ∙ first-before lanes need at before low g)
  where
    of : (o : Option ℕ) → option_map_or (λ k. Some (at + k)) o None ≡ None → option_map_or (λ k. Some (at + k)) o (room_in (take at lanes) need) ≡ room_in (take at lanes) need
    of None e = refl
    of (Some k) e = absurd (let z : Some (at + k) ≡ None = e in cc)

-- ---- notes on blocks

pub none-known : (lanes : List PlainLane) (full : List (Option ℕ)) (n : ℕ) → n ≡ length lanes → length full ≡ n / 1024 + 1 → AreUnknown full → AreFull lanes full
none-known lanes full n is long none = record {
  long = λ i low. under i low;
  none = λ i least d o low e. absurd (let z : Some least ≡ None = sym e ∙ none (i / 1024) o (under i low) in cc);
}
  where
    under : (i : ℕ) → i < length lanes → i / 1024 < length full
    under i low =
        let parts = div-add-mod n 1024 in
        let rest : n % 1024 < 1024 = mod-lt n (let z : 0 < 1024 = omega arith in z) in
        let own = div-add-mod i 1024 in
        omega (arith, parts, rest, own, low, is, long)

pub full-as : (lanes others : List PlainLane) (full known : List (Option ℕ)) → others ≡ lanes → known ≡ full → AreFull lanes full → AreFull others known
full-as lanes others full known same is f = subst (λ ls. AreFull ls known) (sym same) (subst (λ fs. AreFull lanes fs) (sym is) f)
