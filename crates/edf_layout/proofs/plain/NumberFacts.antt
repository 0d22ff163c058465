-- A number and a time have one plain spelling.
use Rattle.std.proofs.Common.{◌≡◌, ◌≢◌, ◌⊎◌, inl, inr, ℕ, zero, suc, Bool, true, false, not, cond, ◌&&◌, ◌||◌, ◌==◌, nat_le, nat_lt, ◌+◌, ◌-◌, ◌*◌, ◌^◌, ◌<◌, ◌≤◌, List, [], ◌∷◌, ◌++◌, length, get_or, slice_index, replicate, Some, None, codes, arith, refl, ap, ◌∙◌, sym, subst, lt-ltb, le-ltb, lit<}
use Rattle.std.specs.List.{list_all, position, position_or_len}
use Rattle.std.specs.Option.{option_map_or}
use Rattle.std.specs.Str.{bytes_eq}
use Rattle.std.proofs.Math.Nat.{pow-le-pow_right, mul-le-mul_right}
use Rattle.std.proofs.lemmas.Bool.{cases_lt}
use Rattle.std.proofs.lemmas.Bool.Decides.{nat_tests}
use Rattle.std.proofs.lemmas.Int.{ints}
use Rattle.std.proofs.lemmas.Nat.{pow-add}
use Rattle.std.proofs.lemmas.List.{length-append, length-replicate}
use Rattle.std.proofs.lemmas.List.Sums.{split_at_first, passes_at_first}
use Rattle.edf_fields.specs.texts.Numbers.{AreDigits, weight, has_minus, unsigned, signed, before_dot, behind_dot, decimal}
use Rattle.edf_fields.specs.texts.OnsetsReading.{without_trailing_zeros}
use Rattle.edf_fields.proofs.ForCallers.{before_none, behind_none}
use Rattle.edf_layout.specs.PlainNumbers.{is_plain_whole, is_plain_fraction, is_plain_unsigned, is_plain_number}
use Rattle.edf_layout.proofs.plain.DigitFacts.{digits-tail, digit-head, weight-below, split-same, digits-same}

bool-cases : (b : Bool) → (b ≡ true) ⊎ (b ≡ false)
bool-cases true = inl refl
bool-cases false = inr refl

pub and-both : (a b : Bool) → (a && b) ≡ true → (a ≡ true) × (b ≡ true)
and-both true b h = (refl, h)
and-both false b h = absurd (let z : false ≡ true = h in cc)

not-true : (a : Bool) → not a ≡ true → a ≡ false
not-true true h = absurd (let z : false ≡ true = h in cc)
not-true false h = refl

-- ---- fractions with zeros behind them

all-zeros : (n : ℕ) → list_all (λ b. b == 48) (replicate n 48) ≡ true
all-zeros zero = refl
all-zeros (suc n) = all-zeros n

all-pad : (xs : List ℕ) (n : ℕ) → list_all (λ b. b == 48) (xs ++ replicate n 48) ≡ list_all (λ b. b == 48) xs
all-pad [] n = all-zeros n
all-pad (c ∷ cs) n = ap (λ b. (c == 48) && b) (all-pad cs n)

trim-zeros : (n : ℕ) → without_trailing_zeros (replicate n 48) ≡ []
trim-zeros zero = refl
trim-zeros (suc n) = ap (λ b. cond b [] (48 ∷ without_trailing_zeros (replicate n 48))) (all-zeros n)

trim-pad : (xs : List ℕ) (n : ℕ) → without_trailing_zeros (xs ++ replicate n 48) ≡ without_trailing_zeros xs
trim-pad [] n = trim-zeros n
trim-pad (c ∷ cs) n =
    ap (λ b. cond b [] (c ∷ without_trailing_zeros (cs ++ replicate n 48))) (all-pad (c ∷ cs) n)
    ∙ ap (λ r. cond (list_all (λ b. b == 48) (c ∷ cs)) [] (c ∷ r)) (trim-pad cs n)

-- a fraction that doesn't end with a zero
kept-all : (d : ℕ) (ds : List ℕ) → without_trailing_zeros (d ∷ ds) ≡ d ∷ ds → list_all (λ b. b == 48) (d ∷ ds) ≡ false
kept-all d ds h = elim (bool-cases (list_all (λ b. b == 48) (d ∷ ds))) [
  | inl all ↦ absurd (let z : [] ≡ d ∷ ds = sym (ap (λ b. cond b [] (d ∷ without_trailing_zeros ds)) all) ∙ h in cc)
  | inr none ↦ none
]

trimmed : (f : List ℕ) → (0 < length f → slice_index f (length f - 1) ≢ 48) → without_trailing_zeros f ≡ f
trimmed [] h = refl
trimmed (c ∷ []) h =
    let none : (c == 48) ≡ false = (let other : c ≢ 48 = h (omega arith) in grind (arith, nat_tests)) in
    ap (λ b. cond (b && true) [] (c ∷ [])) none
trimmed (c ∷ d ∷ ds) h =
    let rest : without_trailing_zeros (d ∷ ds) ≡ d ∷ ds = trimmed (d ∷ ds) (λ some last. h (omega arith)
    (ap (λ i. slice_index (c ∷ d ∷ ds) i) (let e : suc (suc (length ds)) - 1 ≡ suc (suc (length ds) - 1) = omega arith in e) ∙ last)) in
    ap (λ b. cond b [] (c ∷ without_trailing_zeros (d ∷ ds))) (ap (λ b. (c == 48) && b) (kept-all d ds rest) ∙ none (c == 48))
    ∙ ap (λ r. c ∷ r) rest
  where
    none : (a : Bool) → (a && false) ≡ false
    none true = refl
    none false = refl

plain-trimmed : (f : List ℕ) → is_plain_fraction f ≡ true → without_trailing_zeros f ≡ f
plain-trimmed f h =
    let parts = and-both (nat_lt 0 (length f)) (not (slice_index f (length f - 1) == 48)) h in
    let other : (slice_index f (length f - 1) == 48) ≡ false = not-true (slice_index f (length f - 1) == 48) parts.1 in
    trimmed f (λ some e. absurd (let z : (48 == 48) ≡ false = subst (λ b. (b == 48) ≡ false) e other in let w : true ≡ false = z in cc))

-- digits, by recursion
abbrev Digits : List ℕ → Type 0
Digits [] = Unit {0}
Digits (c ∷ cs) = ((48 ≤ c) × (c ≤ 57)) × Digits cs

to-digits : (ds : List ℕ) → AreDigits ds → Digits ds
to-digits [] h = tt
to-digits (c ∷ cs) h = (digit-head c cs h, to-digits cs (digits-tail c cs h))

from-digits : (ds : List ℕ) → Digits ds → AreDigits ds
from-digits [] h k low = absurd (omega arith)
from-digits (c ∷ cs) h zero low = h.0
from-digits (c ∷ cs) h (suc k) low = from-digits cs h.1 k (omega arith)

zeros-digits : (n : ℕ) → Digits (replicate n 48)
zeros-digits zero = tt
zeros-digits (suc n) = ((omega arith, omega arith), zeros-digits n)

pad-digits : (ds : List ℕ) (n : ℕ) → Digits ds → Digits (ds ++ replicate n 48)
pad-digits [] n h = zeros-digits n
pad-digits (c ∷ cs) n h = (h.0, pad-digits cs n h.1)

zeros-weight : (n : ℕ) → weight (replicate n 48) ≡ 0
zeros-weight zero = refl
zeros-weight (suc n) = let rest = zeros-weight n in omega (arith, rest)

pub spread : (a p w q : ℕ) → a * (p * q) + w * q ≡ (a * p + w) * q
spread a p w q = grind arith

pad-weight : (ds : List ℕ) (n : ℕ) → weight (ds ++ replicate n 48) ≡ weight ds * 10 ^ n
pad-weight [] n = let z = zeros-weight n in omega (arith, z)
pad-weight (c ∷ cs) n =
    let long : length (cs ++ replicate n 48) ≡ length cs + n = length-append cs (replicate n 48) ∙ ap (λ k. length cs + k) (length-replicate n 48) in
    ap (λ k. (c - 48) * 10 ^ k + weight (cs ++ replicate n 48)) long
    ∙ ap (λ p. (c - 48) * p + weight (cs ++ replicate n 48)) (pow-add 10 (length cs) n)
    ∙ ap (λ w. (c - 48) * (10 ^ length cs * 10 ^ n) + w) (pad-weight cs n)
    ∙ spread (c - 48) (10 ^ length cs) (weight cs) (10 ^ n)

-- a fraction in k places
pad-long : (f : List ℕ) (k : ℕ) → length f ≤ k → length (f ++ replicate (k - length f) 48) ≡ k
pad-long f k fits = length-append f (replicate (k - length f) 48) ∙ ap (λ n. length f + n) (length-replicate (k - length f) 48) ∙ (let e : length f + (k - length f) ≡ k = omega arith in e)

places-below : (f : List ℕ) (k : ℕ) → AreDigits f → length f ≤ k → weight f * 10 ^ (k - length f) < 10 ^ k
places-below f k h fits =
    let low = weight-below (f ++ replicate (k - length f) 48) (from-digits (f ++ replicate (k - length f) 48) (pad-digits f (k - length f) (to-digits f h))) in
    subst (λ n. n < 10 ^ k) (pad-weight f (k - length f)) (subst (λ n. weight (f ++ replicate (k - length f) 48) < 10 ^ n) (pad-long f k fits) low)

fractions-same : (f g : List ℕ) (k : ℕ) → AreDigits f → AreDigits g → length f ≤ k → length g ≤ k → weight f * 10 ^ (k - length f) ≡ weight g * 10 ^ (k - length g)
    → without_trailing_zeros f ≡ f → without_trailing_zeros g ≡ g → f ≡ g
fractions-same f g k h d fits fit same ends end =
    let padded : f ++ replicate (k - length f) 48 ≡ g ++ replicate (k - length g) 48 =
    digits-same (f ++ replicate (k - length f) 48) (g ++ replicate (k - length g) 48)
    (from-digits (f ++ replicate (k - length f) 48) (pad-digits f (k - length f) (to-digits f h)))
    (from-digits (g ++ replicate (k - length g) 48) (pad-digits g (k - length g) (to-digits g d)))
    (pad-long f k fits ∙ sym (pad-long g k fit))
    (pad-weight f (k - length f) ∙ same ∙ sym (pad-weight g (k - length g))) in
    sym ends ∙ sym (trim-pad f (k - length f)) ∙ ap without_trailing_zeros padded ∙ trim-pad g (k - length g) ∙ end

-- ---- whole parts

least-weight : (c : ℕ) (cs : List ℕ) → AreDigits (c ∷ cs) → c ≢ 48 → 10 ^ length cs ≤ weight (c ∷ cs)
least-weight c cs h other =
    let digit = digit-head c cs h in
    let some : 1 ≤ c - 48 = omega (arith, digit, other) in
    let most : 1 * 10 ^ length cs ≤ (c - 48) * 10 ^ length cs = mul-le-mul_right (10 ^ length cs) some in
    omega (arith, most)

-- of two plain wholes the longer one is the larger one
not-shorter : (v w : List ℕ) → AreDigits v → AreDigits w → is_plain_whole v ≡ true → is_plain_whole w ≡ true → weight v ≡ weight w → length v < length w → ⊥
not-shorter v [] h k p q same less = absurd (omega arith)
not-shorter v (c ∷ cs) h k p q same less =
    let parts = and-both (nat_lt 0 (length v)) (nat_le (length v) 1 || not (slice_index v 0 == 48)) p in
    let some : 0 < length v = elim (cases_lt 0 (length v)) [
      | inl more ↦ more
      | inr none ↦ absurd (let z : nat_lt 0 (length v) ≡ false = le-ltb 0 (length v) none in cc)
    ] in
    let first : c ≢ 48 = not-zero c cs (and-both (nat_lt 0 (length (c ∷ cs))) (nat_le (length (c ∷ cs)) 1 || not (c == 48)) q).1 (omega arith) in
    let most = least-weight c cs k first in
    let low = weight-below v h in
    let power : 10 ^ length v ≤ 10 ^ length cs = pow-le-pow_right (lit< tt) (let z : length v ≤ length cs = omega arith in z) in
    omega (arith, most, low, power, same)
  where
    not-zero : (c : ℕ) (cs : List ℕ) → (nat_le (length (c ∷ cs)) 1 || not (c == 48)) ≡ true → 2 ≤ length (c ∷ cs) → c ≢ 48
    not-zero c cs h long = λ e. grind (arith, nat_tests, h, long, e)

wholes-same : (v w : List ℕ) → AreDigits v → AreDigits w → is_plain_whole v ≡ true → is_plain_whole w ≡ true → weight v ≡ weight w → v ≡ w
wholes-same v w h k p q same = elim (cases_lt (length v) (length w)) [
  | inl less ↦ absurd (not-shorter v w h k p q same less)
  | inr le ↦ elim (cases_lt (length w) (length v)) [
    | inl more ↦ absurd (not-shorter w v k h q p (sym same) more)
    | inr ge ↦ digits-same v w h k (omega arith) same
  ]
]

-- ---- numbers without a sign

-- how a plain number is put together
abbrev pub Rejoins : List ℕ → Type 0
Rejoins u = ((u ≡ before_dot u ++ 46 ∷ behind_dot u) × (is_plain_fraction (behind_dot u) ≡ true)) ⊎ ((u ≡ before_dot u) × (behind_dot u ≡ []))

is-46 : (b : ℕ) → (b == 46) ≡ true → b ≡ 46
is-46 b h = grind (arith, nat_tests)

pub rejoins : (u : List ℕ) → is_plain_unsigned u ≡ true → (is_plain_whole (before_dot u) ≡ true) × Rejoins u
unfolding is_plain_unsigned
rejoins u h =
    let parts = and-both (is_plain_whole (before_dot u)) (option_map_or (λ k. is_plain_fraction (behind_dot u)) (position (λ b. b == 46) u) true) h in (
      parts.0,
      elim (cases_lt (position_or_len (λ b. b == 46) u) (length u)) [
        | inl low ↦
            let place : position (λ b. b == 46) u ≡ Some (position_or_len (λ b. b == 46) u) = rw (lt-ltb (position_or_len (λ b. b == 46) u) (length u) low) refl in
            let byte : get_or u (position_or_len (λ b. b == 46) u) 0 ≡ 46 = is-46 _ (passes_at_first (λ b. b == 46) u 0 low) in
            inl (
              split_at_first (λ b. b == 46) u 0 low ∙ ap (λ b. before_dot u ++ b ∷ behind_dot u) byte,
              sym (ap (λ o. option_map_or (λ k. is_plain_fraction (behind_dot u)) o true) place) ∙ parts.1,
            )
        | inr high ↦
            let place : position (λ b. b == 46) u ≡ None = rw (le-ltb (position_or_len (λ b. b == 46) u) (length u) high) refl in
            inr (before_none (λ b. b == 46) u place, sym (behind_none (λ b. b == 46) u place))
      ],
    )

pub plain-end : (u : List ℕ) → Rejoins u → without_trailing_zeros (behind_dot u) ≡ behind_dot u
plain-end u (inl dot) = plain-trimmed (behind_dot u) dot.1
plain-end u (inr none) = ap without_trailing_zeros none.1 ∙ sym none.1

no-fraction : (f : List ℕ) → f ≡ [] → is_plain_fraction f ≡ true → ⊥
no-fraction f e h = let z : is_plain_fraction [] ≡ true = subst (λ g. is_plain_fraction g ≡ true) e h in let w : false ≡ true = z in cc

put-together : (u w : List ℕ) → Rejoins u → Rejoins w → before_dot u ≡ before_dot w → behind_dot u ≡ behind_dot w → u ≡ w
put-together u w (inl a) (inl b) whole fraction =
    a.0 ∙ ap (λ v. v ++ 46 ∷ behind_dot u) whole ∙ ap (λ f. before_dot w ++ 46 ∷ f) fraction ∙ sym b.0
put-together u w (inl a) (inr b) whole fraction = absurd (no-fraction (behind_dot u) (fraction ∙ b.1) a.1)
put-together u w (inr a) (inl b) whole fraction = absurd (no-fraction (behind_dot w) (sym fraction ∙ a.1) b.1)
put-together u w (inr a) (inr b) whole fraction = a.0 ∙ whole ∙ sym b.0

-- digits, and at most k of them behind the dot
pub record Fits (u : List ℕ) (k : ℕ) : Type 0 where
  pub whole : AreDigits (before_dot u)
  pub fraction : AreDigits (behind_dot u)
  pub few : length (behind_dot u) ≤ k

pub unsigned-same : (u w : List ℕ) (k : ℕ) → Fits u k → Fits w k → is_plain_unsigned u ≡ true → is_plain_unsigned w ≡ true
    → decimal k (before_dot u) (behind_dot u) ≡ decimal k (before_dot w) (behind_dot w) → u ≡ w
unsigned-same u w k h g p q same =
    let one = rejoins u p in
    let two = rejoins w q in
    let parts = split-same (weight (before_dot u)) (weight (before_dot w)) (weight (behind_dot u) * 10 ^ (k - length (behind_dot u))) (weight (behind_dot w) * 10 ^ (k - length (behind_dot w))) (10 ^ k)
    (places-below (behind_dot u) k h.fraction h.few) (places-below (behind_dot w) k g.fraction g.few) same in
    put-together u w one.1 two.1
    (wholes-same (before_dot u) (before_dot w) h.whole g.whole one.0 two.0 parts.0)
    (fractions-same (behind_dot u) (behind_dot w) k h.fraction g.fraction h.few g.few parts.1 (plain-end u one.1) (plain-end w two.1))

-- ---- with a sign

signs-same : (a b : Bool) (n m : ℕ) → signed a n ≡ signed b m → (n ≡ m) × ((a ≡ b) ⊎ (n ≡ 0))
signs-same true true n m e = (omega (arith, ints, e), inl refl)
signs-same false false n m e = (omega (arith, ints, e), inl refl)
signs-same true false n m e = let z : n ≡ 0 = omega (arith, ints, e) in let w : m ≡ 0 = omega (arith, ints, e) in (z ∙ sym w, inr z)
signs-same false true n m e = let z : n ≡ 0 = omega (arith, ints, e) in let w : m ≡ 0 = omega (arith, ints, e) in (z ∙ sym w, inr z)

-- 0 in plain form
nought-fits : (k : ℕ) → Fits (48 ∷ []) k
nought-fits k = record { whole = from-digits (48 ∷ []) ((omega arith, omega arith), tt); fraction = from-digits [] tt; few = omega arith }

nought-value : (k : ℕ) → decimal k (before_dot (48 ∷ [])) (behind_dot (48 ∷ [])) ≡ 0
nought-value k = omega arith

nought-plain : is_plain_unsigned (48 ∷ []) ≡ true
unfolding is_plain_unsigned
nought-plain = refl

is-nought : (u : List ℕ) (k : ℕ) → Fits u k → is_plain_unsigned u ≡ true → decimal k (before_dot u) (behind_dot u) ≡ 0 → u ≡ 48 ∷ []
is-nought u k h p none = unsigned-same u (48 ∷ []) k h (nought-fits k) p nought-plain (none ∙ sym (nought-value k))

-- 0 has no minus in plain form
no-minus : (minus : Bool) (u : List ℕ) → not (minus && bytes_eq u (codes "0")) ≡ true → u ≡ 48 ∷ [] → minus ≡ false
no-minus false u h e = refl
no-minus true u h e = absurd (let z : not (bytes_eq (48 ∷ []) (codes "0")) ≡ true = subst (λ w. not (bytes_eq w (codes "0")) ≡ true) e h in let w : false ≡ true = z in cc)

-- two signed numbers by their signs and what stands behind them
pub signs-alike : (a b : Bool) (u w : List ℕ) (k : ℕ) → Fits u k → Fits w k → is_plain_unsigned u ≡ true → is_plain_unsigned w ≡ true
    → not (a && bytes_eq u (codes "0")) ≡ true → not (b && bytes_eq w (codes "0")) ≡ true
    → signed a (decimal k (before_dot u) (behind_dot u)) ≡ signed b (decimal k (before_dot w) (behind_dot w)) → (a ≡ b) × (u ≡ w)
signs-alike a b u w k h g p q m n e =
    let parts = signs-same a b (decimal k (before_dot u) (behind_dot u)) (decimal k (before_dot w) (behind_dot w)) e in
    let same : u ≡ w = unsigned-same u w k h g p q parts.0 in (
      elim parts.1 [
        | inl is ↦ is
        | inr none ↦
            let one = is-nought u k h p none in
            let two = is-nought w k g q (sym parts.0 ∙ none) in
            no-minus a u m one ∙ sym (no-minus b w n two)
      ],
      same,
    )

-- a text that begins with no plus, by its sign
rebuilt : (t : List ℕ) → not (slice_index t 0 == 43) ≡ true → t ≡ cond (has_minus t) (45 ∷ unsigned t) (unsigned t)
rebuilt [] h = refl
rebuilt (c ∷ cs) h = sides (c == 45) (c == 43) (not-true (c == 43) h) (λ e. minus c e)
  where
    minus : (c : ℕ) → (c == 45) ≡ true → c ≡ 45
    minus c e = grind (arith, nat_tests)

    sides : (a b : Bool) → b ≡ false → (a ≡ true → c ≡ 45) → c ∷ cs ≡ cond a (45 ∷ cond (a || b) cs (c ∷ cs)) (cond (a || b) cs (c ∷ cs))
    sides true b none is = ap (λ d. d ∷ cs) (is refl)
    sides false false none is = refl
    sides false true none is = absurd (let z : true ≡ false = none in cc)

number-parts : (t : List ℕ) → is_plain_number t ≡ true → (not (slice_index t 0 == 43) ≡ true) × (is_plain_unsigned (unsigned t) ≡ true) × (not (has_minus t && bytes_eq (unsigned t) (codes "0")) ≡ true)
unfolding is_plain_number
number-parts t h =
    let one = and-both (not (slice_index t 0 == 43)) (is_plain_unsigned (unsigned t) && not (has_minus t && bytes_eq (unsigned t) (codes "0"))) h in
    let two = and-both (is_plain_unsigned (unsigned t)) (not (has_minus t && bytes_eq (unsigned t) (codes "0"))) one.1 in
    (one.0, two.0, two.1)

pub numbers-same : (t u : List ℕ) (k : ℕ) → Fits (unsigned t) k → Fits (unsigned u) k → is_plain_number t ≡ true → is_plain_number u ≡ true
    → signed (has_minus t) (decimal k (before_dot (unsigned t)) (behind_dot (unsigned t))) ≡ signed (has_minus u) (decimal k (before_dot (unsigned u)) (behind_dot (unsigned u))) → t ≡ u
numbers-same t u k h g p q same =
    let one = number-parts t p in
    let two = number-parts u q in
    let parts = signs-alike (has_minus t) (has_minus u) (unsigned t) (unsigned u) k h g one.1 two.1 one.2 two.2 same in
    rebuilt t one.0 ∙ ap (λ m. cond m (45 ∷ unsigned t) (unsigned t)) parts.0 ∙ ap (λ r. cond (has_minus u) (45 ∷ r) r) parts.1 ∙ sym (rebuilt u two.0)
