-- The plain spelling of a TAL is one, and plain.
use Rattle.std.proofs.Common.{◌≡◌, ◌≢◌, ◌⊎◌, inl, inr, ℕ, ℤ, pos, negsuc, neg_ℤ, zero, suc, Bool, true, false, not, cond, ◌&&◌, ◌||◌, ◌==◌, nat_lt, nat_le, int_lt, ◌+◌, ◌-◌, ◌*◌, ◌/◌, ◌%◌, ◌^◌, ◌<◌, ◌≤◌, ◌≤ℤ◌, unsigned_abs, List, [], ◌∷◌, ◌++◌, length, take, drop, slice_index, Option, Some, None, IfSome, codes, arith, refl, ap, ◌∙◌, sym, subst, lt-ltb, le-ltb, lit<, append-nil}
use Rattle.std.specs.Fmt.{decimal}
use Rattle.std.specs.List.{list_all, list_any, position, position_or_len}
use Rattle.std.specs.Option.{option_map_or}
use Rattle.std.specs.Str.{bytes_eq}
use Rattle.std.proofs.Math.Nat.{mod-lt, pow-succ', mul-le-mul_right}
use Rattle.std.proofs.Math.ListN.{drop_of_length-le}
use Rattle.std.proofs.Math.Seq.{take-append_seam}
use Rattle.std.proofs.lemmas.Bool.{cases_lt}
use Rattle.std.proofs.lemmas.List.{length-append}
use Rattle.std.proofs.lemmas.Slice.Eq.{bytes_eq-Decides}
use Rattle.std.proofs.lemmas.Bool.Decides.{nat_tests}
use Rattle.std.proofs.lemmas.Int.{ints}
use Rattle.std.proofs.lemmas.Nat.{pow-add, div-add-mod'}
use Rattle.std.proofs.lemmas.Fmt.{digits_decimal, digits_value-decimal, first_decimal, decimal_nonempty, decimal_digit}
use Rattle.std.proofs.lemmas.Str.Parse.{IsNumeralModel, numerals_by_weight, tells_by_index}
use Rattle.edf_fields.specs.texts.Numbers.{AreDigits, weight, before_dot, behind_dot, decimal as decimal_value}
use Rattle.edf_fields.specs.texts.Onsets.{IsTime, time_of, SpellsOnset}
use Rattle.edf_layout.specs.PlainNumbers.{is_plain_whole, is_plain_fraction, is_plain_unsigned}
use Rattle.edf_tal.specs.Tals.{TalValue, SpellsDuration}
use Rattle.edf_layout.specs.body.LaneLayouts.{IsLaidTal, is_plain_duration, unless_plain}
use Rattle.edf_layout.specs.PlainLaws.{is_plain_onset}
use Rattle.edf_layout.specs.body.PlainOrders.{last_digits, plain_time, plain_onset, plain_duration, plain_tal}
use Rattle.edf_layout.specs.body.PlainBodyLaws.{CanStand, OnePlainTal}
use Rattle.edf_layout.proofs.plain.DigitFacts.{digits-tail, digit-head}
use Rattle.edf_layout.proofs.body.LaneFacts.{tal-same}
use Rattle.edf_layout.proofs.plain.NumberFacts.{spread}
use Rattle.edf_layout.proofs.plain.LawFacts.{no-dot, digit-no-dot}

own : IsNumeralModel AreDigits weight
own = numerals_by_weight AreDigits tells_by_index weight (record { empty = refl; more = λ c cs k. refl })

pub ten-power : (n : ℕ) → 0 < 10 ^ n
ten-power zero = lit< tt
ten-power (suc n) = let less = ten-power n in let more : 10 ^ suc n ≡ 10 * 10 ^ n = pow-succ' 10 n in omega (arith, less, more)

-- ---- the digits of a fraction

-- these digits are a fraction of p places at the most, with this number; and where it isn't 0, they end with another digit than 0
pub record AreLast (p n : ℕ) (ds : List ℕ) : Type 0 where
  pub digits : AreDigits ds
  pub few : length ds ≤ p
  pub value : weight ds * 10 ^ (p - length ds) ≡ n
  pub some : 0 < n → 0 < length ds
  pub ends : 0 < length ds → slice_index ds (length ds - 1) ≢ 48

zero-cases : (n : ℕ) → ((n == 0) ≡ true) × (n ≡ 0) ⊎ ((n == 0) ≡ false) × (0 < n)
zero-cases zero = inl (refl, refl)
zero-cases (suc n) = inr (grind (arith, nat_tests), omega arith)

digits-more : (c : ℕ) (cs : List ℕ) → 48 ≤ c → c ≤ 57 → AreDigits cs → AreDigits (c ∷ cs)
digits-more c cs low high h zero within = (low, high)
digits-more c cs low high h (suc k) within = h k (omega arith)

pub opened : (p n : ℕ) → (n == 0) ≡ false → last_digits (suc p) n ≡ (48 + n / 10 ^ p) ∷ last_digits p (n % 10 ^ p)
opened p n other = ap (λ b. cond b [] ((48 + n / 10 ^ p) ∷ last_digits p (n % 10 ^ p))) other

closed : (p n : ℕ) → (n == 0) ≡ true → last_digits (suc p) n ≡ []
closed p n none = ap (λ b. cond b [] ((48 + n / 10 ^ p) ∷ last_digits p (n % 10 ^ p))) none

nothing-last : (p n : ℕ) → n ≡ 0 → AreLast p n []
nothing-last p n is = record {
  digits = λ k within. absurd (omega arith);
  few = omega arith;
  value = (let e : 0 * 10 ^ (p - 0) ≡ 0 = omega arith in e) ∙ sym is;
  some = λ low. omega (arith, low, is);
  ends = λ low. absurd (omega arith);
}

last-later : (c d : ℕ) (ds : List ℕ) → slice_index (c ∷ d ∷ ds) (length (c ∷ d ∷ ds) - 1) ≡ slice_index (d ∷ ds) (length (d ∷ ds) - 1)
last-later c d ds =
    ap (slice_index (c ∷ d ∷ ds)) (let e : suc (suc (length ds)) - 1 ≡ suc (length ds) = omega arith in e)
    ∙ ap (slice_index (d ∷ ds)) (let e : length ds ≡ suc (length ds) - 1 = omega arith in e)

ends-first : (c : ℕ) (ds : List ℕ) → (0 < length ds → slice_index ds (length ds - 1) ≢ 48) → (length ds ≡ 0 → c ≢ 48) → slice_index (c ∷ ds) (length (c ∷ ds) - 1) ≢ 48
ends-first c [] h k = k refl
ends-first c (d ∷ ds) h k = λ e. h (omega arith) (sym (last-later c d ds) ∙ e)

digit-first : (p n d r q : ℕ) (ds : List ℕ) → AreLast p r ds → q ≡ 10 ^ p → d * q + r ≡ n → n < 10 * q → 0 < n → AreLast (suc p) n ((48 + d) ∷ ds)
digit-first p n d r q ds h power whole few some =
    let digit : d ≤ 9 = elim (cases_lt d 10) [
      | inl less ↦ omega (arith, less)
      | inr most ↦ absurd (let more : 10 * q ≤ d * q = mul-le-mul_right q most in omega (arith, more, whole, few))
    ] in
    let here : 48 + d - 48 ≡ d = omega arith in
    let left : suc p - suc (length ds) ≡ p - length ds = omega arith in
    let most = h.few in
    let both : length ds + (p - length ds) ≡ p = omega (arith, most) in
    let parts : 10 ^ length ds * 10 ^ (p - length ds) ≡ q = sym (pow-add 10 (length ds) (p - length ds)) ∙ ap (λ k. 10 ^ k) both ∙ sym power in
    record {
      digits = digits-more (48 + d) ds (omega arith) (omega (arith, digit)) h.digits;
      few = omega (arith, most);
      value =
          ap (λ k. ((48 + d - 48) * 10 ^ length ds + weight ds) * 10 ^ k) left
          ∙ ap (λ k. (k * 10 ^ length ds + weight ds) * 10 ^ (p - length ds)) here
          ∙ sym (spread d (10 ^ length ds) (weight ds) (10 ^ (p - length ds)))
          ∙ ap (λ k. d * k + weight ds * 10 ^ (p - length ds)) parts
          ∙ ap (λ k. d * q + k) h.value ∙ whole;
      some = λ low. omega arith;
      ends = λ low. ends-first (48 + d) ds h.ends
          (λ none e.
          let nought : d * q ≡ 0 * q = ap (λ k. k * q) (let z : d ≡ 0 = omega (arith, e) in z) in
          let rest : r ≡ 0 = elim (zero-cases r) [
            | inl is ↦ is.1
            | inr more ↦ absurd (let low = h.some more.1 in omega (arith, low, none))
          ] in
          omega (arith, nought, rest, whole, some));
    }

pub last : (p n : ℕ) → n < 10 ^ p → AreLast p n (last_digits p n)
last zero n low = nothing-last zero n (let e : 10 ^ zero ≡ 1 = refl in omega (arith, low, e))
last (suc p) n low = elim (zero-cases n) [
  | inl none ↦ subst (AreLast (suc p) n) (sym (closed p n none.0)) (nothing-last (suc p) n none.1)
  | inr some ↦
      let power : 10 ^ suc p ≡ 10 * 10 ^ p = pow-succ' 10 p in
      let behind : n % 10 ^ p < 10 ^ p = mod-lt n (ten-power p) in
      let few : n < 10 * 10 ^ p = omega (arith, low, power) in
      subst (AreLast (suc p) n) (sym (opened p n some.0))
      (digit-first p n (n / 10 ^ p) (n % 10 ^ p) (10 ^ p) (last_digits p (n % 10 ^ p)) (last p (n % 10 ^ p) behind) refl (div-add-mod' n (10 ^ p)) few some.1)
]

-- ---- a time

-- what stands before a dot and behind it
dotted : (u ys : List ℕ) → AreDigits u → (before_dot (u ++ 46 ∷ ys) ≡ u) × (behind_dot (u ++ 46 ∷ ys) ≡ ys) × (position (λ b. b == 46) (u ++ 46 ∷ ys) ≡ Some (length u))
dotted u ys h = let at = place u ys h in (
  ap (λ n. take n (u ++ 46 ∷ ys)) at ∙ take-append_seam u (46 ∷ ys),
  ap (λ n. drop (n + 1) (u ++ 46 ∷ ys)) at ∙ behind u ys,
  ap (λ n. cond (nat_lt n (length (u ++ 46 ∷ ys))) (Some n) None) at ∙ ap (λ b. cond b (Some (length u)) None) (lt-ltb (length u) (length (u ++ 46 ∷ ys)) (let e = length-append u (46 ∷ ys) in omega (arith, e))),
)
  where
    place : (u ys : List ℕ) → AreDigits u → position_or_len (λ b. b == 46) (u ++ 46 ∷ ys) ≡ length u
    place [] ys h = refl
    place (c ∷ cs) ys h =
        let first = digit-no-dot c (digit-head c cs h) in rw first (let rest = place cs ys (digits-tail c cs h) in omega (arith, rest))

    behind : (u ys : List ℕ) → drop (length u + 1) (u ++ 46 ∷ ys) ≡ ys
    behind [] ys = refl
    behind (c ∷ cs) ys = ap (λ n. drop n (c ∷ (cs ++ 46 ∷ ys))) (let e : suc (length cs) + 1 ≡ suc (length cs + 1) = omega arith in e) ∙ behind cs ys

-- a text is a time with this value, spelled plainly
pub record IsPlainTime (n : ℕ) (u : List ℕ) : Type 0 where
  pub time : IsTime u
  pub value : time_of u ≡ n
  pub plain : is_plain_unsigned u ≡ true

-- no dot stands among digits
undotted : (u : List ℕ) → AreDigits u → position (λ b. b == 46) u ≡ None
undotted u h = ap (λ n. cond (nat_lt n (length u)) (Some n) None) (place u h) ∙ ap (λ b. cond b (Some (length u)) None) (le-ltb (length u) (length u) (omega arith))
  where
    place : (u : List ℕ) → AreDigits u → position_or_len (λ b. b == 46) u ≡ length u
    place [] h = refl
    place (c ∷ cs) h =
        let first = digit-no-dot c (digit-head c cs h) in rw first (let rest = place cs (digits-tail c cs h) in omega (arith, rest))

-- a fraction that ends with another digit than 0 is plain
plain-fraction : (f : List ℕ) → 0 < length f → slice_index f (length f - 1) ≢ 48 → is_plain_fraction f ≡ true
plain-fraction f some ends = ap (λ b. b && not (slice_index f (length f - 1) == 48)) (lt-ltb 0 (length f) some) ∙ other (slice_index f (length f - 1)) ends
  where
    other : (b : ℕ) → b ≢ 48 → not (b == 48) ≡ true
    other b h = grind (arith, nat_tests)

-- a whole part as it is written is plain
plain-whole : (w : ℕ) → w < 2 ^ 64 → is_plain_whole (decimal w) ≡ true
plain-whole w low = elim (zero-cases w) [
  | inl none ↦ ap is_plain_whole (ap decimal none.1 ∙ decimal_digit 0 (omega arith))
  | inr some ↦
      ap (λ b. b && (nat_le (length (decimal w)) 1 || not (slice_index (decimal w) 0 == 48))) (lt-ltb 0 (length (decimal w)) (decimal_nonempty w low))
      ∙ ap (λ b. nat_le (length (decimal w)) 1 || b) (larger (slice_index (decimal w) 0) (first_decimal w some.1 low)) ∙ either (nat_le (length (decimal w)) 1)
]
  where
    larger : (b : ℕ) → 48 < b → not (b == 48) ≡ true
    larger b h = grind (arith, nat_tests)

    either : (b : Bool) → (b || true) ≡ true
    either true = refl
    either false = refl

-- a text by what stands before its dot and behind it
time-by : (u w f : List ℕ) (n q r : ℕ) → before_dot u ≡ w → behind_dot u ≡ f → AreDigits w → 0 < length w → weight w ≡ q → q < 10 ^ 9 → AreLast 12 r f → q * 10 ^ 12 + r ≡ n
    → (list_any (λ b. b == 46) u ≡ true → 0 < length f) → is_plain_unsigned u ≡ true → IsPlainTime n u
time-by u w f n q r before behind digits some whole low last value dot plain =
    let few = last.few in
    let short : take 12 f ≡ f = take-all 12 f few in
    record {
      time = (
        (subst AreDigits (sym before) digits, subst AreDigits (sym behind) last.digits, (let e = ap length before in omega (arith, e, some))),
        (let e = ap length before in omega (arith, e, some)),
        subst (λ k. k < 10 ^ 9) (sym (ap weight before ∙ whole)) low,
        ap (λ x. list_all (λ b. b == 48) (drop 12 x)) behind ∙ ap (λ x. list_all (λ b. b == 48) x) (drop_of_length-le f few),
        λ has. (let some-more = dot has in let e = ap length behind in omega (arith, e, some-more)),
      );
      value =
          ap (λ x. decimal_value 12 x (take 12 (behind_dot u))) before
          ∙ ap (λ x. decimal_value 12 w (take 12 x)) behind
          ∙ ap (λ x. decimal_value 12 w x) short
          ∙ ap (λ k. k * 10 ^ 12 + weight f * 10 ^ (12 - length f)) whole
          ∙ ap (λ k. q * 10 ^ 12 + k) last.value ∙ value;
      plain = plain;
    }
  where
    take-all : (k : ℕ) (f : List ℕ) → length f ≤ k → take k f ≡ f
    take-all zero [] h = refl
    take-all zero (b ∷ bs) h = absurd (omega arith)
    take-all (suc k) [] h = refl
    take-all (suc k) (b ∷ bs) h = ap (λ r. b ∷ r) (take-all k bs (omega arith))

any-none : (u : List ℕ) → AreDigits u → list_any (λ b. b == 46) u ≡ false
any-none [] h = refl
any-none (c ∷ cs) h = ap (λ b. b || list_any (λ b. b == 46) cs) (digit-no-dot c (digit-head c cs h)) ∙ any-none cs (digits-tail c cs h)

plain-unsigned : (u w f : List ℕ) (o : Option ℕ) → before_dot u ≡ w → behind_dot u ≡ f → position (λ b. b == 46) u ≡ o → is_plain_whole w ≡ true → option_map_or (λ k. is_plain_fraction f) o true ≡ true → is_plain_unsigned u ≡ true
unfolding is_plain_unsigned
plain-unsigned u w f o before behind place whole fraction =
    ap (λ x. is_plain_whole x && option_map_or (λ k. is_plain_fraction (behind_dot u)) (position (λ b. b == 46) u) true) before
    ∙ ap (λ x. is_plain_whole w && option_map_or (λ k. is_plain_fraction x) (position (λ b. b == 46) u) true) behind
    ∙ ap (λ x. is_plain_whole w && option_map_or (λ k. is_plain_fraction f) x true) place
    ∙ ap (λ b. b && option_map_or (λ k. is_plain_fraction f) o true) whole ∙ fraction

parted : (n q r : ℕ) → q * 10 ^ 12 + r ≡ n → r < 10 ^ 12 → n < 10 ^ 21 → IsPlainTime n (decimal q ++ cond (r == 0) [] (46 ∷ last_digits 12 r))
parted n q r whole behind low = elim (zero-cases r) [
  | inl none ↦ subst (λ b. IsPlainTime n (decimal q ++ cond b [] (46 ∷ last_digits 12 r))) (sym none.0)
      (subst (IsPlainTime n) (sym (append-nil (decimal q))) (whole-alone none.1))
  | inr some ↦ subst (λ b. IsPlainTime n (decimal q ++ cond b [] (46 ∷ last_digits 12 r))) (sym some.0) (with-fraction some.1)
]
  where
    seconds : q < 10 ^ 9
    seconds = omega (arith, whole, low)

    narrow : q < 2 ^ 64
    narrow = (let s = seconds in omega (arith, s))

    digits : AreDigits (decimal q)
    digits = digits_decimal own q narrow

    whole-alone : r ≡ 0 → IsPlainTime n (decimal q)
    whole-alone none =
        let parts = no-dot (decimal q) digits in
        time-by (decimal q) (decimal q) [] n q r parts.0 parts.1 digits (decimal_nonempty q narrow) (digits_value-decimal own q narrow) seconds (nothing-last 12 r none) whole
        (λ has. absurd (let z : true ≡ false = sym has ∙ any-none (decimal q) digits in cc))
        (plain-unsigned (decimal q) (decimal q) [] None parts.0 parts.1 (undotted (decimal q) digits) (plain-whole q narrow) refl)

    with-fraction : 0 < r → IsPlainTime n (decimal q ++ 46 ∷ last_digits 12 r)
    with-fraction some =
        let f = last_digits 12 r in
        let is = last 12 r behind in
        let there = is.some some in
        let parts = dotted (decimal q) f digits in
        time-by (decimal q ++ 46 ∷ f) (decimal q) f n q r parts.0 parts.1 digits (decimal_nonempty q narrow) (digits_value-decimal own q narrow) seconds is whole
        (λ has. there)
        (plain-unsigned (decimal q ++ 46 ∷ f) (decimal q) f (Some (length (decimal q))) parts.0 parts.1 parts.2 (plain-whole q narrow) (plain-fraction f there (is.ends there)))

pub plain_time_is : (n : ℕ) → n < 10 ^ 21 → IsPlainTime n (plain_time n)
unfolding plain_time
plain_time_is n low = parted n (n / 10 ^ 12) (n % 10 ^ 12) (div-add-mod' n (10 ^ 12)) (mod-lt n (ten-power 12)) low

-- ---- onsets, durations and TALs

-- a time spells more than nothing only where it isn't 0
nought-time : time_of (codes "0") ≡ 0
nought-time = refl

plain-signed : (u : List ℕ) (n : ℕ) → time_of u ≡ suc n → bytes_eq u (codes "0") ≡ false
plain-signed u n value = cases (bytes_eq u (codes "0")) refl
  where
    cases : (b : Bool) → bytes_eq u (codes "0") ≡ b → b ≡ false
    cases false e = refl
    cases true e = absurd (let is = (bytes_eq-Decides u (codes "0")).0 e in let z : suc n ≡ 0 = sym value ∙ ap time_of is ∙ nought-time in omega (arith, z))

plain-positive : (u : List ℕ) → is_plain_unsigned u ≡ true → is_plain_onset (43 ∷ u) ≡ true
unfolding is_plain_onset
plain-positive u h = ap (λ b. b && true) h

plain-negative : (u : List ℕ) → is_plain_unsigned u ≡ true → bytes_eq u (codes "0") ≡ false → is_plain_onset (45 ∷ u) ≡ true
unfolding is_plain_onset
plain-negative u h other = ap (λ b. b && not (bytes_eq u (codes "0"))) h ∙ ap not other

onset-spelled : (v : ℤ) → unsigned_abs v < 10 ^ 21 → SpellsOnset (plain_onset v) v × (is_plain_onset (plain_onset v) ≡ true)
onset-spelled (pos n) low =
    let t = plain_time_is n low in
    let sign : int_lt (pos n) (pos 0) ≡ false = le-ltb n 0 (omega arith) in
    let is : 43 ∷ plain_time n ≡ plain_onset (pos n) = ap (λ b. cond b 45 43 ∷ plain_time n) (sym sign) in
    subst (λ u. SpellsOnset u (pos n) × (is_plain_onset u ≡ true)) is ((refl, t.time, ap pos (sym t.value)), plain-positive (plain_time n) t.plain)
onset-spelled (negsuc n) low =
    let t = plain_time_is (suc n) low in
    ((refl, t.time, let e : negsuc n ≡ neg_ℤ (pos (suc n)) = refl in e ∙ ap (λ k. neg_ℤ (pos k)) (sym t.value)), plain-negative (plain_time (suc n)) t.plain (plain-signed (plain_time (suc n)) n t.value))

duration-spelled : (v : Option ℤ) → IfSome v (λ d. (pos 0 ≤ℤ d) × (unsigned_abs d < 10 ^ 21)) → SpellsDuration (plain_duration v) v × (is_plain_duration (plain_duration v) ≡ true)
duration-spelled None h = (refl, refl)
duration-spelled (Some (pos n)) h = let t = plain_time_is n h.1 in ((plain_time n, refl, t.time, ap pos (sym t.value)), t.plain)
duration-spelled (Some (negsuc n)) h = absurd (let low = h.0 in omega (arith, ints, low))

unless : (b : Bool) (t : List ℕ) → b ≡ true → None ≡ unless_plain b t
unless b t e = sym (ap (λ c. unless_plain c t) e)

pub tal-spelled : (tal : TalValue) → CanStand tal → IsLaidTal (plain_tal tal) tal (record { onset = None; duration = None })
tal-spelled tal can =
    let onset = onset-spelled tal.onset can.onset in
    let duration = duration-spelled tal.duration can.duration in
    record {
      spelled = record { onset = plain_onset tal.onset; duration = plain_duration tal.duration; onset_is = onset.0; duration_is = duration.0; texts = can.texts; whole = refl };
      onset = unless (is_plain_onset (plain_onset tal.onset)) (plain_onset tal.onset) onset.1;
      duration = unless (is_plain_duration (plain_duration tal.duration)) (plain_duration tal.duration) duration.1;
    }

pub one_plain_tal : OnePlainTal
one_plain_tal tal can bytes = (
  λ laid. tal-same bytes (plain_tal tal) tal (record { onset = None; duration = None }) laid (tal-spelled tal can),
  λ is. subst (λ b. IsLaidTal b tal (record { onset = None; duration = None })) (sym is) (tal-spelled tal can),
)
