-- Of the numbers below one that pass a test, and of up to 64 behind them by their bits: how many, the first and the last.
use Rattle.std.proofs.Common.{◌≡◌, ℕ, zero, suc, ◌+◌, ◌-◌, ◌*◌, ◌/◌, ◌%◌, ◌^◌, ◌<◌, ◌≤◌, Bool, true, false, not, cond, List, [], ◌∷◌, ◌++◌, length, map, filter, get_or, Option, Some, None, IfSome, ⊎_elim, refl, sym, ap, ◌∙◌, subst, arith}
use Rattle.std.specs.Int.RustNames.{count_ones}
use Rattle.std.specs.List.{prefix_len, range_with_len}
use Rattle.std.proofs.Math.Nat.{pow-le-pow_right, pow-succ'}
use Rattle.std.proofs.lemmas.Bool.{cases_lt}
use Rattle.std.proofs.lemmas.List.{length-append, take_all}
use Rattle.std.proofs.lemmas.List.Elements.{filter-append}
use Rattle.std.proofs.lemmas.List.FromFn.{get_or-map-range_with_len, get_or-range_with_len, length-map-range_with_len, length-range_with_len}
use Rattle.std.proofs.lemmas.List.Sums.{count_by-le-length, length-filter}
use Rattle.std.proofs.lemmas.Nat.{div-mul-add, leading_top, pow_pos}
use Rattle.std.proofs.lemmas.Simd.{bit_mask_l, mask_l-lt, ones-mask_l, run_in_chunk_fails, run_in_chunk_stops, trailing_mask_l}
use lib.Count.{count_leading_zeros, count_trailing_zeros}
use lib.Lanes.{chunk, mask_l}
use Rattle.edf_samples.specs.Others.{AreOthers, ArePlaces}
use Rattle.edf_samples.specs.declared.counts.places.Places.{Places}

-- ---- how many pass

range-cut : (a n m : ℕ) → range_with_len a (n + m) ≡ range_with_len a n ++ range_with_len (a + n) m
range-cut a zero m =
    let e : zero + m ≡ m = omega arith in
    let f : a ≡ a + zero = omega arith in
    ap (range_with_len a) e ∙ ap (λ b. range_with_len b m) f
range-cut a (suc n) m =
    let e : suc n + m ≡ suc (n + m) = omega arith in
    let f : a + 1 + n ≡ a + suc n = omega arith in
    ap (range_with_len a) e ∙ ap (λ xs. a ∷ xs) (range-cut (a + 1) n m) ∙ ap (λ b. a ∷ (range_with_len (a + 1) n ++ range_with_len b m)) f

one-more : (b : Bool) (x : ℕ) (xs : List ℕ) → length (cond b (x ∷ xs) xs) ≡ cond b 1 0 + length xs
one-more true x xs = omega arith
one-more false x xs = omega arith

count-shift : (test : ℕ → Bool) (a b c m : ℕ) → a + b ≡ c → length (filter test (range_with_len c m)) ≡ length (filter (λ k. test (a + k)) (range_with_len b m))
count-shift test a b c zero e = refl
count-shift test a b c (suc m) e =
    let next : a + (b + 1) ≡ c + 1 = omega (arith, e) in
    one-more (test c) c (filter test (range_with_len (c + 1) m))
    ∙ ap (λ k. cond (test c) 1 0 + k) (count-shift test a (b + 1) (c + 1) m next)
    ∙ ap (λ x. cond (test x) 1 0 + length (filter (λ k. test (a + k)) (range_with_len (b + 1) m))) (sym e)
    ∙ sym (one-more (test (a + b)) b (filter (λ k. test (a + k)) (range_with_len (b + 1) m)))

-- the numbers behind n, and the bits that say which of so many of them pass
abbrev behind : (ℕ → Bool) → ℕ → ℕ → Bool
behind test n k = test (n + k)

abbrev mask : (ℕ → Bool) → ℕ → ℕ → ℕ
mask test n s = mask_l (map (behind test n) (range_with_len 0 s))

counted : (test : ℕ → Bool) (n s : ℕ) → length (filter test (range_with_len 0 (n + s))) ≡ length (filter test (range_with_len 0 n)) + count_ones (mask test n s)
counted test n s =
    let e : n + 0 ≡ 0 + n = omega arith in
    ap (λ xs. length (filter test xs)) (range-cut 0 n s)
    ∙ ap length (filter-append test (range_with_len 0 n) (range_with_len (0 + n) s))
    ∙ length-append (filter test (range_with_len 0 n)) (filter test (range_with_len (0 + n) s))
    ∙ ap (λ k. length (filter test (range_with_len 0 n)) + k)
    (count-shift test n 0 (0 + n) s e ∙ length-filter (behind test n) (range_with_len 0 s) ∙ sym (ones-mask_l (behind test n) (range_with_len 0 s)))

-- ---- single bits

on : (b : Bool) → ◌≡◌ {A = ℕ} (cond b 1 0) 1 → b ≡ true
on true e = refl
on false e = absurd (omega (arith, e))

off : (b : Bool) → ◌≡◌ {A = ℕ} (cond b 1 0) 0 → b ≡ false
off true e = absurd (omega (arith, e))
off false e = refl

bit-at : (test : ℕ → Bool) (n s k : ℕ) → k < s → mask test n s / 2 ^ k % 2 ≡ cond (test (n + k)) 1 0
bit-at test n s k lt =
    let e : 0 + k ≡ k = omega arith in
    bit_mask_l (map (behind test n) (range_with_len 0 s)) k ∙ ap (λ b. cond b 1 0) (get_or-map-range_with_len (behind test n) 0 s k k false lt e)

top-bit : (m j : ℕ) → 2 ^ j ≤ m → m < 2 ^ suc j → m / 2 ^ j % 2 ≡ 1
top-bit m j low high =
    let twice : 2 ^ suc j ≡ 2 * 2 ^ j = pow-succ' 2 j in
    let e : m ≡ 1 * 2 ^ j + (m - 2 ^ j) = omega (arith, low) in
    let lt : m - 2 ^ j < 2 ^ j = omega (arith, low, high, twice) in
    ap (λ x. x / 2 ^ j % 2) e ∙ ap (λ x. x % 2) (div-mul-add 1 (2 ^ j) (m - 2 ^ j) lt)

above-top : (m j k : ℕ) → m < 2 ^ suc j → j < k → m / 2 ^ k % 2 ≡ 0
above-top m j k high lt =
    let rises : 2 ^ suc j ≤ 2 ^ k = pow-le-pow_right (omega arith) (omega (arith, lt)) in
    let below : m < 2 ^ k = omega (arith, high, rises) in
    let e : m ≡ 0 * 2 ^ k + m = omega arith in
    ap (λ x. x / 2 ^ k % 2) e ∙ ap (λ x. x % 2) (div-mul-add 0 (2 ^ k) m below)

-- where no bit is set none of them passes
none-in : (test : ℕ → Bool) (n s k : ℕ) → mask test n s ≡ 0 → k < s → test (n + k) ≡ false
none-in test n s k e lt =
    let f : 0 ≡ 0 * 2 ^ k + 0 = omega arith in
    off (test (n + k)) (sym (bit-at test n s k lt) ∙ ap (λ x. x / 2 ^ k % 2) (e ∙ f) ∙ ap (λ x. x % 2) (div-mul-add 0 (2 ^ k) 0 (pow_pos k)))

-- ---- the first and the last of them

record InBlock (test : ℕ → Bool) (n s : ℕ) : Type 0 where
  first_in : count_trailing_zeros 64 (mask test n s) < s
  first_passes : test (n + count_trailing_zeros 64 (mask test n s)) ≡ true
  none_before : (k : ℕ) → k < count_trailing_zeros 64 (mask test n s) → test (n + k) ≡ false
  last : ℕ
  last_is : count_leading_zeros 64 (mask test n s) + suc last ≡ 64
  last_in : last < s
  last_passes : test (n + last) ≡ true
  none_behind : (k : ℕ) → last < k → k < s → test (n + k) ≡ false

in-block : (test : ℕ → Bool) (n s : ℕ) → s ≤ 64 → 0 < mask test n s → InBlock test n s
in-block test n s few some = record {
  first_in = within;
  first_passes = ap test (ap (λ k. n + k) (sym (at trailing within))) ∙ ap (λ k. test (n + get_or xs k 0)) from-zero ∙ run_in_chunk_stops (behind test n) xs 0 s trailing 0 room found within;
  none_before = λ k lt. fails k lt;
  last = top.0;
  last_is = top.1;
  last_in = low;
  last_passes = passes;
  none_behind = λ k lt le. off (test (n + k)) (sym (bit-at test n s k le) ∙ above-top (mask test n s) top.0 k top.3 lt);
}
  where
    xs : List ℕ
    xs = range_with_len 0 s

    long : length xs ≡ s
    long = length-range_with_len 0 s

    room : 0 + s ≤ length xs
    room = let l = long in omega (arith, l)

    trailing : ℕ
    trailing = count_trailing_zeros 64 (mask test n s)

    whole : xs ≡ chunk 0 s xs
    whole = sym (take_all s xs (let l = long in omega (arith, l)))

    found : trailing ≡ prefix_len (λ x. not (behind test n x)) (chunk 0 s xs)
    found = trailing_mask_l (behind test n) 64 xs (let l = long in omega (arith, l, few)) some ∙ ap (prefix_len (λ x. not (behind test n x))) whole

    from-zero : trailing ≡ 0 + trailing
    from-zero = omega arith

    small : mask test n s < 2 ^ s
    small = subst (λ k. mask test n s < 2 ^ k) (length-map-range_with_len (behind test n) 0 s) (mask_l-lt (map (behind test n) xs))

    top : (j : ℕ) × (count_leading_zeros 64 (mask test n s) + suc j ≡ 64) × (2 ^ j ≤ mask test n s) × (mask test n s < 2 ^ suc j)
    top = leading_top 64 (mask test n s) some (let less = small in let rises : 2 ^ s ≤ 2 ^ 64 = pow-le-pow_right (omega arith) few in omega (arith, less, rises))

    low : top.0 < s
    low = ⊎_elim (λ lt. lt) (λ le. let rises : 2 ^ s ≤ 2 ^ top.0 = pow-le-pow_right (omega arith) le in let l = top.2 in let less = small in absurd (omega (arith, rises, l, less))) (cases_lt top.0 s)

    passes : test (n + top.0) ≡ true
    passes = on (test (n + top.0)) (sym (bit-at test n s top.0 low) ∙ top-bit (mask test n s) top.0 top.2 top.3)

    at : (k : ℕ) → k < s → get_or xs k 0 ≡ k
    at k lt = let e : 0 + k ≡ k = omega arith in get_or-range_with_len 0 s k 0 lt ∙ e

    fails-in : (k : ℕ) → k < s → k < trailing → test (n + k) ≡ false
    fails-in k le lt = ap (λ j. test (n + j)) (sym (at k le)) ∙ run_in_chunk_fails (behind test n) xs 0 s trailing 0 room found k (omega arith) (omega (arith, lt))

    within : trailing < s
    within = ⊎_elim (λ lt. lt) (λ le. let f : true ≡ false = sym passes ∙ fails-in top.0 low (let l = low in omega (arith, l, le)) in cc) (cases_lt trailing s)

    fails : (k : ℕ) → k < trailing → test (n + k) ≡ false
    fails k lt = fails-in k (let w = within in omega (arith, lt, w)) lt

-- ---- those before a number, and so many behind it

behind-is : (test : ℕ → Bool) (n k : ℕ) → n ≤ k → test (n + (k - n)) ≡ test k
behind-is test n k le = let e : n + (k - n) ≡ k = omega (arith, le) in ap test e

pub no_more : (test : ℕ → Bool) (n s m : ℕ) (places : Option Places) → m ≡ 0 → m ≡ mask test n s → AreOthers test n places → AreOthers test (n + s) places
unfolding count_ones
no_more test n s m None z e h = λ k lt. ⊎_elim (λ l. h k l) (λ le. sym (behind-is test n k le) ∙ none-in test n s (k - n) (sym e ∙ z) (omega (arith, lt, le))) (cases_lt k n)
no_more test n s m (Some p) z e h =
    let within = h.last_within in
    record {
      count_is = h.count_is ∙ sym (counted test n s ∙ ap (λ x. length (filter test (range_with_len 0 n)) + count_ones x) (sym e ∙ z) ∙ none-set);
      first_passes = h.first_passes;
      none_before = h.none_before;
      last_passes = h.last_passes;
      last_within = omega (arith, within);
      none_behind = λ k l lt. ⊎_elim (λ less. h.none_behind k l less) (λ le. sym (behind-is test n k le) ∙ none-in test n s (k - n) (sym e ∙ z) (omega (arith, lt, le))) (cases_lt k n);
    }
  where
    none-set : length (filter test (range_with_len 0 n)) + count_ones 0 ≡ length (filter test (range_with_len 0 n))
    none-set = let zero-ones : count_ones 0 ≡ 0 = refl in omega (arith, zero-ones)

-- where no number passes, none is counted
none-counted : (test : ℕ → Bool) (a n : ℕ) → ((k : ℕ) → a ≤ k → k < a + n → test k ≡ false) → length (filter test (range_with_len a n)) ≡ 0
none-counted test a zero h = refl
none-counted test a (suc n) h =
    let rest = none-counted test (a + 1) n (λ k le lt. h k (omega (arith, le)) (omega (arith, lt))) in
    one-more (test a) a (filter test (range_with_len (a + 1) n))
    ∙ ap (λ b. cond b 1 0 + length (filter test (range_with_len (a + 1) n))) (h a (omega arith) (omega arith))
    ∙ ap (λ k. 0 + k) rest

-- the last of those of which a bit is set
last-at : (test : ℕ → Bool) (n s last : ℕ) (b : InBlock test n s) → last ≡ n + 63 - count_leading_zeros 64 (mask test n s) → last ≡ n + b.last
last-at test n s last b e = let f = b.last_is in omega (arith, e, f)

last-none : (test : ℕ → Bool) (n s last : ℕ) (b : InBlock test n s) → last ≡ n + b.last → (k : ℕ) → last < k → k < n + s → test k ≡ false
last-none test n s last b e k l lt = sym (behind-is test n k (omega (arith, e, l))) ∙ b.none_behind (k - n) (omega (arith, e, l)) (omega (arith, e, l, lt))

positive : (m : ℕ) → (m ≡ 0 → ⊥) → 0 < m
positive m h = ⊎_elim (λ lt. lt) (λ le. absurd (h (omega (arith, le)))) (cases_lt 0 m)

-- where a bit is set and none passed before, the first one passes first, and the last one last
pub first_ones : (test : ℕ → Bool) (n s m count last : ℕ) → s ≤ 64 → (m ≡ 0 → ⊥) → m ≡ mask test n s → count ≡ count_ones m → last ≡ n + 63 - count_leading_zeros 64 m → AreOthers test n None
    → ArePlaces test (n + s) (record { count = count; first = n + count_trailing_zeros 64 m; last = last })
first_ones test n s m count last few some e counts lasts h =
    subst (λ x. ArePlaces test (n + s) (record { count = count; first = n + count_trailing_zeros 64 x; last = last })) (sym e) (record {
      count_is = counts ∙ ap count_ones e ∙ sym (counted test n s ∙ ap (λ k. k + count_ones (mask test n s)) (none-counted test 0 n (λ k le lt. h k (omega (arith, lt)))) ∙ (omega arith));
      first_passes = b.first_passes;
      none_before = λ k lt. ⊎_elim (λ less. h k less) (λ le. sym (behind-is test n k le) ∙ b.none_before (k - n) (omega (arith, lt, le))) (cases_lt k n);
      last_passes = ap test is ∙ b.last_passes;
      last_within = let low = b.last_in in omega (arith, is, low);
      none_behind = last-none test n s last b is;
    })
  where
    b : InBlock test n s
    b = in-block test n s few (positive (mask test n s) (λ z. some (e ∙ z)))

    is : last ≡ n + b.last
    is = last-at test n s last b (lasts ∙ ap (λ x. n + 63 - count_leading_zeros 64 x) e)

-- or these are behind those that passed before
pub more_ones : (test : ℕ → Bool) (n s m count last : ℕ) (p : Places) → s ≤ 64 → (m ≡ 0 → ⊥) → m ≡ mask test n s → count ≡ p.count + count_ones m → last ≡ n + 63 - count_leading_zeros 64 m → ArePlaces test n p
    → ArePlaces test (n + s) (record { count = count; first = p.first; last = last })
more_ones test n s m count last p few some e counts lasts h = record {
  count_is = counts ∙ ap (λ x. p.count + count_ones x) e ∙ ap (λ k. k + count_ones (mask test n s)) h.count_is ∙ sym (counted test n s);
  first_passes = h.first_passes;
  none_before = h.none_before;
  last_passes = ap test is ∙ b.last_passes;
  last_within = let low = b.last_in in omega (arith, is, low);
  none_behind = last-none test n s last b is;
}
  where
    b : InBlock test n s
    b = in-block test n s few (positive (mask test n s) (λ z. some (e ∙ z)))

    is : last ≡ n + b.last
    is = last-at test n s last b (lasts ∙ ap (λ x. n + 63 - count_leading_zeros 64 x) e)

-- how many pass below a number is no more than that
pub few_pass : (test : ℕ → Bool) (n : ℕ) (p : Places) → ArePlaces test n p → p.count ≤ n
few_pass test n p h =
    let e = h.count_is ∙ length-filter test (range_with_len 0 n) in
    let le = count_by-le-length test (range_with_len 0 n) in
    let len = length-range_with_len 0 n in
    omega (arith, e, le, len)

-- ---- those before a number, and the one of this number

counted-one : (test : ℕ → Bool) (n : ℕ) → length (filter test (range_with_len 0 (n + 1))) ≡ length (filter test (range_with_len 0 n)) + cond (test n) 1 0
counted-one test n =
    let e : 0 + n ≡ n = omega arith in
    let none : cond (test n) 1 0 + 0 ≡ cond (test n) 1 0 = omega arith in
    ap (λ xs. length (filter test xs)) (range-cut 0 n 1)
    ∙ ap length (filter-append test (range_with_len 0 n) (range_with_len (0 + n) 1))
    ∙ length-append (filter test (range_with_len 0 n)) (filter test (range_with_len (0 + n) 1))
    ∙ ap (λ m. length (filter test (range_with_len 0 n)) + length (filter test (range_with_len m 1))) e
    ∙ ap (λ k. length (filter test (range_with_len 0 n)) + k) (one-more (test n) n [] ∙ none)

until-next : (test : ℕ → Bool) (b : Bool) (n k : ℕ) → test n ≡ b → (k < n → test k ≡ b) → k < n + 1 → test k ≡ b
until-next test b n k e h lt = ⊎_elim h (λ le. let same : k ≡ n = omega (arith, lt, le) in ap test same ∙ e) (cases_lt k n)

pub no_one : (test : ℕ → Bool) (n : ℕ) (places : Option Places) → test n ≡ false → AreOthers test n places → AreOthers test (n + 1) places
no_one test n None e h = λ k lt. until-next test false n k e (λ l. h k l) lt
no_one test n (Some p) e h =
    let within = h.last_within in
    record {
      count_is = h.count_is ∙ sym (counted-one test n ∙ ap (λ b. length (filter test (range_with_len 0 n)) + cond b 1 0) e ∙ (omega arith));
      first_passes = h.first_passes;
      none_before = h.none_before;
      last_passes = h.last_passes;
      last_within = omega (arith, within);
      none_behind = λ k l lt. until-next test false n k e (λ m. h.none_behind k l m) lt;
    }

pub first_one : (test : ℕ → Bool) (n : ℕ) → test n ≡ true → AreOthers test n None → ArePlaces test (n + 1) (record { count = 1; first = n; last = n })
first_one test n e h = record {
  count_is = sym (counted-one test n ∙ ap (λ b. length (filter test (range_with_len 0 n)) + cond b 1 0) e ∙ ap (λ k. k + 1) (none-counted test 0 n (λ k le lt. h k (omega (arith, lt)))) ∙ (omega arith));
  first_passes = e;
  none_before = λ k lt. h k lt;
  last_passes = e;
  last_within = omega arith;
  none_behind = λ k l lt. absurd (omega (arith, l, lt));
}

pub more_one : (test : ℕ → Bool) (n count : ℕ) (p : Places) → test n ≡ true → count ≡ p.count + 1 → ArePlaces test n p → ArePlaces test (n + 1) (record { count = count; first = p.first; last = n })
more_one test n count p e counts h = record {
  count_is = counts ∙ ap (λ k. k + 1) h.count_is ∙ sym (counted-one test n ∙ ap (λ b. length (filter test (range_with_len 0 n)) + cond b 1 0) e);
  first_passes = h.first_passes;
  none_before = h.none_before;
  last_passes = e;
  last_within = omega arith;
  none_behind = λ k l lt. absurd (omega (arith, l, lt));
}

-- the places of those that pass lie among those that were asked for
pub places_within : (test : ℕ → Bool) (n : ℕ) (p : Places) → ArePlaces test n p → (p.first < n) × (p.last < n)
places_within test n p are =
    let l = are.last_within in (
      ⊎_elim (λ lt. omega (arith, lt, l)) (λ le. let f : true ≡ false = sym are.last_passes ∙ are.none_before p.last (omega (arith, le)) in cc) (cases_lt p.first (p.last + 1)),
      l,
    )

pub first_within : (test : ℕ → Bool) (n : ℕ) (places : Option Places) → AreOthers test n places → IfSome places (λ p. p.first < n)
first_within test n None h = tt
first_within test n (Some p) h = (places_within test n p h).0

pub last_within : (test : ℕ → Bool) (n : ℕ) (places : Option Places) → AreOthers test n places → IfSome places (λ p. p.last < n)
last_within test n None h = tt
last_within test n (Some p) h = (places_within test n p h).1
