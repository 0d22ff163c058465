-- Which of 16 values differ, by the words that their bytes make.
use Rattle.std.proofs.Common.{◌≡◌, ℕ, zero, suc, ◌+◌, ◌*◌, ◌/◌, ◌^◌, ◌%◌, ◌<◌, ◌≤◌, ◌==◌, ◌&&◌, Bool, false, not, cond, List, [], ◌∷◌, ◌++◌, length, map, take, drop, get_or, get_or-drop, ◌⊎◌, inl, inr, ⊎_elim, refl, sym, ap, ◌∙◌, subst, arith, nat_eq, bit_or, Fits, w8, w16}
use Rattle.std.specs.Bool.{Decides}
use Rattle.std.specs.List.{range_with_len}
use Rattle.std.proofs.Math.ListN.{get_or-eq_default}
use Rattle.std.proofs.Math.Nat.{pow-succ'}
use Rattle.std.proofs.Math.Seq.{drop-cons, take-add}
use Rattle.std.proofs.lemmas.Bool.{cases_lt}
use Rattle.std.proofs.lemmas.Bool.Decides.{Decides-and, Decides-eqb, same_from_decides}
use Rattle.std.proofs.lemmas.Grind.{or_before_shift}
use Rattle.std.proofs.lemmas.List.{ext_get_or, get_or-map, get_or-take, length-take, length-take-le}
use Rattle.std.proofs.lemmas.List.FromFn.{get_or-map-range_with_len, length-map-range_with_len}
use Rattle.std.proofs.lemmas.Nat.{div-mul-add}
use Rattle.std.proofs.lemmas.Simd.{Each1-from_get_or, get_or-zip2, get_or_wider, mask_l-lt, mask_l-mod, tops_compared}
use lib.Lanes.{chunk, digits_l, mask_l, number_l, top, zip2}
use Rattle.edf_samples.specs.Others.{differs}

-- the two bytes of value j as one number
abbrev word : List ℕ → ℕ → ℕ
word xs j = get_or xs (2 * j) 0 + 256 * get_or xs (2 * j + 1) 0

word-of : (xs : List ℕ) (j : ℕ) → j < 16 → length xs ≡ 32 → number_l 256 (chunk (2 * j) 2 xs) ≡ word xs j
word-of xs j lt len =
    let cut = ap (take 2) (drop-cons xs (2 * j) 0 (omega (arith, lt, len))) ∙ ap (λ zs. get_or xs (2 * j) 0 ∷ take 1 zs) (drop-cons xs (suc (2 * j)) 0 (omega (arith, lt, len))) in
    let next : suc (2 * j) ≡ 2 * j + 1 = omega arith in
    let whole : get_or xs (2 * j) 0 + 256 * (get_or xs (2 * j + 1) 0 + 256 * 0) ≡ word xs j = omega arith in
    ap (number_l 256) cut ∙ ap (λ k. get_or xs (2 * j) 0 + 256 * (get_or xs k 0 + 256 * 0)) next ∙ whole

-- two words are the same where both bytes are
same-word : (a b c d : ℕ) → a < 256 → b < 256 → c < 256 → d < 256 → not (nat_eq (a + 256 * b) (c + 256 * d)) ≡ not ((a == c) && (b == d))
same-word a b c d p q r s =
    ap not (same_from_decides (nat_eq (a + 256 * b) (c + 256 * d)) ((a == c) && (b == d)) decided (Decides-and (a == c) (b == d) (Decides-eqb a c) (Decides-eqb b d)))
  where
    decided : Decides (nat_eq (a + 256 * b) (c + 256 * d)) ((a ≡ c) × (b ≡ d))
    decided = (
      λ t. let e : a + 256 * b ≡ c + 256 * d = (Decides-eqb (a + 256 * b) (c + 256 * d)).0 t in (omega (arith, e, p, q, r, s), omega (arith, e, p, q, r, s)),
      λ e. (Decides-eqb (a + 256 * b) (c + 256 * d)).1 (ap (λ x. x + 256 * b) e.0 ∙ ap (λ x. c + 256 * x) e.1),
    )

-- 32 bytes
record AreBytes (xs : List ℕ) : Type 0 where
  all : length xs ≡ 32
  small : (i : ℕ) → get_or xs i 0 < 256

lane-is : (xs : List ℕ) (j : ℕ) → j < 16 → AreBytes xs → get_or (digits_l 65536 16 (number_l 256 xs)) j 0 ≡ word xs j
lane-is xs j lt are = get_or_wider 256 2 65536 16 xs j refl (Each1-from_get_or (λ x. x < 256) xs 0 (λ i l. are.small i)) lt ∙ word-of xs j lt are.all

-- which of the 16 values of 32 bytes differ from those of 32 others
others-are : (xs ys : List ℕ) (differ : ℕ → Bool) → AreBytes xs → AreBytes ys
    → ((j : ℕ) → j < 16 → differ j ≡ not ((get_or xs (2 * j) 0 == get_or ys (2 * j) 0) && (get_or xs (2 * j + 1) 0 == get_or ys (2 * j + 1) 0)))
    → mask_l (map (top 15) (zip2 (λ a b. cond (not (nat_eq a b)) 65535 0) (digits_l 65536 16 (number_l 256 xs)) (digits_l 65536 16 (number_l 256 ys)))) % 2 ^ 64 ≡ mask_l (map differ (range_with_len 0 16))
others-are xs ys differ are also is = ap (λ ms. mask_l ms % 2 ^ 64) (tops_compared w16 (λ a b. not (nat_eq a b)) A B ∙ same) ∙ mask_l-mod (map differ (range_with_len 0 16)) 64 (omega arith)
  where
    A : List ℕ
    A = digits_l 65536 16 (number_l 256 xs)

    B : List ℕ
    B = digits_l 65536 16 (number_l 256 ys)

    at : (i : ℕ) → i < 16 → get_or (zip2 (λ a b. not (nat_eq a b)) A B) i false ≡ get_or (map differ (range_with_len 0 16)) i false
    at i lt =
        let here : 0 + i ≡ i = omega arith in
        get_or-zip2 (λ a b. not (nat_eq a b)) A B i 0 0 false lt lt
        ∙ ap (λ x. not (nat_eq x (get_or B i 0))) (lane-is xs i lt are)
        ∙ ap (λ y. not (nat_eq (word xs i) y)) (lane-is ys i lt also)
        ∙ same-word (get_or xs (2 * i) 0) (get_or xs (2 * i + 1) 0) (get_or ys (2 * i) 0) (get_or ys (2 * i + 1) 0) (are.small (2 * i)) (are.small (2 * i + 1)) (also.small (2 * i)) (also.small (2 * i + 1))
        ∙ sym (is i lt)
        ∙ sym (get_or-map-range_with_len differ 0 16 i i false lt here)

    same : zip2 (λ a b. not (nat_eq a b)) A B ≡ map differ (range_with_len 0 16)
    same = ext_get_or false (zip2 (λ a b. not (nat_eq a b)) A B) (map differ (range_with_len 0 16)) refl at

-- ---- bytes of a slice

byte-of : (n : ℕ) (xs : List ℕ) (i : ℕ) → ((k : ℕ) → Fits w8 (get_or xs k 0)) → get_or (take n xs) i 0 < 256
byte-of n xs i fits =
    ⊎_elim (λ lt. let e : get_or (take n xs) i 0 ≡ get_or xs i 0 = get_or-take n xs i 0 lt in let h = (fits i).fits in omega (arith, e, h))
    (λ le. let e : get_or (take n xs) i 0 ≡ 0 = get_or-eq_default (take n xs) 0 (let l = length-take n xs in omega (arith, l, le)) in omega (arith, e)) (cases_lt i n)

front : (n : ℕ) (xs : List ℕ) → 32 ≤ length xs → ((k : ℕ) → Fits w8 (get_or xs k 0)) → AreBytes (take 32 xs)
front n xs long fits = record { all = length-take-le 32 xs long; small = λ i. byte-of 32 xs i fits }

pub others_are : (old new : List ℕ) → 32 ≤ length old → 32 ≤ length new → ((i : ℕ) → Fits w8 (get_or old i 0)) → ((i : ℕ) → Fits w8 (get_or new i 0))
    → mask_l (map (top 15) (zip2 (λ a b. cond (not (nat_eq a b)) 65535 0) (digits_l 65536 16 (number_l 256 (take 32 old))) (digits_l 65536 16 (number_l 256 (take 32 new))))) % 2 ^ 64
    ≡ mask_l (map (differs 1 old new) (range_with_len 0 16))
others_are old new long more fits fit = others-are (take 32 old) (take 32 new) (differs 1 old new) (front 32 old long fits) (front 32 new more fit) same
  where
    same : (j : ℕ) → j < 16 → differs 1 old new j ≡ not ((get_or (take 32 old) (2 * j) 0 == get_or (take 32 new) (2 * j) 0) && (get_or (take 32 old) (2 * j + 1) 0 == get_or (take 32 new) (2 * j + 1) 0))
    same j lt =
        let one : 1 * j ≡ j = omega arith in
        let e = get_or-take 32 old (2 * j) 0 (omega (arith, lt)) in
        let f = get_or-take 32 old (2 * j + 1) 0 (omega (arith, lt)) in
        let g = get_or-take 32 new (2 * j) 0 (omega (arith, lt)) in
        let h = get_or-take 32 new (2 * j + 1) 0 (omega (arith, lt)) in
        ap (λ k. not ((get_or old (2 * k) 0 == get_or new (2 * j) 0) && (get_or old (2 * k + 1) 0 == get_or new (2 * j + 1) 0))) one
        ∙ ap (λ x. not ((x == get_or new (2 * j) 0) && (get_or old (2 * j + 1) 0 == get_or new (2 * j + 1) 0))) (sym e)
        ∙ ap (λ x. not ((get_or (take 32 old) (2 * j) 0 == get_or new (2 * j) 0) && (x == get_or new (2 * j + 1) 0))) (sym f)
        ∙ ap (λ x. not ((get_or (take 32 old) (2 * j) 0 == x) && (get_or (take 32 old) (2 * j + 1) 0 == get_or new (2 * j + 1) 0))) (sym g)
        ∙ ap (λ x. not ((get_or (take 32 old) (2 * j) 0 == get_or (take 32 new) (2 * j) 0) && (get_or (take 32 old) (2 * j + 1) 0 == x))) (sym h)

-- ---- every second value of 64 bytes

-- the places of their bytes
abbrev places : List ℕ
places =
    0 ∷ 1 ∷ 4 ∷ 5 ∷ 8 ∷ 9 ∷ 12 ∷ 13 ∷ 16 ∷ 17 ∷ 20 ∷ 21 ∷ 24 ∷ 25 ∷ 28 ∷ 29 ∷ 32 ∷ 33 ∷ 36 ∷ 37 ∷ 40 ∷ 41 ∷ 44 ∷ 45 ∷ 48 ∷ 49 ∷ 52 ∷ 53 ∷ 56 ∷ 57 ∷ 60 ∷ 61 ∷ []

first-place : (j : ℕ) → j < 16 → get_or places (2 * j) 0 ≡ 2 * (2 * j)
first-place j lt =
    let here : 0 + j ≡ j = omega arith in
    sym (get_or-map-range_with_len (λ k. get_or places (2 * k) 0) 0 16 j j 0 lt here) ∙ get_or-map-range_with_len (λ k. 2 * (2 * k)) 0 16 j j 0 lt here

second-place : (j : ℕ) → j < 16 → get_or places (2 * j + 1) 0 ≡ 2 * (2 * j) + 1
second-place j lt =
    let here : 0 + j ≡ j = omega arith in
    sym (get_or-map-range_with_len (λ k. get_or places (2 * k + 1) 0) 0 16 j j 0 lt here) ∙ get_or-map-range_with_len (λ k. 2 * (2 * k) + 1) 0 16 j j 0 lt here

-- the bytes that are picked
abbrev picked : List ℕ → List ℕ
picked long = map (λ k. get_or (take 32 long ++ take 32 (drop 32 long)) k 0) places

picked-at : (long : List ℕ) (i k : ℕ) → i < 32 → get_or places i 0 ≡ k → k < 64 → get_or (picked long) i 0 ≡ get_or long k 0
picked-at long i k lt e le =
    get_or-map (λ k. get_or (take 32 long ++ take 32 (drop 32 long)) k 0) places i 0 0 lt
    ∙ ap (λ x. get_or (take 32 long ++ take 32 (drop 32 long)) x 0) e
    ∙ ap (λ xs. get_or xs k 0) (sym (take-add 32 32 long))
    ∙ get_or-take 64 long k 0 le

picked-small : (long : List ℕ) (i : ℕ) → ((k : ℕ) → Fits w8 (get_or long k 0)) → get_or (picked long) i 0 < 256
picked-small long i fits = ⊎_elim within (λ le. let e : get_or (picked long) i 0 ≡ 0 = get_or-eq_default (picked long) 0 le in omega (arith, e)) (cases_lt i 32)
  where
    within : i < 32 → get_or (picked long) i 0 < 256
    within lt =
        let e : get_or (picked long) i 0 ≡ get_or (take 64 long) (get_or places i 0) 0 =
        get_or-map (λ k. get_or (take 32 long ++ take 32 (drop 32 long)) k 0) places i 0 0 lt ∙ ap (λ xs. get_or xs (get_or places i 0) 0) (sym (take-add 32 32 long)) in
        let h = byte-of 64 long (get_or places i 0) fits in
        omega (arith, e, h)

pub others_at_half_are : (long short : List ℕ) → 64 ≤ length long → 32 ≤ length short → ((i : ℕ) → Fits w8 (get_or long i 0)) → ((i : ℕ) → Fits w8 (get_or short i 0))
    → mask_l (map (top 15) (zip2 (λ a b. cond (not (nat_eq a b)) 65535 0) (digits_l 65536 16 (number_l 256 (picked long))) (digits_l 65536 16 (number_l 256 (take 32 short))))) % 2 ^ 64
    ≡ mask_l (map (differs 2 long short) (range_with_len 0 16))
others_at_half_are long short far more fits fit =
    others-are (picked long) (take 32 short) (differs 2 long short) (record { all = refl; small = λ i. picked-small long i fits }) (front 32 short more fit) same
  where
    same : (j : ℕ) → j < 16 → differs 2 long short j ≡ not ((get_or (picked long) (2 * j) 0 == get_or (take 32 short) (2 * j) 0) && (get_or (picked long) (2 * j + 1) 0 == get_or (take 32 short) (2 * j + 1) 0))
    same j lt =
        let e = picked-at long (2 * j) (2 * (2 * j)) (omega (arith, lt)) (first-place j lt) (omega (arith, lt)) in
        let f = picked-at long (2 * j + 1) (2 * (2 * j) + 1) (omega (arith, lt)) (second-place j lt) (omega (arith, lt)) in
        let g = get_or-take 32 short (2 * j) 0 (omega (arith, lt)) in
        let h = get_or-take 32 short (2 * j + 1) 0 (omega (arith, lt)) in
        ap (λ x. not ((x == get_or short (2 * j) 0) && (get_or long (2 * (2 * j) + 1) 0 == get_or short (2 * j + 1) 0))) (sym e)
        ∙ ap (λ x. not ((get_or (picked long) (2 * j) 0 == get_or short (2 * j) 0) && (x == get_or short (2 * j + 1) 0))) (sym f)
        ∙ ap (λ x. not ((get_or (picked long) (2 * j) 0 == x) && (get_or (picked long) (2 * j + 1) 0 == get_or short (2 * j + 1) 0))) (sym g)
        ∙ ap (λ x. not ((get_or (picked long) (2 * j) 0 == get_or (take 32 short) (2 * j) 0) && (get_or (picked long) (2 * j + 1) 0 == x))) (sym h)

-- ---- a block of a slice

masks-same : (f g : ℕ → Bool) → ((k : ℕ) → k < 16 → f k ≡ g k) → mask_l (map f (range_with_len 0 16)) ≡ mask_l (map g (range_with_len 0 16))
masks-same f g h = ap mask_l (ext_get_or false (map f (range_with_len 0 16)) (map g (range_with_len 0 16)) refl at)
  where
    at : (i : ℕ) → i < 16 → get_or (map f (range_with_len 0 16)) i false ≡ get_or (map g (range_with_len 0 16)) i false
    at i lt = let here : 0 + i ≡ i = omega arith in get_or-map-range_with_len f 0 16 i i false lt here ∙ h i lt ∙ sym (get_or-map-range_with_len g 0 16 i i false lt here)

-- the value of a place behind others is that of a later place
later : (s : ℕ) (long short : List ℕ) (number k : ℕ) → (s ≡ 1) ⊎ (s ≡ 2) → differs s (drop (2 * (s * number)) long) (drop (2 * number) short) k ≡ differs s long short (number + k)
later s long short number k is =
    ap (λ x. not ((x == get_or (drop (2 * number) short) (2 * k) 0) && (get_or (drop (2 * (s * number)) long) (2 * (s * k) + 1) 0 == get_or (drop (2 * number) short) (2 * k + 1) 0))) (at (2 * (s * number)) long (2 * (s * k)) (2 * (s * (number + k))) (far is))
    ∙ ap (λ x. not ((get_or long (2 * (s * (number + k))) 0 == get_or (drop (2 * number) short) (2 * k) 0) && (x == get_or (drop (2 * number) short) (2 * k + 1) 0))) (at (2 * (s * number)) long (2 * (s * k) + 1) (2 * (s * (number + k)) + 1) (further is))
    ∙ ap (λ x. not ((get_or long (2 * (s * (number + k))) 0 == x) && (get_or long (2 * (s * (number + k)) + 1) 0 == get_or (drop (2 * number) short) (2 * k + 1) 0))) (at (2 * number) short (2 * k) (2 * (number + k)) (omega arith))
    ∙ ap (λ x. not ((get_or long (2 * (s * (number + k))) 0 == get_or short (2 * (number + k)) 0) && (get_or long (2 * (s * (number + k)) + 1) 0 == x))) (at (2 * number) short (2 * k + 1) (2 * (number + k) + 1) (omega arith))
  where
    at : (a : ℕ) (xs : List ℕ) (i j : ℕ) → a + i ≡ j → get_or (drop a xs) i 0 ≡ get_or xs j 0
    at a xs i j e = get_or-drop a xs i 0 ∙ ap (λ x. get_or xs x 0) e

    far : (s ≡ 1) ⊎ (s ≡ 2) → 2 * (s * number) + 2 * (s * k) ≡ 2 * (s * (number + k))
    far (inl e) = subst (λ x. 2 * (x * number) + 2 * (x * k) ≡ 2 * (x * (number + k))) (sym e) (omega arith)
    far (inr e) = subst (λ x. 2 * (x * number) + 2 * (x * k) ≡ 2 * (x * (number + k))) (sym e) (omega arith)

    further : (s ≡ 1) ⊎ (s ≡ 2) → 2 * (s * number) + (2 * (s * k) + 1) ≡ 2 * (s * (number + k)) + 1
    further h = let f = far h in omega (arith, f)

pub others_each : (s : ℕ) (long short old new : List ℕ) (number m : ℕ) → s ≡ 1 → old ≡ drop (2 * (s * number)) long → new ≡ drop (2 * number) short → m ≡ mask_l (map (differs 1 old new) (range_with_len 0 16))
    → m ≡ mask_l (map (λ k. differs s long short (number + k)) (range_with_len 0 16))
others_each s long short old new number m is f g e =
    e ∙ ap (λ x. mask_l (map (differs x old new) (range_with_len 0 16))) (sym is)
    ∙ ap (λ xs. mask_l (map (differs s xs new) (range_with_len 0 16))) f
    ∙ ap (λ ys. mask_l (map (differs s (drop (2 * (s * number)) long) ys) (range_with_len 0 16))) g
    ∙ masks-same (differs s (drop (2 * (s * number)) long) (drop (2 * number) short)) (λ k. differs s long short (number + k)) (λ k lt. later s long short number k (inl is))

pub others_half : (s : ℕ) (long short old new : List ℕ) (number m : ℕ) → (s ≡ 1) ⊎ (s ≡ 2) → (s ≡ 1 → ⊥) → old ≡ drop (2 * (s * number)) long → new ≡ drop (2 * number) short
    → m ≡ mask_l (map (differs 2 old new) (range_with_len 0 16)) → m ≡ mask_l (map (λ k. differs s long short (number + k)) (range_with_len 0 16))
others_half s long short old new number m is no-one f g e =
    e ∙ ap (λ x. mask_l (map (differs x old new) (range_with_len 0 16))) (sym two)
    ∙ ap (λ xs. mask_l (map (differs s xs new) (range_with_len 0 16))) f
    ∙ ap (λ ys. mask_l (map (differs s (drop (2 * (s * number)) long) ys) (range_with_len 0 16))) g
    ∙ masks-same (differs s (drop (2 * (s * number)) long) (drop (2 * number) short)) (λ k. differs s long short (number + k)) (λ k lt. later s long short number k is)
  where
    two : s ≡ 2
    two = ⊎_elim (λ one. absurd (no-one one)) (λ t. t) is

-- ---- bits behind bits

abbrev bits : (ℕ → Bool) → ℕ → ℕ → ℕ
bits test a n = mask_l (map test (range_with_len a n))

bits-shift : (f g : ℕ → Bool) (a b n : ℕ) → ((k : ℕ) → f (a + k) ≡ g (b + k)) → bits f a n ≡ bits g b n
bits-shift f g a b zero same = refl
bits-shift f g a b (suc n) same =
    let here : a ≡ a + 0 = omega arith in
    let there : b + 0 ≡ b = omega arith in
    let head : f a ≡ g b = ap f here ∙ same 0 ∙ ap g there in
    let rest = bits-shift f g (a + 1) (b + 1) n (λ k. let e : a + 1 + k ≡ a + (1 + k) = omega arith in let h : b + (1 + k) ≡ b + 1 + k = omega arith in ap f e ∙ same (1 + k) ∙ ap g h) in
    ap (λ t. mask_l (t ∷ map f (range_with_len (a + 1) n))) head ∙ ap (λ m. cond (g b) 1 0 + 2 * m) rest

bits-cut : (f : ℕ → Bool) (a n m : ℕ) → bits f a (n + m) ≡ bits f (a + n) m * 2 ^ n + bits f a n
bits-cut f a zero m =
    let e : zero + m ≡ m = omega arith in
    let h : a ≡ a + zero = omega arith in
    let once : bits f (a + zero) m ≡ bits f (a + zero) m * 2 ^ zero + 0 = omega arith in
    ap (bits f a) e ∙ ap (λ x. bits f x m) h ∙ once
bits-cut f a (suc n) m =
    let e : suc n + m ≡ suc (n + m) = omega arith in
    let h : a + 1 + n ≡ a + suc n = omega arith in
    let rest = bits-cut f (a + 1) n m ∙ ap (λ x. bits f x m * 2 ^ n + bits f (a + 1) n) h in
    let twice : 2 ^ suc n ≡ 2 * 2 ^ n = pow-succ' 2 n in
    let product : 2 * (bits f (a + suc n) m * 2 ^ n) ≡ bits f (a + suc n) m * (2 * 2 ^ n) = omega arith in
    let sum : cond (f a) 1 0 + 2 * (bits f (a + suc n) m * 2 ^ n + bits f (a + 1) n) ≡ bits f (a + suc n) m * (2 * 2 ^ n) + (cond (f a) 1 0 + 2 * bits f (a + 1) n) = omega (arith, product) in
    ap (bits f a) e ∙ ap (λ x. cond (f a) 1 0 + 2 * x) rest ∙ sum ∙ ap (λ x. bits f (a + suc n) m * x + (cond (f a) 1 0 + 2 * bits f (a + 1) n)) (sym twice)

-- the bits of the values from a number on
abbrev from : (ℕ → Bool) → ℕ → ℕ → ℕ
from test a n = bits (λ k. test (a + k)) 0 n

from-cut : (test : ℕ → Bool) (a n m : ℕ) → from test a (n + m) ≡ from test (a + n) m * 2 ^ n + from test a n
from-cut test a n m =
    bits-cut (λ k. test (a + k)) 0 n m
    ∙ ap (λ x. x * 2 ^ n + from test a n) (bits-shift (λ k. test (a + k)) (λ k. test (a + n + k)) (0 + n) 0 m (λ k. let e : a + (0 + n + k) ≡ a + n + (0 + k) = omega arith in ap test e))

pub bits_small : (test : ℕ → Bool) (n : ℕ) → mask_l (map test (range_with_len 0 n)) < 2 ^ n
bits_small test n = subst (λ k. bits test 0 n < 2 ^ k) (length-map-range_with_len test 0 n) (mask_l-lt (map test (range_with_len 0 n)))

pub bits_joined : (test : ℕ → Bool) (a n low high m : ℕ) → low ≡ mask_l (map (λ k. test (a + k)) (range_with_len 0 n)) → high ≡ mask_l (map (λ k. test (a + n + k)) (range_with_len 0 n)) → m ≡ high * 2 ^ n + low
    → m ≡ mask_l (map (λ k. test (a + k)) (range_with_len 0 (n + n)))
bits_joined test a n low high m l h e = e ∙ ap (λ x. x * 2 ^ n + low) h ∙ ap (λ x. from test (a + n) n * 2 ^ n + x) l ∙ sym (from-cut test a n n)

-- the bits of two masks, each of 16 or each of 32
pub joined_16 : (test : ℕ → Bool) (a low high : ℕ) → low ≡ mask_l (map (λ k. test (a + k)) (range_with_len 0 16)) → high ≡ mask_l (map (λ k. test (a + 16 + k)) (range_with_len 0 16))
    → bit_or low (high * 65536 % 18446744073709551616) ≡ mask_l (map (λ k. test (a + k)) (range_with_len 0 32))
joined_16 test a low high l h =
    let f = bits_small (λ k. test (a + k)) 16 in
    let g = bits_small (λ k. test (a + 16 + k)) 16 in
    let less : low < 65536 = subst (λ m. m < 65536) (sym l) f in
    let also : high < 65536 = subst (λ m. m < 65536) (sym h) g in
    bits_joined test a 16 low high (bit_or low (high * 65536 % 18446744073709551616)) l h (or_before_shift low high 65536 18446744073709551616 refl less (omega (arith, also)))

pub joined_32 : (test : ℕ → Bool) (a low high : ℕ) → low ≡ mask_l (map (λ k. test (a + k)) (range_with_len 0 32)) → high ≡ mask_l (map (λ k. test (a + 32 + k)) (range_with_len 0 32))
    → bit_or low (high * 4294967296 % 18446744073709551616) ≡ mask_l (map (λ k. test (a + k)) (range_with_len 0 64))
joined_32 test a low high l h =
    let f = bits_small (λ k. test (a + k)) 32 in
    let g = bits_small (λ k. test (a + 32 + k)) 32 in
    let less : low < 4294967296 = subst (λ m. m < 4294967296) (sym l) f in
    let also : high < 4294967296 = subst (λ m. m < 4294967296) (sym h) g in
    bits_joined test a 32 low high (bit_or low (high * 4294967296 % 18446744073709551616)) l h (or_before_shift low high 4294967296 18446744073709551616 refl less (omega (arith, also)))

-- the first of them left out
pub bits_behind : (test : ℕ → Bool) (a b n passed size m : ℕ) → passed + size ≡ n → a + passed ≡ b → m ≡ mask_l (map (λ k. test (a + k)) (range_with_len 0 n)) → m / 2 ^ passed ≡ mask_l (map (λ k. test (b + k)) (range_with_len 0 size))
bits_behind test a b n passed size m whole far e =
    ap (λ x. x / 2 ^ passed) (e ∙ ap (from test a) (sym whole) ∙ from-cut test a passed size)
    ∙ div-mul-add (from test (a + passed) size) (2 ^ passed) (from test a passed) (bits_small (λ k. test (a + k)) passed)
    ∙ ap (λ x. from test x size) far
