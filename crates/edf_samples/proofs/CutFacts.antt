-- Rising lists of samples, cut at a time.
use Rattle.std.proofs.Common.{◌≡◌, ℕ, zero, suc, ◌+◌, ◌-◌, ◌*◌, ◌<◌, ◌≤◌, max, ℤ, ◌≤ℤ◌, Bool, true, false, not, cond, List, [], ◌∷◌, ◌++◌, length, drop, take, filter, inr, refl, sym, ap, ◌∙◌, arith}
use Rattle.std.proofs.lemmas.Int.{ints}
use Rattle.std.proofs.lemmas.List.{take-append-drop}
use Rattle.std.proofs.Math.Nat.{mul-le-mul_right}
use borrow.Author.Differences.{up, down}
use Rattle.edf_fields.proofs.ForCallers.{has-filtered, not-true}
use Rattle.edf_stream.specs.declared.times.instant.Instant.{Instant}
use Rattle.edf_stream.specs.times.InstantOrder.{IsNotBefore}
use Rattle.edf_samples.specs.declared.point.Point.{Point}
use Rattle.edf_samples.specs.Differences.{instant}
use Rattle.edf_samples.specs.InstantOrder.{IsBefore, is_before}
use Rattle.edf_samples.specs.Stretches.{front_count, whole, since, until}
use Rattle.edf_samples.proofs.DifferenceFacts.{head_above, IsAscending, AreBefore, AreFrom}
use Rattle.edf_samples.proofs.FilterFacts.{by_test, filter_all, filter_none, filter_implied}
use Rattle.edf_samples.proofs.FractionFacts.{is_before-true, is_before-false, true-is_before, false-is_before, from_below}

-- ---- lists of which all stands on one side of a time

pub since_all : (n : ℕ) (t : ℤ) (xs : List Point) → AreFrom n xs (whole t) → since n t xs ≡ xs
since_all n t xs h = filter_all (λ x. not (is_before (instant n x) (whole t))) xs (λ x i. ap not (false-is_before (instant n x) (whole t) (h x i)))

pub since_none : (n : ℕ) (t : ℤ) (xs : List Point) → AreBefore n xs (whole t) → since n t xs ≡ []
since_none n t xs h = filter_none (λ x. not (is_before (instant n x) (whole t))) xs (λ x i. ap not (true-is_before (instant n x) (whole t) (h x i)))

pub until_none : (n : ℕ) (t : ℤ) (xs : List Point) → AreFrom n xs (whole t) → until n t xs ≡ []
until_none n t xs h = filter_none (λ x. is_before (instant n x) (whole t)) xs (λ x i. false-is_before (instant n x) (whole t) (h x i))

-- ---- what a cut leaves stands on its side

pub since-from : (n : ℕ) (t : ℤ) (xs : List Point) → AreFrom n (since n t xs) (whole t)
since-from n t xs x h = is_before-false (instant n x) (whole t) (not-true (is_before (instant n x) (whole t)) (has-filtered (λ y. not (is_before (instant n y) (whole t))) xs x h).1)

pub until-before : (n : ℕ) (t : ℤ) (xs : List Point) → AreBefore n (until n t xs) (whole t)
until-before n t xs x h = is_before-true (instant n x) (whole t) (has-filtered (λ y. is_before (instant n y) (whole t)) xs x h).1

-- ---- a cut of a rising list is a part of it

-- where the head is not before t, nothing is
head_from : (n : ℕ) (x : Point) (xs : List Point) (t : Instant) → 0 < n → IsAscending (x ∷ xs) → IsNotBefore (instant n x) t → AreFrom n (x ∷ xs) t
head_from n x xs t pn a b y h = from_below (instant n y) (instant n x) t pn (head_above n x xs pn a y h) b

pub since_drop : (n : ℕ) (t : ℤ) (xs : List Point) → 0 < n → IsAscending xs → since n t xs ≡ drop (front_count n xs (whole t)) xs
since_drop n t [] pn a = refl
since_drop n t (x ∷ xs) pn a =
    by_test (is_before (instant n x) (whole t)) (λ b. cond (not b) (x ∷ since n t xs) (since n t xs) ≡ drop (cond b (suc (front_count n xs (whole t))) 0) (x ∷ xs))
    (λ e. since_drop n t xs pn a.1)
    (λ e. ap (λ ys. x ∷ ys) (since_all n t xs (λ y h. head_from n x xs (whole t) pn a (is_before-false (instant n x) (whole t) e) y (inr h))))

pub until_take : (n : ℕ) (t : ℤ) (xs : List Point) → 0 < n → IsAscending xs → until n t xs ≡ take (front_count n xs (whole t)) xs
until_take n t [] pn a = refl
until_take n t (x ∷ xs) pn a =
    by_test (is_before (instant n x) (whole t)) (λ b. cond b (x ∷ until n t xs) (until n t xs) ≡ take (cond b (suc (front_count n xs (whole t))) 0) (x ∷ xs))
    (λ e. ap (λ ys. x ∷ ys) (until_take n t xs pn a.1))
    (λ e. until_none n t xs (λ y h. head_from n x xs (whole t) pn a (is_before-false (instant n x) (whole t) e) y (inr h)))

-- ---- two times

pub later : (x : Instant) (t u : ℤ) → t ≤ℤ u → IsBefore x (whole t) → IsBefore x (whole u)
later x t u l h =
    let p : up t + down u ≤ up u + down t = omega (arith, ints) in
    let q : (up t + down u) * x.den ≤ (up u + down t) * x.den = mul-le-mul_right x.den p in
    omega (arith, ints)

pub earlier_from : (x : Instant) (t u : ℤ) → t ≤ℤ u → IsNotBefore x (whole u) → IsNotBefore x (whole t)
earlier_from x t u l h =
    let p : up t + down u ≤ up u + down t = omega (arith, ints) in
    let q : (up t + down u) * x.den ≤ (up u + down t) * x.den = mul-le-mul_right x.den p in
    omega (arith, ints)

count_later : (n : ℕ) (t u : ℤ) (xs : List Point) → t ≤ℤ u → front_count n xs (whole t) ≤ front_count n xs (whole u)
count_later n t u [] l = omega arith
count_later n t u (x ∷ xs) l =
    let r : front_count n xs (whole t) ≤ front_count n xs (whole u) = count_later n t u xs l in
    by_test (is_before (instant n x) (whole t)) (λ b. cond b (suc (front_count n xs (whole t))) 0 ≤ front_count n (x ∷ xs) (whole u))
    (λ e.
    let f : is_before (instant n x) (whole u) ≡ true = true-is_before (instant n x) (whole u) (later (instant n x) t u l (is_before-true (instant n x) (whole t) e)) in
    rw f (omega arith))
    (λ e. omega arith)

count_drop : (n : ℕ) (t : Instant) (k : ℕ) (xs : List Point) → k ≤ front_count n xs t → front_count n (drop k xs) t ≡ front_count n xs t - k
count_drop n t zero xs le = omega arith
count_drop n t (suc k) [] le = absurd (omega (arith, le))
count_drop n t (suc k) (x ∷ xs) le =
    by_test (is_before (instant n x) t) (λ b. suc k ≤ cond b (suc (front_count n xs t)) 0 → front_count n (drop k xs) t ≡ cond b (suc (front_count n xs t)) 0 - suc k)
    (λ e l. let r = count_drop n t k xs (omega (arith, l)) in omega (arith, r)) (λ e l. absurd (omega (arith, l))) le

pub ascending-drop : (k : ℕ) (xs : List Point) → IsAscending xs → IsAscending (drop k xs)
ascending-drop zero xs a = a
ascending-drop (suc k) [] a = a
ascending-drop (suc k) (y ∷ ys) a = ascending-drop k ys a.1

pub count-within : (n : ℕ) (xs : List Point) (t : Instant) → front_count n xs t ≤ length xs
count-within n [] t = omega arith
count-within n (x ∷ xs) t =
    let h : front_count n xs t ≤ length xs = count-within n xs t in
    by_test (is_before (instant n x) t) (λ b. cond b (suc (front_count n xs t)) 0 ≤ suc (length xs)) (λ e. omega arith) (λ e. omega arith)

-- what stands between two places is what stands from one time on and before another
pub between_is : (n : ℕ) (t u : ℤ) (begin end : ℕ) (xs : List Point) → 0 < n → IsAscending xs → t ≤ℤ u → begin ≡ front_count n xs (whole t) → end ≡ front_count n xs (whole u)
    → take (max end begin - begin) (drop begin xs) ≡ until n u (since n t xs)
between_is n t u begin end xs pn a l b e =
    let order : front_count n xs (whole t) ≤ front_count n xs (whole u) = count_later n t u xs l in
    let size : front_count n (drop begin xs) (whole u) ≡ max end begin - begin = (
    let le : begin ≤ front_count n xs (whole u) = omega (arith, order, b) in
    let r = count_drop n (whole u) begin xs le in
    omega (arith, r, e, le)) in
    sym (ap (until n u) (since_drop n t xs pn a) ∙ ap (λ k. until n u (drop k xs)) (sym b)
    ∙ until_take n u (drop begin xs) pn (ascending-drop begin xs a) ∙ ap (λ k. take k (drop begin xs)) size)

-- ---- filters keep the order

either : (P : List Point → Type 0) (b : Bool) (xs ys : List Point) → P xs → P ys → P (cond b xs ys)
either P true xs ys p q = p
either P false xs ys p q = q

pub filter-ascending : (p : Point → Bool) (xs : List Point) → IsAscending xs → IsAscending (filter p xs)
filter-ascending p [] a = tt
filter-ascending p (x ∷ xs) a =
    either IsAscending (p x) (x ∷ filter p xs) (filter p xs)
    ((λ y h. a.0 y (has-filtered p xs y h).0), filter-ascending p xs a.1)
    (filter-ascending p xs a.1)

-- what stands from t on is what stands from t on and before u, and then what stands from u on
pub since_split : (n : ℕ) (t u : ℤ) (xs : List Point) → 0 < n → IsAscending xs → t ≤ℤ u → since n t xs ≡ until n u (since n t xs) ++ since n u xs
since_split n t u xs pn a l =
    let ys = since n t xs in
    let ay : IsAscending ys = filter-ascending (λ x. not (is_before (instant n x) (whole t))) xs a in
    let k = front_count n ys (whole u) in
    let again : since n u ys ≡ since n u xs =
    filter_implied (λ x. not (is_before (instant n x) (whole u))) (λ x. not (is_before (instant n x) (whole t))) xs
    (λ x h. ap not (false-is_before (instant n x) (whole t) (earlier_from (instant n x) t u l (is_before-false (instant n x) (whole u) (not-true (is_before (instant n x) (whole u)) h))))) in
    sym (ap (λ zs. zs ++ since n u xs) (until_take n u ys pn ay) ∙ ap (λ zs. take k ys ++ zs) (sym again ∙ since_drop n u ys pn ay) ∙ take-append-drop k ys)
