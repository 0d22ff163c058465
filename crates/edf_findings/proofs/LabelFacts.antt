-- The labels of a claim are put in order in one way.
use Rattle.std.proofs.Common.{Ordering, Less, Equal, Greater, ◌≡◌, ◌⊎◌, inl, inr, ℕ, suc, ◌+◌, ◌<◌, true, false, cond, Bor, List, [], ◌∷◌, map, refl, ap, ◌∙◌, sym, arith}
use Rattle.std.specs.List.Sorted.{IsSorted}
use Rattle.std.specs.Cmp.{IsTotalOrder}
use Rattle.std.specs.Cmp.Lexicographic.{on_texts, slice_cmp}
use Rattle.std.specs.List.{sum_by}
use Rattle.std.specs.Ordering.{is_eq, is_lt, nat_cmp, ordering_reverse}
use Rattle.std.proofs.lemmas.Cmp.{tied_itself}
use Rattle.std.proofs.lemmas.List.Sorted.{sum_by-IsPermutation, sorted_far, ranks_by}
use Rattle.std.proofs.lemmas.List.Sums.{sum_by-cons}
use Rattle.std.proofs.lemmas.Map.Lookups.{exact_bytes}
use Rattle.edf_fields.specs.Lists.{Has}
use Rattle.edf_fields.proofs.ForCallers.{at-has, get-within, get-index}
use Rattle.edf_heads.specs.Comparisons.{AreSorted}

abbrev label_cmp : List ℕ → List ℕ → Ordering
label_cmp = slice_cmp nat_cmp

label_total : IsTotalOrder label_cmp
label_total = on_texts (λ (label : List ℕ). label)

-- none of these labels comes before that one
abbrev NoneBefore : List ℕ → List (Bor (List ℕ)) → Type 0
NoneBefore x xs = (y : Bor (List ℕ)) → Has xs y → is_lt (label_cmp y.now x) ≡ false

abbrev InOrder : List (Bor (List ℕ)) → Type 0
InOrder [] = Unit {0}
InOrder (x ∷ xs) = NoneBefore x.now xs × InOrder xs

abbrev AreUp : List (Bor (List ℕ)) → Type 0
AreUp xs = IsSorted (λ x y. slice_cmp nat_cmp x.now y.now) xs

up-tail : (x : Bor (List ℕ)) (xs : List (Bor (List ℕ))) → AreUp (x ∷ xs) → AreUp xs
up-tail x xs up = λ k d low high. let e : suc k + 1 ≡ suc (k + 1) = omega arith in rw e at (up (suc k) d (omega arith) (omega (arith, high)))

in-order : (xs : List (Bor (List ℕ))) → AreUp xs → InOrder xs
in-order [] up = tt
in-order (x ∷ xs) up = (behind, in-order xs (up-tail x xs up))
  where
    behind : (y : Bor (List ℕ)) → Has xs y → is_lt (label_cmp y.now x.now) ≡ false
    behind y h =
        let at = at-has xs y h in
        let lt = get-within xs at.0 y at.1 in
        let far = sorted_far (λ (a b : Bor (List ℕ)). is_lt (label_cmp a.now b.now)) (ranks_by label_total (λ (t : Bor (List ℕ)). t.now)) (x ∷ xs) up 0 (suc at.0) x (omega arith) (omega (arith, lt)) in
        ap (λ (z : Bor (List ℕ)). is_lt (label_cmp z.now x.now)) (sym (get-index xs at.0 y x at.1)) ∙ far

-- of two labels of which neither comes before the other both are one
neither : (x y : List ℕ) → is_lt (label_cmp x y) ≡ false → is_lt (label_cmp y x) ≡ false → x ≡ y
neither x y h k = cases (label_cmp x y) refl
  where
    cases : (o : Ordering) → label_cmp x y ≡ o → x ≡ y
    cases Less e = absurd (let f : true ≡ false = sym (ap is_lt e) ∙ h in cc)
    cases Equal e = exact_bytes x y e
    cases Greater e = absurd (let f : true ≡ false = sym (ap is_lt (label_total.antisymm y x ∙ ap ordering_reverse e)) ∙ k in cc)

-- ---- how often a label is there

abbrev as_one : Ordering → ℕ
as_one o = cond (is_eq o) 1 0

abbrev alike : List ℕ → List ℕ → ℕ
alike label other = as_one (label_cmp other label)

abbrev texts : List (Bor (List ℕ)) → List (List ℕ)
texts xs = map (λ t. t.now) xs

abbrev count : List (Bor (List ℕ)) → List ℕ → ℕ
count xs n = sum_by (alike n) (texts xs)

count-cons : (x : Bor (List ℕ)) (xs : List (Bor (List ℕ))) (n : List ℕ) → count (x ∷ xs) n ≡ alike n x.now + count xs n
count-cons x xs n = sum_by-cons (alike n) x.now (texts xs)

counted-there : (xs : List (Bor (List ℕ))) (n : List ℕ) → 0 < count xs n → (y : Bor (List ℕ)) × Has xs y × (y.now ≡ n)
counted-there [] n h = absurd (omega (arith, h))
counted-there (x ∷ xs) n h = cases (label_cmp x.now n) refl (λ less. counted-there xs n less)
  where
    cases : (o : Ordering) → label_cmp x.now n ≡ o → (0 < count xs n → (y : Bor (List ℕ)) × Has xs y × (y.now ≡ n)) → (y : Bor (List ℕ)) × Has (x ∷ xs) y × (y.now ≡ n)
    cases Less e rest = let r = rest (let one = count-cons x xs n in let here : alike n x.now ≡ 0 = ap as_one e in omega (arith, one, here, h)) in (r.0, inr r.1, r.2)
    cases Equal e rest = (x, inl refl, exact_bytes x.now n e)
    cases Greater e rest = let r = rest (let one = count-cons x xs n in let here : alike n x.now ≡ 0 = ap as_one e in omega (arith, one, here, h)) in (r.0, inr r.1, r.2)

counted-first : (x : Bor (List ℕ)) (xs : List (Bor (List ℕ))) → 0 < count (x ∷ xs) x.now
counted-first x xs =
    let one = count-cons x xs x.now in
    let here : alike x.now x.now ≡ 1 = ap as_one (tied_itself label_total x.now) in
    omega (arith, one, here)

not-before : (x y : Bor (List ℕ)) (ys : List (Bor (List ℕ))) → InOrder (y ∷ ys) → 0 < count (y ∷ ys) x.now → (x.now ≡ y.now) ⊎ (is_lt (label_cmp x.now y.now) ≡ false)
not-before x y ys on some =
    let r = counted-there (y ∷ ys) x.now some in
    elim r.1 [
      | inl e ↦ inl (sym (ap (λ (t : Bor (List ℕ)). t.now) e ∙ r.2))
      | inr h ↦ inr (ap (λ t. is_lt (label_cmp t y.now)) (sym r.2) ∙ on.0 r.0 h)
    ]

counts-tell : (xs ys : List (Bor (List ℕ))) → InOrder xs → InOrder ys → ((n : List ℕ) → count xs n ≡ count ys n) → texts xs ≡ texts ys
counts-tell [] [] up on same = refl
counts-tell [] (y ∷ ys) up on same = absurd (let some = counted-first y ys in let e = same y.now in omega (arith, some, e))
counts-tell (x ∷ xs) [] up on same = absurd (let some = counted-first x xs in let e = same x.now in omega (arith, some, e))
counts-tell (x ∷ xs) (y ∷ ys) up on same =
    let x-there = not-before x y ys on (let some = counted-first x xs in let e = same x.now in omega (arith, some, e)) in
    let y-there = not-before y x xs up (let some = counted-first y ys in let e = same y.now in omega (arith, some, e)) in
    let first : x.now ≡ y.now = elim x-there [
      | inl e ↦ e
      | inr later ↦ elim y-there [
        | inl e ↦ sym e
        | inr behind ↦ neither x.now y.now later behind
      ]
    ] in
    let rest : texts xs ≡ texts ys = counts-tell xs ys up.1 on.1
    (λ n. let one = count-cons x xs n in let two = count-cons y ys n in let e = same n in let head = ap (λ (z : List ℕ). alike n z) first in omega (arith, one, two, e, head)) in
    ap (λ (z : List ℕ). z ∷ texts xs) first ∙ ap (λ zs. y.now ∷ zs) rest

-- labels that are put in order are so in one way
pub one-order : (labels : List (List ℕ)) (xs ys : List (Bor (List ℕ))) → AreSorted labels xs → AreSorted labels ys → map (λ t. t.now) xs ≡ map (λ t. t.now) ys
one-order labels xs ys up on =
    counts-tell xs ys (in-order xs up.order) (in-order ys on.order)
    (λ n. sum_by-IsPermutation (alike n) labels (texts xs) up.all ∙ sym (sum_by-IsPermutation (alike n) labels (texts ys) on.all))
