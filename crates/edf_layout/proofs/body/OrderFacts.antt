-- The order of annotations, and the places in it.
use Rattle.std.proofs.Common.{Ordering, Less, Equal, Greater, ◌≡◌, ◌⊎◌, inl, inr, ℕ, ℤ, suc, ◌+◌, ◌<◌, ◌≤◌, Bool, true, false, cond, List, [], ◌∷◌, Option, Some, None, slice_get, refl, ap, ◌∙◌, sym, arith}
use Rattle.std.specs.List.Sorted.{IsPermutation}
use Rattle.std.specs.Cmp.{IsTotalOrder}
use Rattle.std.specs.Cmp.Lexicographic.{on_texts, options_total, slice_cmp}
use Rattle.std.specs.Option.{option_cmp}
use Rattle.std.specs.List.{sum_by}
use Rattle.std.specs.Ordering.{is_eq, is_lt, int_cmp, nat_cmp, ordering_then, ordering_reverse}
use Rattle.std.proofs.lemmas.Cmp.{then_total, on_total, int_cmp_total, tied_itself}
use Rattle.std.proofs.lemmas.List.Sorted.{sum_by-IsPermutation, sorted_far, ranks_by}
use Rattle.std.proofs.lemmas.List.Sums.{sum_by-cons}
use Rattle.std.proofs.lemmas.Map.Lookups.{exact_signed, exact_bytes}
use Rattle.edf_fields.specs.Lists.{Has}
use Rattle.edf_fields.proofs.ForCallers.{at-has, get-within, get-index, has-permutation}
use Rattle.edf_stream.specs.annotation.Notes.{NoteValue}
use Rattle.edf_layout.specs.body.MeaningLaws.{AreInOrder, OneOrder, PlacesTell}
use Rattle.edf_layout.specs.body.NoteOrders.{note_cmp, place_of}

pub note_total : IsTotalOrder note_cmp
note_total = then_total (on_total (λ (n : NoteValue). n.onset) int_cmp_total) (then_total (on_total (λ (n : NoteValue). n.duration) (options_total int_cmp_total)) (on_texts (λ (n : NoteValue). n.text)))

both-equal : (a b : Ordering) → ordering_then a b ≡ Equal → (a ≡ Equal) × (b ≡ Equal)
both-equal Less b e = absurd (let h : Less ≡ Equal = e in cc)
both-equal Equal b e = (refl, e)
both-equal Greater b e = absurd (let h : Greater ≡ Equal = e in cc)

exact-option : (a b : Option ℤ) → option_cmp int_cmp a b ≡ Equal → a ≡ b
exact-option None None e = refl
exact-option None (Some y) e = absurd (let h : Less ≡ Equal = e in cc)
exact-option (Some x) None e = absurd (let h : Greater ≡ Equal = e in cc)
exact-option (Some x) (Some y) e = ap Some (exact_signed x y e)

-- annotations that are equal in order are one
pub note_exact : (a b : NoteValue) → note_cmp a b ≡ Equal → a ≡ b
note_exact a b e =
    let p = both-equal (int_cmp a.onset b.onset) _ e in
    let q = both-equal (option_cmp int_cmp a.duration b.duration) (slice_cmp nat_cmp a.text b.text) p.1 in
    let make : ℤ → Option ℤ → List ℕ → NoteValue = λ o d t. record { onset = o; duration = d; text = t } in
    ap (λ o. make o a.duration a.text) (exact_signed a.onset b.onset p.0)
    ∙ (ap (λ d. make b.onset d a.text) (exact-option a.duration b.duration q.0) ∙ ap (make b.onset b.duration) (exact_bytes a.text b.text q.1))

-- whether an annotation is before another one, as a number
abbrev pub before : NoteValue → NoteValue → ℕ
before note other = cond (is_lt (note_cmp other note)) 1 0

pub place-cons : (x : NoteValue) (xs : List NoteValue) (n : NoteValue) → place_of (x ∷ xs) n ≡ before n x + place_of xs n
place-cons x xs n = sum_by-cons (before n) x xs

before-le : (a b x : NoteValue) → note_cmp a b ≡ Less → before a x ≤ before b x
before-le a b x less = cases (note_cmp x a) refl
  where
    cases : (o : Ordering) → note_cmp x a ≡ o → cond (is_lt o) 1 0 ≤ before b x
    cases Less e = let f : before b x ≡ 1 = ap (λ p. cond (is_lt p) 1 0) (note_total.trans x a b e less) in omega (arith, f)
    cases Equal e = omega arith
    cases Greater e = omega arith

place-le : (xs : List NoteValue) (a b : NoteValue) → note_cmp a b ≡ Less → place_of xs a ≤ place_of xs b
place-le [] a b less = omega arith
place-le (x ∷ xs) a b less =
    let one = place-cons x xs a in
    let two = place-cons x xs b in
    let first = before-le a b x less in
    let rest = place-le xs a b less in
    omega (arith, one, two, first, rest)

pub place-less : (xs : List NoteValue) (a b : NoteValue) → note_cmp a b ≡ Less → Has xs a → place_of xs a < place_of xs b
place-less [] a b less h = absurd h
place-less (x ∷ xs) a b less (inl is) =
    let one = place-cons x xs a in
    let two = place-cons x xs b in
    let itself : before a x ≡ 0 = ap (λ (n : NoteValue). before a n) is ∙ ap (λ p. cond (is_lt p) 1 0) (tied_itself note_total a) in
    let other : before b x ≡ 1 = ap (λ (n : NoteValue). before b n) is ∙ ap (λ p. cond (is_lt p) 1 0) less in
    let rest = place-le xs a b less in
    omega (arith, one, two, itself, other, rest)
place-less (x ∷ xs) a b less (inr h) =
    let one = place-cons x xs a in
    let two = place-cons x xs b in
    let first = before-le a b x less in
    let rest = place-less xs a b less h in
    omega (arith, one, two, first, rest)

-- the place tells the annotation
pub place-tells : (notes : List NoteValue) (a b : NoteValue) → Has notes a → Has notes b → place_of notes a ≡ place_of notes b → a ≡ b
place-tells notes a b h k same = cases (note_cmp a b) refl
  where
    cases : (o : Ordering) → note_cmp a b ≡ o → a ≡ b
    cases Less e = absurd (let l = place-less notes a b e h in omega (arith, l, same))
    cases Equal e = note_exact a b e
    cases Greater e = absurd (let l = place-less notes b a (note_total.antisymm b a ∙ ap ordering_reverse e) k in omega (arith, l, same))

-- and doesn't depend on how the annotations stand
pub place-permuted : (notes others : List NoteValue) (n : NoteValue) → IsPermutation notes others → place_of others n ≡ place_of notes n
place-permuted notes others n p = sum_by-IsPermutation (before n) notes others p

-- ---- annotations in order

-- no annotation comes before one that stands ahead of it
abbrev pub NoneBefore : NoteValue → List NoteValue → Type 0
NoneBefore x xs = (y : NoteValue) → Has xs y → is_lt (note_cmp y x) ≡ false

abbrev pub InOrder : List NoteValue → Type 0
InOrder [] = Unit {0}
InOrder (x ∷ xs) = NoneBefore x xs × InOrder xs

sorted-tail : (x : NoteValue) (xs : List NoteValue) → AreInOrder (x ∷ xs) → AreInOrder xs
sorted-tail x xs up = λ k d low high. let e : suc k + 1 ≡ suc (k + 1) = omega arith in rw e at (up (suc k) d (omega arith) (omega (arith, high)))

pub in-order : (xs : List NoteValue) → AreInOrder xs → InOrder xs
in-order [] up = tt
in-order (x ∷ xs) up = (behind, in-order xs (sorted-tail x xs up))
  where
    behind : (y : NoteValue) → Has xs y → is_lt (note_cmp y x) ≡ false
    behind y h =
        let at = at-has xs y h in
        let lt = get-within xs at.0 y at.1 in
        let far = sorted_far (λ a b. is_lt (note_cmp a b)) (ranks_by note_total (λ n. n)) (x ∷ xs) up 0 (suc at.0) x (omega arith) (omega (arith, lt)) in
        ap (λ z. is_lt (note_cmp z x)) (sym (get-index xs at.0 y x at.1)) ∙ far

-- of two annotations of which neither comes before the other both are one
neither : (x y : NoteValue) → is_lt (note_cmp x y) ≡ false → is_lt (note_cmp y x) ≡ false → x ≡ y
neither x y h k = cases (note_cmp x y) refl
  where
    cases : (o : Ordering) → note_cmp x y ≡ o → x ≡ y
    cases Less e = absurd (let f : true ≡ false = sym (ap is_lt e) ∙ h in cc)
    cases Equal e = note_exact x y e
    cases Greater e = absurd (let f : true ≡ false = sym (ap is_lt (note_total.antisymm y x ∙ ap ordering_reverse e)) ∙ k in cc)

-- an annotation that none comes before is in place 0
first-place : (x : NoteValue) (xs : List NoteValue) → NoneBefore x xs → place_of xs x ≡ 0
first-place x [] h = refl
first-place x (y ∷ ys) h =
    let one = place-cons y ys x in
    let here : before x y ≡ 0 = ap (λ b. cond b 1 0) (h y (inl refl)) in
    let rest = first-place x ys (λ z has. h z (inr has)) in
    omega (arith, one, here, rest)

itself : (x : NoteValue) → is_lt (note_cmp x x) ≡ false
itself x = ap is_lt (tied_itself note_total x)

-- whether one comes before another
lt-cases : (b : Bool) → (b ≡ true) ⊎ (b ≡ false)
lt-cases true = inl refl
lt-cases false = inr refl

-- an annotation stands at its place
stands : (xs : List NoteValue) (n : NoteValue) → InOrder xs → Has xs n → slice_get xs (place_of xs n) ≡ Some n
stands [] n up h = absurd h
stands (x ∷ xs) n up h = elim (lt-cases (is_lt (note_cmp x n))) [
  | inl less ↦
      let place : place_of (x ∷ xs) n ≡ suc (place_of xs n) = (let one = place-cons x xs n in let here : before n x ≡ 1 = ap (λ b. cond b 1 0) less in omega (arith, one, here)) in
      let there : Has xs n = elim h [
        | inl is ↦ absurd (let f : true ≡ false = sym less ∙ ap (λ z. is_lt (note_cmp z n)) is ∙ itself n in cc)
        | inr has ↦ has
      ] in
      ap (slice_get (x ∷ xs)) place ∙ stands xs n up.1 there
  | inr not ↦
      let is : x ≡ n = elim h [
        | inl is ↦ is
        | inr has ↦ neither x n not (up.0 n has)
      ] in
      let first : place_of (x ∷ xs) x ≡ 0 = (let one = place-cons x xs x in let here : before x x ≡ 0 = ap (λ b. cond b 1 0) (itself x) in let rest = first-place x xs up.0 in omega (arith, one, here, rest)) in
      ap (slice_get (x ∷ xs)) (ap (λ z. place_of (x ∷ xs) z) (sym is) ∙ first) ∙ ap Some is
]

pub places_tell : PlacesTell
places_tell notes ordered note p up has =
    ap (slice_get ordered) (sym (place-permuted notes ordered note p)) ∙ stands ordered note (in-order ordered up) (has-permutation notes ordered note p has)

abbrev as_one : Ordering → ℕ
as_one o = cond (is_eq o) 1 0

-- whether an annotation is this one, as a number
abbrev alike : NoteValue → NoteValue → ℕ
alike note other = as_one (note_cmp other note)

-- how often an annotation stands in a list
abbrev count : List NoteValue → NoteValue → ℕ
count notes n = sum_by (alike n) notes

count-cons : (x : NoteValue) (xs : List NoteValue) (n : NoteValue) → count (x ∷ xs) n ≡ alike n x + count xs n
count-cons x xs n = sum_by-cons (alike n) x xs

counted-there : (xs : List NoteValue) (n : NoteValue) → 0 < count xs n → Has xs n
counted-there [] n h = absurd (omega arith)
counted-there (x ∷ xs) n h = cases (note_cmp x n) refl (λ less. counted-there xs n less)
  where
    cases : (o : Ordering) → note_cmp x n ≡ o → (0 < count xs n → Has xs n) → Has (x ∷ xs) n
    cases Less e rest = inr (rest (let one = count-cons x xs n in let here : alike n x ≡ 0 = ap as_one e in omega (arith, one, here, h)))
    cases Equal e rest = inl (note_exact x n e)
    cases Greater e rest = inr (rest (let one = count-cons x xs n in let here : alike n x ≡ 0 = ap as_one e in omega (arith, one, here, h)))

counted-first : (x : NoteValue) (xs : List NoteValue) → 0 < count (x ∷ xs) x
counted-first x xs =
    let one = count-cons x xs x in
    let here : alike x x ≡ 1 = ap as_one (tied_itself note_total x) in
    omega (arith, one, here)

-- two lists in order in which each annotation stands equally often
counts-tell : (xs ys : List NoteValue) → InOrder xs → InOrder ys → ((n : NoteValue) → count xs n ≡ count ys n) → xs ≡ ys
counts-tell [] [] up on same = refl
counts-tell [] (y ∷ ys) up on same = absurd (let some = counted-first y ys in let e = same y in omega (arith, some, e))
counts-tell (x ∷ xs) [] up on same = absurd (let some = counted-first x xs in let e = same x in omega (arith, some, e))
counts-tell (x ∷ xs) (y ∷ ys) up on same =
    let x-there : Has (y ∷ ys) x = counted-there (y ∷ ys) x (let some = counted-first x xs in let e = same x in omega (arith, some, e)) in
    let y-there : Has (x ∷ xs) y = counted-there (x ∷ xs) y (let some = counted-first y ys in let e = same y in omega (arith, some, e)) in
    let first : x ≡ y = elim x-there [
      | inl e ↦ sym e
      | inr later ↦ elim y-there [
        | inl e ↦ e
        | inr behind ↦ neither x y (on.0 x later) (up.0 y behind)
      ]
    ] in
    let rest : xs ≡ ys = counts-tell xs ys up.1 on.1
    (λ n. let one = count-cons x xs n in let two = count-cons y ys n in let e = same n in let head = ap (λ (z : NoteValue). alike n z) first in omega (arith, one, two, e, head)) in
    ap (λ (z : NoteValue). z ∷ xs) first ∙ ap (λ zs. y ∷ zs) rest

pub one_order : OneOrder
one_order notes others p up on =
    counts-tell notes others (in-order notes up) (in-order others on)
    (λ n. sym (sum_by-IsPermutation (alike n) notes others p))
