-- The comparison of two lists of annotations in order is exact.
use Rattle.std.proofs.Common.{Ordering, Less, Equal, Greater, ◌≡◌, ◌≢◌, ℕ, suc, ◌≤◌, ◌<◌, ◌+◌, ◌-◌, ◌⊎◌, Bool, true, false, cond, List, [], ◌∷◌, ◌++◌, get_or, length, take, drop, map, Option, Some, None, MatchOption, inl, inr, ⊎_elim, refl, sym, ap, ◌∙◌, subst, length-drop, arith}
use Rattle.std.specs.List.Sorted.{IsSorted, IsPermutation}
use Rattle.std.specs.Ordering.{is_eq, is_lt, is_ne, ordering_reverse}
use Rattle.std.proofs.lemmas.Cmp.{tied_itself}
use Rattle.std.proofs.lemmas.List.Sorted.{sum_by-IsPermutation, IsPermutation-append_right, IsPermutation-map, sorted_far, ranks_by}
use Rattle.std.proofs.Math.Seq.{take-suc, take-length}
use Rattle.std.proofs.lemmas.List.{map-append, take-append-drop}
use Rattle.std.proofs.lemmas.List.Sums.{sum_by-cons}
use Rattle.edf_fields.specs.Lists.{Has}
use Rattle.edf_fields.proofs.ForCallers.{map-has, at-has, get-index, get-within}
use Rattle.edf_stream.specs.declared.annotation.notes.Note.{Note}
use Rattle.edf_stream.specs.annotation.Notes.{NoteValue}
use Rattle.edf_stream.specs.Views.{note_value}
use Rattle.edf_verdict.specs.declared.verdict.AnnotationMismatch.{AnnotationMismatch}
use Rattle.edf_verdict.specs.declared.verdict.AnnotationMismatch.TheVariants.{Missing, Extra}
use Rattle.edf_pace.specs.Annotations.{note_cmp, times, IsMore, IsFirstNote, SameNotes}
use Rattle.edf_pace.specs.notes.NoteOrder.{NoteMismatch, by_order, first_unequal_of}
use Rattle.edf_pace.proofs.notes.NoteFacts.{note-total, note-exact}
use Rattle.edf_pace.proofs.notes.RearrangedFacts.{times-append}

-- one front, and what stands behind it in another order
pub behind-permuted : {X : Type 0} (n : ℕ) (xs ys : List X) → take n ys ≡ take n xs → IsPermutation (drop n xs) (drop n ys) → IsPermutation xs ys
behind-permuted n xs ys front rest =
    subst (λ zs. IsPermutation zs ys) (take-append-drop n xs)
    (subst (IsPermutation (take n xs ++ drop n xs)) (ap (λ zs. zs ++ drop n ys) (sym front) ∙ take-append-drop n ys) (IsPermutation-append_right (take n xs) (drop n xs) (drop n ys) rest))

-- no annotation is before one that stands ahead of it
abbrev pub AreInOrder : List NoteValue → Type 0
AreInOrder [] = Unit {0}
AreInOrder (x ∷ xs) = ((y : NoteValue) → Has xs y → note_cmp y x ≢ Less) × AreInOrder xs

abbrev pub once : Bool → ℕ
once b = cond b 1 0

pub turn : (x y : NoteValue) (o : Ordering) → note_cmp x y ≡ o → note_cmp y x ≡ ordering_reverse o
turn x y o e = note-total.antisymm y x ∙ ap ordering_reverse e

pub times-cons : (x : NoteValue) (xs : List NoteValue) (n : NoteValue) → times (x ∷ xs) n ≡ once (is_eq (note_cmp x n)) + times xs n
times-cons x xs n = sum_by-cons (λ other. once (is_eq (note_cmp other n))) x xs

-- no member is before the annotation
abbrev pub AreFrom : NoteValue → List NoteValue → Type 0
AreFrom y xs = (m : NoteValue) → Has xs m → note_cmp m y ≢ Less

pub from-head : (x : NoteValue) (xs : List NoteValue) → AreInOrder (x ∷ xs) → AreFrom x (x ∷ xs)
from-head x xs a m h e =
    ⊎_elim
    (λ i. let f : note_cmp m x ≡ Equal = subst (λ z. note_cmp z x ≡ Equal) i (tied_itself note-total x) in let g : Less ≡ Equal = sym e ∙ f in absurd (let j : Less ≡ Equal = g in cc))
    (λ i. a.0 m i e) h

-- an annotation that is before all doesn't stand there
not-there : (y : NoteValue) (xs : List NoteValue) (n : NoteValue) → AreFrom y xs → note_cmp n y ≡ Less → times xs n ≡ 0
not-there y [] n f e = refl
not-there y (x ∷ xs) n f e =
    let rest : times xs n ≡ 0 = not-there y xs n (λ m h. f m (inr h)) e in
    let head : once (is_eq (note_cmp x n)) ≡ 0 = cases (note_cmp x n) refl in
    times-cons x xs n ∙ omega (arith, head, rest)
  where
    cases : (o : Ordering) → note_cmp x n ≡ o → once (is_eq o) ≡ 0
    cases Less i = refl
    cases Equal i = absurd (f x (inl refl) (note-total.congr x n y i ∙ e))
    cases Greater i = refl

head-there : (x : NoteValue) (xs : List NoteValue) → 0 < times (x ∷ xs) x
head-there x xs =
    let h : times (x ∷ xs) x ≡ 1 + times xs x = times-cons x xs x ∙ ap (λ o. once (is_eq o) + times xs x) (tied_itself note-total x) in
    omega (arith, h)

-- the head of the first list is before all of the second
head-missing : (x : NoteValue) (xs ys : List NoteValue) → AreInOrder (x ∷ xs) →
    ((n : NoteValue) → (note_cmp n x ≡ Less) → times ys n ≡ 0) → times ys x ≡ 0 → IsFirstNote (x ∷ xs) ys Missing x
head-missing x xs ys a none here = record {
  differ = (let p = head-there x xs in omega (arith, p, here));
  least = λ other e. not-there x (x ∷ xs) other (from-head x xs a) e ∙ sym (none other e);
}

head-extra : (xs : List NoteValue) (y : NoteValue) (ys : List NoteValue) → AreInOrder (y ∷ ys) →
    ((n : NoteValue) → (note_cmp n y ≡ Less) → times xs n ≡ 0) → times xs y ≡ 0 → IsFirstNote xs (y ∷ ys) Extra y
head-extra xs y ys a none here = record {
  differ = (let p = head-there y ys in omega (arith, p, here));
  least = λ other e. none other e ∙ sym (not-there y (y ∷ ys) other (from-head y ys a) e);
}

-- two heads that are equal
with-heads : (x : NoteValue) (xs : List NoteValue) (y : NoteValue) (ys : List NoteValue) → note_cmp x y ≡ Equal → (n : NoteValue) →
    (k : ℕ) × (times (x ∷ xs) n ≡ k + times xs n) × (times (y ∷ ys) n ≡ k + times ys n)
with-heads x xs y ys e n =
    (once (is_eq (note_cmp x n)), times-cons x xs n, times-cons y ys n ∙ ap (λ o. once (is_eq o) + times ys n) (sym (note-total.congr x y n e)))

pub more-with : (m : AnnotationMismatch) (a b k p q : ℕ) → p ≡ k + a → q ≡ k + b → IsMore m a b → IsMore m p q
more-with Missing a b k p q e f h = omega (arith, e, f, h)
more-with Extra a b k p q e f h = omega (arith, e, f, h)

abbrev pub Answer : List NoteValue → List NoteValue → Option NoteMismatch → Type 0
Answer xs ys o = MatchOption o (SameNotes xs ys) (λ d. IsFirstNote xs ys d.mismatch d.note)

-- none exactly where each stands equally often, else the first that doesn't
pub unequal-exact : (xs ys : List NoteValue) → AreInOrder xs → AreInOrder ys → Answer xs ys (first_unequal_of xs ys)
unequal-exact [] [] a b = λ n. refl
unequal-exact [] (y ∷ ys) a b = head-extra [] y ys b (λ n e. refl) refl
unequal-exact (x ∷ xs) [] a b = head-missing x xs [] a (λ n e. refl) refl
unequal-exact (x ∷ xs) (y ∷ ys) a b = cases (note_cmp x y) refl (unequal-exact xs ys a.1 b.1)
  where
    same : note_cmp x y ≡ Equal → (o : Option NoteMismatch) → Answer xs ys o → Answer (x ∷ xs) (y ∷ ys) o
    same e None h = λ n. let (k, p, q) = with-heads x xs y ys e n in p ∙ (ap (λ z. k + z) (h n) ∙ sym q)
    same e (Some d) h =
        let (k, p, q) = with-heads x xs y ys e d.note in
        record {
          differ = more-with d.mismatch (times xs d.note) (times ys d.note) k (times (x ∷ xs) d.note) (times (y ∷ ys) d.note) p q h.differ;
          least = λ n l. let (k, p, q) = with-heads x xs y ys e n in p ∙ (ap (λ z. k + z) (h.least n l) ∙ sym q);
        }

    cases : (o : Ordering) → note_cmp x y ≡ o → Answer xs ys (first_unequal_of xs ys) → Answer (x ∷ xs) (y ∷ ys) (by_order o x y (first_unequal_of xs ys))
    cases Less e h =
        head-missing x xs (y ∷ ys) a
        (λ n l. not-there y (y ∷ ys) n (from-head y ys b) (note-total.trans n x y l e))
        (not-there y (y ∷ ys) x (from-head y ys b) e)
    cases Equal e h = same e (first_unequal_of xs ys) h
    cases Greater e h =
        let e' : note_cmp y x ≡ Less = turn x y Greater e in
        head-extra (x ∷ xs) y ys b
        (λ n l. not-there x (x ∷ xs) n (from-head x xs a) (note-total.trans n y x l e'))
        (not-there x (x ∷ xs) y (from-head x xs a) e')

-- ---- from the code's lists

abbrev pub Sorted : List Note → Type 0
Sorted xs = IsSorted (λ x y. note_cmp (note_value x) (note_value y)) xs

sorted-tail : (x : Note) (xs : List Note) → Sorted (x ∷ xs) → Sorted xs
sorted-tail x xs up = λ k d low high. let e : suc k + 1 ≡ suc (k + 1) = omega arith in rw e at (up (suc k) d (omega arith) (omega (arith, high)))

in-order : (xs : List Note) → Sorted xs → AreInOrder (map note_value xs)
in-order [] up = tt
in-order (x ∷ xs) up = (behind, in-order xs (sorted-tail x xs up))
  where
    behind : (y : NoteValue) → Has (map note_value xs) y → note_cmp y (note_value x) ≢ Less
    behind y h e =
        let m = map-has note_value xs y h in
        let at = at-has xs m.0 m.1 in
        let lt = get-within xs at.0 m.0 at.1 in
        let far = sorted_far (λ a b. is_lt (note_cmp (note_value a) (note_value b))) (ranks_by note-total note_value) (x ∷ xs) up 0 (suc at.0) x (omega arith) (omega (arith, lt)) in
        let here : note_value (get_or xs at.0 x) ≡ y = ap note_value (get-index xs at.0 m.0 x at.1) ∙ m.2 in
        let no-less : is_lt (note_cmp y (note_value x)) ≡ false = ap (λ z. is_lt (note_cmp z (note_value x))) (sym here) ∙ far in
        let less : is_lt (note_cmp y (note_value x)) ≡ true = ap is_lt e in
        let f : true ≡ false = sym less ∙ no-less in cc

-- a rearrangement has each annotation as often
counts-same : (xs ys : List Note) → IsPermutation xs ys → (n : NoteValue) → times (map note_value xs) n ≡ times (map note_value ys) n
counts-same xs ys p n = sym (sum_by-IsPermutation (λ other. once (is_eq (note_cmp other n))) (map note_value xs) (map note_value ys) (IsPermutation-map note_value xs ys p))

pub counted : (kept sorted exported ordered : List Note) (o : Option NoteMismatch) → IsPermutation kept sorted → IsPermutation exported ordered → Sorted sorted → Sorted ordered
    → o ≡ first_unequal_of (map note_value sorted) (map note_value ordered) → Answer (map note_value kept) (map note_value exported) o
counted kept sorted exported ordered o p q up on e =
    back o (subst (Answer (map note_value sorted) (map note_value ordered)) (sym e) (unequal-exact (map note_value sorted) (map note_value ordered) (in-order sorted up) (in-order ordered on)))
  where
    back : (x : Option NoteMismatch) → Answer (map note_value sorted) (map note_value ordered) x → Answer (map note_value kept) (map note_value exported) x
    back None h = λ n. counts-same kept sorted p n ∙ (h n ∙ sym (counts-same exported ordered q n))
    back (Some d) h =
        let a = counts-same kept sorted p d.note in
        let b = counts-same exported ordered q d.note in
        record {
          differ = more-with d.mismatch (times (map note_value sorted) d.note) (times (map note_value ordered) d.note) 0 (times (map note_value kept) d.note) (times (map note_value exported) d.note) (omega (arith, a)) (omega (arith, b)) h.differ;
          least = λ n l. counts-same kept sorted p n ∙ (h.least n l ∙ sym (counts-same exported ordered q n));
        }

-- where one of two lists has ended, the difference is what stands first in the other
pub missing_first : (kept exported : List Note) (note : Note) → note ≡ get_or kept 0 note → 1 ≤ length kept → (length kept ≡ 0) ⊎ (length exported ≡ 0) → Some (record { mismatch = Missing; note = note_value note }) ≡ first_unequal_of (map note_value kept) (map note_value exported)
missing_first [] exported note is some ended = absurd (omega (arith, some))
missing_first (x ∷ xs) [] note is some ended = ap (λ (n : Note). first_unequal_of (note_value n ∷ []) []) is
missing_first (x ∷ xs) (y ∷ ys) note is some (inl e) = absurd (omega (arith, e))
missing_first (x ∷ xs) (y ∷ ys) note is some (inr e) = absurd (omega (arith, e))

pub extra_first : (kept exported : List Note) (note : Note) → note ≡ get_or exported 0 note → 1 ≤ length exported → length kept < 1 → Some (record { mismatch = Extra; note = note_value note }) ≡ first_unequal_of (map note_value kept) (map note_value exported)
extra_first [] [] note is some none = absurd (omega (arith, some))
extra_first [] (y ∷ ys) note is some none = ap (λ (n : Note). first_unequal_of [] (note_value n ∷ [])) is
extra_first (x ∷ xs) exported note is some none = absurd (omega (arith, none))

-- ---- those at the front that are the same

in-two : (xs : List Note) (i : ℕ) → map note_value xs ≡ map note_value (take i xs) ++ map note_value (drop i xs)
in-two xs i = ap (map note_value) (sym (take-append-drop i xs)) ∙ map-append note_value (take i xs) (drop i xs)

-- one more that is the same
pub same-more : (xs ys : List Note) (i : ℕ) (x y : Note) → i < length xs → i < length ys → map note_value (take i xs) ≡ map note_value (take i ys) → note_cmp (note_value (get_or xs i x)) (note_value (get_or ys i y)) ≡ Equal
    → map note_value (take (i + 1) xs) ≡ map note_value (take (i + 1) ys)
same-more xs ys i x y low high same e =
    let next : (zs : List Note) (z : Note) → i < length zs → map note_value (take (i + 1) zs) ≡ map note_value (take i zs) ++ note_value (get_or zs i z) ∷ [] =
    λ zs z lt. ap (λ n. map note_value (take n zs)) (let s : i + 1 ≡ suc i = omega arith in s) ∙ ap (map note_value) (take-suc zs i z lt) ∙ map-append note_value (take i zs) (get_or zs i z ∷ []) in
    next xs x low ∙ ap (λ front. front ++ note_value (get_or xs i x) ∷ []) same
    ∙ ap (λ last. map note_value (take i ys) ++ last ∷ []) (note-exact (note_value (get_or xs i x)) (note_value (get_or ys i y)) e) ∙ sym (next ys y high)

-- what stands behind them decides
pub behind-same : (xs ys : List Note) (i : ℕ) (o : Option NoteMismatch) → map note_value (take i xs) ≡ map note_value (take i ys) → Answer (map note_value (drop i xs)) (map note_value (drop i ys)) o
    → Answer (map note_value xs) (map note_value ys) o
behind-same xs ys i o same h =
    let front = map note_value (take i xs) in
    let a = map note_value (drop i xs) in
    let b = map note_value (drop i ys) in
    subst (λ zs. Answer zs (map note_value ys) o) (sym (in-two xs i))
    (subst (λ zs. Answer (front ++ a) zs o) (sym (in-two ys i ∙ ap (λ f. f ++ b) (sym same))) (both front a b o h))
  where
    both : (front a b : List NoteValue) (o : Option NoteMismatch) → Answer a b o → Answer (front ++ a) (front ++ b) o
    both front a b None h = λ n. times-append front a n ∙ ap (λ z. times front n + z) (h n) ∙ sym (times-append front b n)
    both front a b (Some d) h = record {
      differ = more-with d.mismatch (times a d.note) (times b d.note) (times front d.note) (times (front ++ a) d.note) (times (front ++ b) d.note) (times-append front a d.note) (times-append front b d.note) h.differ;
      least = λ n l. times-append front a n ∙ ap (λ z. times front n + z) (h.least n l) ∙ sym (times-append front b n);
    }

whole : (xs : List Note) (i : ℕ) → take (length xs - i) (drop i xs) ≡ drop i xs
whole xs i = ap (λ n. take n (drop i xs)) (sym (length-drop i xs)) ∙ take-length (drop i xs)

-- what is found behind them, in order
pub found-behind : (kept exported a b c d sorted ordered : List Note) (i : ℕ) (o : Option NoteMismatch) → a ≡ kept → b ≡ exported → c ≡ sorted → d ≡ ordered
    → map note_value (take i a) ≡ map note_value (take i b) → IsPermutation (drop i kept) (drop i sorted) → IsPermutation (drop i exported) (drop i ordered)
    → Sorted (drop i sorted) → Sorted (drop i ordered) → o ≡ first_unequal_of (map note_value (take (length c - i) (drop i c))) (map note_value (take (length d - i) (drop i d)))
    → Answer (map note_value kept) (map note_value exported) o
found-behind kept exported a b c d sorted ordered i o ea eb ec ed same p q up on e =
    let front = ap (λ xs. map note_value (take i xs)) (sym ea) ∙ same ∙ ap (λ xs. map note_value (take i xs)) eb in
    let found = e ∙ ap (λ xs. first_unequal_of (map note_value xs) (map note_value (take (length d - i) (drop i d)))) (whole c i ∙ ap (drop i) ec)
    ∙ ap (λ xs. first_unequal_of (map note_value (drop i sorted)) (map note_value xs)) (whole d i ∙ ap (drop i) ed) in
    behind-same kept exported i o front (counted (drop i kept) (drop i sorted) (drop i exported) (drop i ordered) o p q up on found)

pub not-apart : (o : Ordering) → is_ne o ≡ false → o ≡ Equal
not-apart Less e = absurd (let f : true ≡ false = e in cc)
not-apart Equal e = refl
not-apart Greater e = absurd (let f : true ≡ false = e in cc)
