-- Two lists in which each annotation stands equally often are rearrangements of one another.
use Rattle.std.proofs.Common.{◌↔◌, Ordering, Less, Equal, Greater, ◌≡◌, ℕ, zero, suc, ◌+◌, ◌<◌, cond, List, [], ◌∷◌, ◌++◌, inl, inr, refl, sym, ap, ◌∙◌, subst, arith}
use Rattle.std.proofs.lemmas.List.Sums.{sum_by-cons, sum_by-append}
use Rattle.std.proofs.lemmas.List.Sorted.{sum_by-IsPermutation, IsPermutation-refl, IsPermutation-sym, IsPermutation-cons, IsPermutation-trans, IsPermutation-middle}
use Rattle.std.specs.Cmp.{tied_itself}
use Rattle.std.specs.List.Sorted.{IsPermutation}
use Rattle.std.specs.Ordering.{is_eq}
use Rattle.edf_fields.specs.Lists.{Has}
use Rattle.edf_stream.specs.annotation.Notes.{NoteValue}
use Rattle.edf_pace.specs.Annotations.{note_cmp, times, SameNotes}
use Rattle.edf_heads.proofs.ForCallers.{parted}
use Rattle.edf_pace.proofs.notes.NoteFacts.{note-total, note-exact}

-- how often one annotation counts as another: once or not at all
counted : NoteValue → NoteValue → ℕ
counted note other = cond (is_eq (note_cmp other note)) 1 0

times-cons : (x : NoteValue) (xs : List NoteValue) (n : NoteValue) → times (x ∷ xs) n ≡ counted n x + times xs n
unfolding counted
times-cons x xs n = sum_by-cons (λ other. cond (is_eq (note_cmp other n)) 1 0) x xs

pub times-append : (xs ys : List NoteValue) (n : NoteValue) → times (xs ++ ys) n ≡ times xs n + times ys n
times-append xs ys n = sum_by-append (λ other. cond (is_eq (note_cmp other n)) 1 0) xs ys

itself : (x : NoteValue) → counted x x ≡ 1
unfolding counted
itself x = ap (λ o. cond (is_eq o) 1 0) (tied_itself note-total x)

counts-same : (n x : NoteValue) (o : Ordering) → note_cmp x n ≡ o → 0 < cond (is_eq o) 1 0 → x ≡ n
counts-same n x Less e lt = absurd (omega (arith, lt))
counts-same n x Equal e lt = note-exact x n e
counts-same n x Greater e lt = absurd (omega (arith, lt))

by-count : (n x : NoteValue) (xs : List NoteValue) (k : ℕ) → counted n x ≡ k → 0 < k + times xs n → (0 < times xs n → Has xs n) → Has (x ∷ xs) n
unfolding counted
by-count n x xs zero e lt rest = inr (rest (omega (arith, lt)))
by-count n x xs (suc k) e lt rest = inl (counts-same n x (note_cmp x n) refl (omega (arith, e)))

-- what stands more than never in a list stands there
stands : (xs : List NoteValue) (n : NoteValue) → 0 < times xs n → Has xs n
stands [] n lt = absurd (omega (arith, lt))
stands (x ∷ xs) n lt = by-count n x xs (counted n x) refl (subst (λ k. 0 < k) (times-cons x xs n) lt) (λ more. stands xs n more)

-- without one that stands in both
less-one : (x n : NoteValue) (xs front behind : List NoteValue) → times (x ∷ xs) n ≡ times (front ++ x ∷ behind) n → times xs n ≡ times (front ++ behind) n
less-one x n xs front behind e =
    let a = times-cons x xs n in
    let b = times-append front (x ∷ behind) n in
    let c = times-cons x behind n in
    let d = times-append front behind n in
    omega (arith, a, b, c, d, e)

to-words : (xs ys : List NoteValue) → SameNotes xs ys → IsPermutation xs ys
to-words [] [] same = IsPermutation-refl []
to-words [] (y ∷ ys) same = absurd (let e = same y in let a = times-cons y ys y in let b = itself y in omega (arith, a, b, e))
to-words (x ∷ xs) ys same =
    let a = times-cons x xs x in
    let b = itself x in
    let e = same x in
    let at = parted ys x (stands ys x (omega (arith, a, b, e))) in
    let rest = to-words xs (at.front ++ at.behind) (λ n. less-one x n xs at.front at.behind (same n ∙ ap (λ zs. times zs n) at.is)) in
    let moved : IsPermutation (x ∷ xs) (x ∷ (at.front ++ at.behind)) = IsPermutation-cons x xs (at.front ++ at.behind) rest in
    let whole : IsPermutation (x ∷ xs) (at.front ++ x ∷ at.behind) =
    IsPermutation-trans (x ∷ xs) (x ∷ (at.front ++ at.behind)) (at.front ++ x ∷ at.behind) moved
    (IsPermutation-sym (at.front ++ x ∷ at.behind) (x ∷ (at.front ++ at.behind)) (IsPermutation-middle at.front x at.behind)) in
    let P : List NoteValue → Type 0 = λ zs. IsPermutation (x ∷ xs) zs in
    subst P (sym at.is) whole

pub notes_in_words : (kept exported : List NoteValue) → SameNotes kept exported ↔ IsPermutation kept exported
notes_in_words kept exported = (to-words kept exported, λ p n. sym (sum_by-IsPermutation (λ other. cond (is_eq (note_cmp other n)) 1 0) kept exported p))
