-- Two exports of one original under one claim, which start at one time, have the same annotations.
use Rattle.std.proofs.Common.{◌≡◌, ℤ, neg_ℤ, ◌+ℤ◌, List, [], ◌∷◌, map, arith, refl, ap, ◌∙◌, sym, subst}
use Rattle.std.specs.List.Sorted.{IsPermutation}
use Rattle.std.proofs.lemmas.Int.{ints}
use Rattle.std.proofs.lemmas.List.Sorted.{IsPermutation-map, IsPermutation-sym, IsPermutation-trans}
use Rattle.edf_stream.specs.annotation.Notes.{NoteValue, moved_by}

back : (ps : ℤ) (note : NoteValue) → moved_by (neg_ℤ ps) (moved_by ps note) ≡ note
back ps note =
    let onset : neg_ℤ ps +ℤ (ps +ℤ note.onset) ≡ note.onset = omega (arith, ints) in
    let made : ℤ → NoteValue = λ at. record { onset = at; duration = note.duration; text = note.text } in
    ap made onset

all-back : (ps : ℤ) (notes : List NoteValue) → map (moved_by (neg_ℤ ps)) (map (moved_by ps) notes) ≡ notes
all-back ps [] = refl
all-back ps (note ∷ notes) = ap (λ n. n ∷ map (moved_by (neg_ℤ ps)) (map (moved_by ps) notes)) (back ps note) ∙ ap (λ ns. note ∷ ns) (all-back ps notes)

pub notes-same : (ps also : ℤ) (kept notes others : List NoteValue) → ps ≡ also → IsPermutation kept (map (moved_by ps) notes) → IsPermutation kept (map (moved_by also) others) → IsPermutation notes others
notes-same ps also kept notes others same h k =
    let here : IsPermutation kept (map (moved_by ps) others) = subst (λ z. IsPermutation kept (map (moved_by z) others)) (sym same) k in
    let moved : IsPermutation (map (moved_by ps) notes) (map (moved_by ps) others) =
    IsPermutation-trans (map (moved_by ps) notes) kept (map (moved_by ps) others) (IsPermutation-sym kept (map (moved_by ps) notes) h) here in
    let both = IsPermutation-map (moved_by (neg_ℤ ps)) (map (moved_by ps) notes) (map (moved_by ps) others) moved in
    subst (λ ns. IsPermutation ns others) (all-back ps notes) (subst (λ ns. IsPermutation (map (moved_by (neg_ℤ ps)) (map (moved_by ps) notes)) ns) (all-back ps others) both)
