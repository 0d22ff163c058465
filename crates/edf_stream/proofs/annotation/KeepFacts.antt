-- The annotations of a data record, part by part: only the first text of all keeps the time.
use Rattle.std.proofs.Common.{◌≡◌, ℕ, zero, suc, ◌+◌, ◌-◌, ◌^◌, min, List, [], ◌∷◌, ◌++◌, length, Option, None, Some, IfSome, refl, ap, ◌∙◌, length-append, arith}
use Rattle.edf_tal.specs.Reading.{items_of}
use Rattle.edf_tal.specs.Views.{start_of}
use Rattle.edf_stream.specs.annotation.Notes.{NoteValue}
use Rattle.edf_stream.specs.annotation.Keeping.{behind_time}
use Rattle.edf_stream.specs.Views.{start_with}
use Rattle.edf_stream.specs.declared.records.lanes.Said.{Said}

-- it only counts whether there are texts before
same-behind : (n m : ℕ) (notes : List NoteValue) → (n ≡ 0 → m ≡ 0) → (m ≡ 0 → n ≡ 0) → behind_time n notes ≡ behind_time m notes
same-behind zero zero notes f g = refl
same-behind zero (suc m) notes f g = absurd (let z : suc m ≡ 0 = f refl in cc)
same-behind (suc n) zero notes f g = absurd (let z : suc n ≡ 0 = g refl in cc)
same-behind (suc n) (suc m) notes f g = refl

all-behind : (n m : ℕ) (xs ys : List NoteValue) → m ≡ n + length xs → behind_time n (xs ++ ys) ≡ behind_time n xs ++ behind_time m ys
all-behind zero zero [] ys is = refl
all-behind zero (suc m) [] ys is = absurd (let z : suc m ≡ 0 = is in cc)
all-behind zero zero (x ∷ xs) ys is = absurd (let z : 0 ≡ suc (length xs) = omega (arith, is) in cc)
all-behind zero (suc m) (x ∷ xs) ys is = refl
all-behind (suc n) zero xs ys is = absurd (let z : 0 ≡ suc (n + length xs) = omega (arith, is) in cc)
all-behind (suc n) (suc m) xs ys is = refl

-- nothing is left of nothing
pub none-behind : (n : ℕ) → behind_time n [] ≡ []
none-behind zero = refl
none-behind (suc n) = refl

-- a part, and what stands behind it; the texts are counted up to the most that fit
pub parts-behind : (n m : ℕ) (xs ys : List NoteValue) → m ≡ min (n + length xs) (2 ^ 32 - 1) → behind_time n (xs ++ ys) ≡ behind_time n xs ++ behind_time m ys
parts-behind n m xs ys is =
    all-behind n (n + length xs) xs ys refl ∙ ap (λ rest. behind_time n xs ++ rest)
    (same-behind (n + length xs) m ys (λ none. omega (arith, is, none)) (λ none. omega (arith, is, none)))

pub parts-counted : (n m : ℕ) (xs ys : List NoteValue) → m ≡ min (n + length xs) (2 ^ 32 - 1) → min (m + length ys) (2 ^ 32 - 1) ≡ min (n + length (xs ++ ys)) (2 ^ 32 - 1)
parts-counted n m xs ys is = let both = length-append xs ys in omega (arith, is, both)

-- where lanes start, with one more
pub start-with : (found : Option Said) (lane : List ℕ) (lanes : List (List ℕ)) (both one : Said) → (found ≡ None → both.start ≡ one.start) → IfSome found (λ before. both.start ≡ before.start)
    → one.start ≡ start_of (items_of lane) → both.start ≡ start_with found (lane ∷ lanes)
start-with None lane lanes both one alone behind is = alone refl ∙ is
start-with (Some before) lane lanes both one alone behind is = behind
