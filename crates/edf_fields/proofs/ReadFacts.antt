-- A read into the rest of a buffer.
use Rattle.std.proofs.Common.{◌≡◌, ℕ, ◌+◌, ◌≤◌, List, ◌++◌, length, length-drop, take, drop, ◌-◌, ◌∙◌, sym, ap, subst, append_assoc, arith}
use Rattle.std.proofs.Math.Seq.{take-append-add, take-add, take-length}
use Rattle.std.proofs.lemmas.List.{length-append, length-take-le, take-append-le}

-- what a read gave stands behind what was there
pub take_behind : (xs ys zs : List ℕ) (a g : ℕ) → a ≤ length xs → g ≤ length ys → take (a + g) (take a xs ++ (ys ++ zs)) ≡ take a xs ++ take g ys
take_behind xs ys zs a g p q =
    let P : ℕ → Type 0 = λ k. take (k + g) (take a xs ++ (ys ++ zs)) ≡ take a xs ++ take g ys in
    subst P (length-take-le a xs p) (take-append-add (take a xs) (ys ++ zs) g ∙ ap (λ r. take a xs ++ r) (take-append-le g ys zs q))

-- two reads, one behind the other
pub takes_twice : (first middle last xs ys zs : List ℕ) (a g : ℕ) → a ≤ length xs → g ≤ length ys → first ≡ take a xs ++ middle → middle ≡ take g ys ++ last → first ≡ take (a + g) (take a xs ++ (ys ++ zs)) ++ last
takes_twice first middle last xs ys zs a g p q h k =
    h ∙ ap (λ r. take a xs ++ r) k ∙ sym (append_assoc (take a xs) (take g ys) last)
    ∙ ap (λ r. r ++ last) (sym (take_behind xs ys zs a g p q))

pub take_in_two : (a g : ℕ) (xs : List ℕ) → take (a + g) xs ≡ take a xs ++ take g (drop a xs)
take_in_two a g xs = take-add a g xs

-- what the range from a place on has
pub rest_whole : (a : ℕ) (xs : List ℕ) → take (length xs - a) (drop a xs) ≡ drop a xs
rest_whole a xs = ap (λ n. take n (drop a xs)) (sym (length-drop a xs)) ∙ take-length (drop a xs)

-- a read that gave something left less
pub takes_some : (left rest buf : List ℕ) (k : ℕ) → k ≤ length buf → (k ≡ 0 → ⊥) → left ≡ take k buf ++ rest → length rest + 1 ≤ length left
takes_some left rest buf k fits some takes =
    let long = ap length takes ∙ length-append (take k buf) rest ∙ ap (λ n. n + length rest) (length-take-le k buf fits) in
    omega (arith, long, some)
