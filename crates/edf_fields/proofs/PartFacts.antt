-- Facts on parts of a file and texts of fields.
use Rattle.std.proofs.Common.{◌≡◌, ℕ, ◌+◌, ◌<◌, ◌≤◌, ◌≢◌, List, [], ◌∷◌, ◌++◌, length, get_or, take, arith, refl, ap, ◌∙◌, sym}
use Rattle.std.proofs.lemmas.Grind.{common_steps}
use Rattle.std.proofs.lemmas.List.{take_more}
use Rattle.edf_fields.specs.Parts.{part, text_of}

-- a space at the end doesn't count
pub text_of-space : (bs : List ℕ) → text_of (bs ++ 32 ∷ []) ≡ text_of bs
text_of-space [] = refl
text_of-space (c ∷ cs) = grind (arith, common_steps, text_of-space cs)

-- another byte at the end stays
pub text_of-other : (bs : List ℕ) (b : ℕ) → b ≢ 32 → text_of (bs ++ b ∷ []) ≡ bs ++ b ∷ []
text_of-other [] b h = grind (arith, common_steps)
text_of-other (c ∷ cs) b h = grind (arith, common_steps, text_of-other cs b h)

pub text_of-take-space : (xs : List ℕ) (i : ℕ) → i < length xs → get_or xs i 0 ≡ 32 → text_of (take (i + 1) xs) ≡ text_of (take i xs)
text_of-take-space xs i h e = ap text_of (take_more xs i 0 h ∙ ap (λ b. take i xs ++ b ∷ []) e) ∙ text_of-space (take i xs)

pub text_of-take-other : (xs : List ℕ) (i : ℕ) → i < length xs → get_or xs i 0 ≢ 32 → text_of (take (i + 1) xs) ≡ take (i + 1) xs
text_of-take-other xs i h e =
    ap text_of (take_more xs i 0 h) ∙ text_of-other (take i xs) (get_or xs i 0) e ∙ sym (take_more xs i 0 h)

-- a text is at most as long as its field
pub length-text_of : (bs : List ℕ) → length (text_of bs) ≤ length bs
length-text_of [] = omega arith
length-text_of (c ∷ cs) = grind (arith, common_steps, length-text_of cs)

-- a part of the first bytes is not changed by bytes behind them
pub part-append : (xs ys : List ℕ) (at n : ℕ) → at + n ≤ length xs → part (xs ++ ys) at n ≡ part xs at n
part-append xs ys at n h = grind (arith, common_steps)
