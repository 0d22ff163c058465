-- Lines of receipts have no end within, so a text of so many lines is cut in one way.
use Rattle.std.proofs.Common.{◌≡◌, ◌≢◌, ◌<◌, ◌^◌, ◌==◌, ◌&&◌, ◌/◌, ◌%◌, ℕ, zero, suc, Bool, true, false, not, List, [], ◌∷◌, ◌++◌, codes, length, drop, slice_index, refl, sym, ap, ◌∙◌, append_assoc, subst, arith}
use Rattle.std.specs.Fmt.{decimal}
use Rattle.std.specs.List.{flat_map, list_all}
use Rattle.std.specs.Str.Parse.{AllDigits}
use Rattle.std.proofs.lemmas.Bool.Decides.{nat_tests}
use Rattle.std.proofs.lemmas.Fmt.{decimal_is_IsNumeral}
use Rattle.std.proofs.lemmas.List.{append_cancel_left}
use Rattle.hex.specs.Hex.{encode_with, lower_digits}
use Rattle.edf_receipt.specs.Laws.{AreShort, IsShort, TextTellsLine}
use Rattle.edf_receipt.specs.Receipts.{file_line, file_name, file_words, version_line}
use Rattle.edf_receipt.specs.declared.file_line.FileLine.{FileLine}
use Rattle.edf_receipt.specs.declared.file_line.ReceiptFile.{ReceiptFile}
use Rattle.edf_receipt.specs.declared.file_line.ReceiptFile.TheVariants.{Original, Export, Part, Claim}

-- no byte ends a line
abbrev NoEnd : List ℕ → Type 0
NoEnd [] = Unit {0}
NoEnd (b ∷ bs) = (b ≢ 10) × NoEnd bs

both : (xs ys : List ℕ) → NoEnd xs → NoEnd ys → NoEnd (xs ++ ys)
both [] ys p q = q
both (x ∷ xs) ys p q = (p.0, both xs ys p.1 q)

both_hold : (a b : Bool) → (a && b) ≡ true → (a ≡ true) × (b ≡ true)
both_hold true b h = (refl, h)
both_hold false b h = absurd (let f : false ≡ true = h in cc)

other_byte : (b : ℕ) → not (b == 10) ≡ true → b ≢ 10
other_byte b h = grind (arith, nat_tests, h)

-- of a text that is written out
free : (bs : List ℕ) → list_all (λ b. not (b == 10)) bs ≡ true → NoEnd bs
free [] h = tt
free (b ∷ bs) h = let p = both_hold (not (b == 10)) (list_all (λ b. not (b == 10)) bs) h in (other_byte b p.0, free bs p.1)

digits : (cs : List ℕ) → AllDigits 10 cs → NoEnd cs
digits [] d = tt
digits (c ∷ cs) d = ((λ is. absurd (let small = subst (λ (b : ℕ). AllDigits 10 (b ∷ [])) is (d.0, tt) in omega (arith, small.0))), digits cs d.1)

at : (xs : List ℕ) (k : ℕ) → NoEnd xs → slice_index xs k ≢ 10
at [] k p = λ is. absurd (let n : 0 ≡ 10 = is in omega (arith, n))
at (x ∷ xs) zero p = p.0
at (x ∷ xs) (suc k) p = at xs k p.1

hex : (t bytes : List ℕ) → NoEnd t → NoEnd (encode_with t bytes)
unfolding encode_with
hex t [] p = tt
hex t (b ∷ bs) p = (at t (b / 16) p, (at t (b % 16) p, hex t bs p))

name_free : (file : ReceiptFile) → IsShort file → NoEnd (file_name file)
name_free Original short = free (codes "original") refl
name_free Export short = free (codes "export") refl
name_free (Part part) short = both (codes "part ") (decimal part) (free (codes "part ") refl) (digits (decimal part) (decimal_is_IsNumeral part short).0.1)
name_free Claim short = free (codes "claim") refl

words_free : (line : FileLine) → IsShort line.file → line.digested.bytes < 2 ^ 64 → NoEnd (file_words line)
unfolding file_words
words_free line short small =
    both (file_name line.file) _ (name_free line.file short)
    (both (codes " sha256 ") _ (free (codes " sha256 ") refl)
    (both (encode_with lower_digits line.digested.sha256) _ (hex lower_digits line.digested.sha256 (free lower_digits refl))
    (both (codes " bytes ") _ (free (codes " bytes ") refl) (digits (decimal line.digested.bytes) (decimal_is_IsNumeral line.digested.bytes small).0.1))))

-- a line that is taken off in front
cut : (xs ys r s : List ℕ) → NoEnd xs → NoEnd ys → xs ++ (10 ∷ r) ≡ ys ++ (10 ∷ s) → r ≡ s
cut [] [] r s p q e = ap (drop 1) e
cut [] (y ∷ ys) r s p q e = absurd (q.0 (sym (ap (λ l. slice_index l 0) e)))
cut (x ∷ xs) [] r s p q e = absurd (p.0 (ap (λ l. slice_index l 0) e))
cut (x ∷ xs) (y ∷ ys) r s p q e = cut xs ys r s p.1 q.1 (ap (drop 1) e)

opened : (line : FileLine) (lines : List FileLine) (rest : List ℕ) → flat_map file_line (line ∷ lines) ++ rest ≡ file_words line ++ (10 ∷ (flat_map file_line lines ++ rest))
opened line lines rest = append_assoc (file_line line) (flat_map file_line lines) rest ∙ append_assoc (file_words line) (10 ∷ []) (flat_map file_line lines ++ rest)

all_cut : (files others : List FileLine) (line other : List ℕ) → length files ≡ length others → AreShort files → AreShort others
    → flat_map file_line files ++ line ≡ flat_map file_line others ++ other → line ≡ other
all_cut [] [] line other n p q e = e
all_cut [] (g ∷ gs) line other n p q e = absurd (omega (arith, n))
all_cut (f ∷ fs) [] line other n p q e = absurd (omega (arith, n))
all_cut (f ∷ fs) (g ∷ gs) line other n p q e =
    all_cut fs gs line other (omega (arith, n)) p.1 q.1
    (cut (file_words f) (file_words g) (flat_map file_line fs ++ line) (flat_map file_line gs ++ other) (words_free f p.0.0 p.0.1) (words_free g q.0.0 q.0.1)
    (sym (opened f fs line) ∙ e ∙ opened g gs other))

pub text_tells_line : TextTellsLine
text_tells_line version files others line other n p q e = all_cut files others line other n p q (append_cancel_left (version_line version) _ _ e)
