-- A text is its subfields and the spaces between them.
use Rattle.std.proofs.Common.{◌≡◌, ◌≢◌, ℕ, zero, suc, true, false, ◌+◌, ◌<◌, ◌≤◌, List, [], ◌∷◌, ◌++◌, length, get_or, map, filter, nat_lt, ◌-◌, drop, append_assoc, replicate, arith, refl, ap, ◌∙◌, sym, lt-ltb, All}
use Rattle.std.specs.List.{slice_split}
use Rattle.std.proofs.lemmas.Bool.Decides.{nat_tests}
use Rattle.std.proofs.lemmas.List.{length-replicate, drop_more, append-nil}
use Rattle.std.proofs.lemmas.List.Splits.{slice_split_at, slice_split_none, slice_split-cons_yes}
use Rattle.edf_fields.specs.texts.Subfields.{IsSubfield, HasSubfields}
use Rattle.edf_layout.specs.Spaces.{is_other, spaces_of, stretch}
use Rattle.edf_layout.proofs.FieldFacts.{nothing-behind}

other : (b : ℕ) → b ≢ 32 → is_other b ≡ true
other b h = grind (arith, nat_tests)

-- another byte in front doesn't count
pub other-first : (b : ℕ) (t : List ℕ) → is_other b ≡ true → spaces_of (b ∷ t) ≡ spaces_of t
unfolding spaces_of
other-first b t h = ap (λ parts. filter (λ n. nat_lt 0 n) (map length parts)) (slice_split-cons_yes is_other b t h)

-- nor do the bytes of a subfield
pub behind-subfield : (s t : List ℕ) → All (λ b. b ≢ 32) s → spaces_of (s ++ t) ≡ spaces_of t
behind-subfield [] t h = refl
behind-subfield (b ∷ bs) t h =
    other-first b (bs ++ t) (other b (h 0 0 (omega arith))) ∙ behind-subfield bs t (λ k d low. h (suc k) d (omega arith))

spaces-alone : (n : ℕ) → All (λ b. is_other b ≡ false) (replicate n 32)
spaces-alone zero k d low = absurd (omega arith)
spaces-alone (suc n) zero d low = refl
spaces-alone (suc n) (suc k) d low = spaces-alone n k d (omega arith)

-- spaces, and another byte behind them
pub run-first : (n b : ℕ) (t : List ℕ) → 0 < n → is_other b ≡ true → spaces_of (replicate n 32 ++ b ∷ t) ≡ n ∷ spaces_of t
unfolding spaces_of
run-first n b t some h =
    ap (λ parts. filter (λ n. nat_lt 0 n) (map length parts)) (slice_split_at is_other (replicate n 32) b t (spaces-alone n) h)
    ∙ ap (λ k. filter (λ n. nat_lt 0 n) (k ∷ map length (slice_split is_other t))) (length-replicate n 32)
    ∙ kept n (map length (slice_split is_other t)) some
  where
    kept : (n : ℕ) (ns : List ℕ) → 0 < n → filter (λ n. nat_lt 0 n) (n ∷ ns) ≡ n ∷ filter (λ n. nat_lt 0 n) ns
    kept n ns some = rw (lt-ltb 0 n some) refl

-- a text with a subfield begins with another byte than a space
begins : (t s : List ℕ) (xs : List (List ℕ)) → HasSubfields t (s ∷ xs) → (b : ℕ) × (rest : List ℕ) × (t ≡ b ∷ rest) × (is_other b ≡ true)
begins t [] [] h = absurd (let some = h.0.0 in omega arith)
begins t (b ∷ bs) [] h = (b, bs, h.1, other b (h.0.1 0 0 (omega arith)))
begins t [] (next ∷ more) h = absurd (let some = h.0.0 in omega arith)
begins t (b ∷ bs) (next ∷ more) h = (b, bs ++ (replicate h.1 32 ++ h.2), h.4, other b (h.0.1 0 0 (omega arith)))

-- the spaces behind the first subfield, and those behind the others
pub spaces-more : (t s next : List ℕ) (more : List (List ℕ)) (n : ℕ) (rest : List ℕ) → IsSubfield s → 0 < n → t ≡ s ++ (replicate n 32 ++ rest)
    → HasSubfields rest (next ∷ more) → spaces_of t ≡ n ∷ spaces_of rest
spaces-more t s next more n rest h some whole joined =
    let first = begins rest next more joined in
    ap spaces_of whole
    ∙ behind-subfield s (replicate n 32 ++ rest) h.1
    ∙ ap (λ r. spaces_of (replicate n 32 ++ r)) first.2
    ∙ run-first n first.0 first.1 some first.3
    ∙ ap (λ ns. n ∷ ns) (sym (ap spaces_of first.2 ∙ other-first first.0 first.1 first.3))

parts-same : (n m : ℕ) (ns ms : List ℕ) → n ∷ ns ≡ m ∷ ms → (n ≡ m) × (ns ≡ ms)
parts-same n m ns ms h = (cc, cc)

-- two texts with the same subfields and the same spaces between them are the same
pub spaced-same : (xs : List (List ℕ)) (t u : List ℕ) → HasSubfields t xs → HasSubfields u xs → spaces_of t ≡ spaces_of u → t ≡ u
spaced-same [] t u h k same = h ∙ sym k
spaced-same (s ∷ []) t u h k same = h.1 ∙ sym k.1
spaced-same (s ∷ next ∷ more) t u h k same =
    let left = spaces-more t s next more h.1 h.2 h.0 h.3 h.4 h.5 in
    let right = spaces-more u s next more k.1 k.2 k.0 k.3 k.4 k.5 in
    let parts = parts-same h.1 k.1 (spaces_of h.2) (spaces_of k.2) (sym left ∙ same ∙ right) in
    let rest = spaced-same (next ∷ more) h.2 k.2 h.5 k.5 parts.1 in
    h.4 ∙ ap (λ n. s ++ (replicate n 32 ++ h.2)) parts.0 ∙ ap (λ r. s ++ (replicate k.1 32 ++ r)) rest ∙ sym k.4

-- spaces alone
run-alone : (n : ℕ) → spaces_of (replicate n 32) ≡ stretch n
unfolding spaces_of
run-alone n =
    ap (λ parts. filter (λ n. nat_lt 0 n) (map length parts)) (slice_split_none is_other (replicate n 32) (spaces-alone n))
    ∙ ap (λ k. filter (λ n. nat_lt 0 n) (k ∷ [])) (length-replicate n 32)

stretch-some : (n : ℕ) → stretch (suc n) ≡ suc n ∷ []
stretch-some n = rw (lt-ltb 0 (suc n) (omega arith)) refl

-- a stretch of spaces, if there is one, and another byte behind it
stretch-first : (n b : ℕ) (t : List ℕ) → is_other b ≡ true → spaces_of (replicate n 32 ++ b ∷ t) ≡ stretch n ++ spaces_of t
stretch-first zero b t h = other-first b t h
stretch-first (suc n) b t h = run-first (suc n) b t (omega arith) h ∙ ap (λ c. c ++ spaces_of t) (sym (stretch-some n))

pub space-step : (text : List ℕ) (from at : ℕ) → from ≤ at → at < length text → get_or text at 0 ≡ 32 → drop from text ≡ replicate (at - from) 32 ++ drop at text
    → drop from text ≡ replicate (at + 1 - from) 32 ++ drop (at + 1) text
space-step text from at low within byte run =
    run
    ∙ ap (λ r. replicate (at - from) 32 ++ r) (drop_more text at 0 within ∙ ap (λ b. b ∷ drop (at + 1) text) byte)
    ∙ shift (at - from) (drop (at + 1) text)
    ∙ ap (λ n. replicate n 32 ++ drop (at + 1) text) (let e : suc (at - from) ≡ at + 1 - from = omega arith in e)
  where
    shift : (n : ℕ) (t : List ℕ) → replicate n 32 ++ 32 ∷ t ≡ replicate (suc n) 32 ++ t
    shift zero t = refl
    shift (suc n) t = ap (λ r. 32 ∷ r) (shift n t)

pub other-step : (text : List ℕ) (from at : ℕ) (counts more : List ℕ) → at < length text → get_or text at 0 ≢ 32 → drop from text ≡ replicate (at - from) 32 ++ drop at text
    → more ≡ counts ++ stretch (at - from) → counts ++ spaces_of (drop from text) ≡ spaces_of text → more ++ spaces_of (drop (at + 1) text) ≡ spaces_of text
other-step text from at counts more within byte run pushed found =
    let left : spaces_of (drop from text) ≡ stretch (at - from) ++ spaces_of (drop (at + 1) text) =
    ap spaces_of (run ∙ ap (λ r. replicate (at - from) 32 ++ r) (drop_more text at 0 within))
    ∙ stretch-first (at - from) (get_or text at 0) (drop (at + 1) text) (other (get_or text at 0) byte) in
    ap (λ c. c ++ spaces_of (drop (at + 1) text)) pushed
    ∙ append_assoc counts (stretch (at - from)) (spaces_of (drop (at + 1) text))
    ∙ ap (λ r. counts ++ r) (sym left) ∙ found

pub begin-run : (text : List ℕ) (at : ℕ) → drop at text ≡ replicate (at - at) 32 ++ drop at text
begin-run text at = ap (λ n. replicate n 32 ++ drop at text) (let e : 0 ≡ at - at = omega arith in e)

pub end-run : (text : List ℕ) (from at : ℕ) (counts more : List ℕ) → length text ≤ at → at ≤ length text → drop from text ≡ replicate (at - from) 32 ++ drop at text
    → more ≡ counts ++ stretch (length text - from) → counts ++ spaces_of (drop from text) ≡ spaces_of text → more ≡ spaces_of text
end-run text from at counts more out within run pushed found =
    let is : at ≡ length text = omega arith in
    let left : spaces_of (drop from text) ≡ stretch (length text - from) =
    ap spaces_of (run ∙ ap (λ r. replicate (at - from) 32 ++ r) (nothing-behind text at out) ∙ append-nil (replicate (at - from) 32) ∙ ap (λ n. replicate (n - from) 32) is)
    ∙ run-alone (length text - from) in
    pushed ∙ ap (λ r. counts ++ r) (sym left) ∙ found
