-- What is written of a header tells its layout.
use Rattle.std.proofs.Common.{◌≡◌, ◌⊎◌, inl, inr, ℕ, ℤ, zero, suc, Bool, true, false, cond, ◌==◌, ◌||◌, nat_lt, ◌+◌, ◌≤◌, List, [], ◌∷◌, length, map, filter, take, drop, arith, refl, ap, subst, lt-ltb}
use Rattle.std.specs.List.{slice_split, onto_first, list_all, position_or_len}
use Rattle.std.proofs.lemmas.Bool.Decides.{nat_tests}
use Rattle.edf_fields.specs.Parts.{text_of}
use Rattle.edf_fields.specs.texts.Numbers.{AreDigits, IsDecimal, has_minus, unsigned, before_dot, behind_dot, SpellsWhole, SpellsDecimal}
use Rattle.edf_fields.specs.texts.Printable.{IsPrintable}
use Rattle.edf_layout.specs.Spaces.{is_other, spaces_of}
use Rattle.edf_layout.proofs.CutLineFacts.{High, Shown, sum}

bool-cases : (b : Bool) → (b ≡ true) ⊎ (b ≡ false)
bool-cases true = inl refl
bool-cases false = inr refl

-- printable bytes, and parts of them
pub shown-all : (bs : List ℕ) → IsPrintable bs → Shown bs
shown-all [] h = tt
shown-all (b ∷ bs) h = (h 0 0 (omega arith), shown-all bs (λ k d low. h (suc k) d (omega arith)))

shown-cond : (t : Bool) (bs : List ℕ) → Shown bs → Shown (cond t [] bs)
shown-cond true bs h = tt
shown-cond false bs h = h

pub shown-text : (bs : List ℕ) → Shown bs → Shown (text_of bs)
shown-text [] h = tt
shown-text (b ∷ bs) h = shown-cond (list_all (λ b. b == 32) (b ∷ bs)) (b ∷ text_of bs) (h.0, shown-text bs h.1)

pub shown-take : (n : ℕ) (bs : List ℕ) → Shown bs → Shown (take n bs)
shown-take zero bs h = tt
shown-take (suc n) [] h = tt
shown-take (suc n) (b ∷ bs) h = (h.0, shown-take n bs h.1)

-- the bytes of numbers
high-all : (ds : List ℕ) → AreDigits ds → High ds
high-all [] h = tt
high-all (d ∷ ds) h = ((let digit = h 0 (omega arith) in omega (arith, digit)), high-all ds (λ k low. h (suc k) (omega arith)))

-- a sign, and what stands behind it
high-behind : (t : Bool) (c : ℕ) (cs : List ℕ) → High (cond t cs (c ∷ cs)) → (t ≡ true → 43 ≤ c) → High (c ∷ cs)
high-behind true c cs h sign = (sign refl, h)
high-behind false c cs h sign = h

high-signed : (t : List ℕ) → High (unsigned t) → High t
high-signed [] h = tt
high-signed (c ∷ cs) h = high-behind (has_minus (c ∷ cs) || (c == 43)) c cs h (signs c)
  where
    signs : (c : ℕ) → ((c == 45) || (c == 43)) ≡ true → 43 ≤ c
    signs c h = grind (arith, nat_tests)

-- digits with a dot among them
high-decimal-text : (u : List ℕ) → High (before_dot u) → High (behind_dot u) → High u
high-decimal-text [] h k = tt
high-decimal-text (c ∷ cs) h k = elim (bool-cases (c == 46)) [
  | inl dot ↦ ((dot-high c dot), subst High (behind-here c cs dot) k)
  | inr none ↦
      let first : High (c ∷ before_dot cs) = subst High (before-more c cs none) h in
      (first.0, high-decimal-text cs first.1 (subst High (behind-more c cs none) k))
]
  where
    dot-high : (c : ℕ) → (c == 46) ≡ true → 43 ≤ c
    dot-high c h = grind (arith, nat_tests)

    behind-here : (c : ℕ) (cs : List ℕ) → (c == 46) ≡ true → behind_dot (c ∷ cs) ≡ cs
    behind-here c cs h = rw h refl

    before-more : (c : ℕ) (cs : List ℕ) → (c == 46) ≡ false → before_dot (c ∷ cs) ≡ c ∷ before_dot cs
    before-more c cs h = rw h (ap (λ n. take n (c ∷ cs)) (let e : 1 + position_or_len (λ b. b == 46) cs ≡ suc (position_or_len (λ b. b == 46) cs) = omega arith in e))

    behind-more : (c : ℕ) (cs : List ℕ) → (c == 46) ≡ false → behind_dot (c ∷ cs) ≡ behind_dot cs
    behind-more c cs h = rw h (ap (λ n. drop n (c ∷ cs)) (let e : 1 + position_or_len (λ b. b == 46) cs + 1 ≡ suc (position_or_len (λ b. b == 46) cs + 1) = omega arith in e))

pub high-whole : (field : List ℕ) (v : ℤ) → SpellsWhole (text_of field) v → High (text_of field)
high-whole field v h = high-signed (text_of field) (high-all (unsigned (text_of field)) h.0)

pub high-number : (field : List ℕ) (v : ℤ) → SpellsDecimal 7 (text_of field) v → High (text_of field)
high-number field v h =
    let u = unsigned (text_of field) in
    let is : IsDecimal u = h.0 in
    high-signed (text_of field) (high-decimal-text u (high-all (before_dot u) is.0) (high-all (behind_dot u) is.1))

-- how many stretches of spaces a text has, and how long they are
onto-sum : (b : ℕ) (ps : List (List ℕ)) → sum (map length (onto_first b ps)) ≤ suc (sum (map length ps))
onto-sum b [] = omega arith
onto-sum b (p ∷ ps) = omega arith

sum-split : (t : List ℕ) → sum (map length (slice_split is_other t)) ≤ length t
sum-split [] = omega arith
sum-split (b ∷ bs) =
    let less = sum-split bs in
    let more = onto-sum b (slice_split is_other bs) in
    sides (is_other b) (slice_split is_other bs) (onto_first b (slice_split is_other bs)) (length bs) less more
  where
    sides : (t : Bool) (ps qs : List (List ℕ)) (n : ℕ) → sum (map length ps) ≤ n → sum (map length qs) ≤ suc (sum (map length ps)) → sum (map length (cond t ([] ∷ ps) qs)) ≤ suc n
    sides true ps qs n less more = omega arith
    sides false ps qs n less more = omega arith

-- those that aren't 0
abbrev kept : List ℕ → List ℕ
kept ns = filter (λ n. nat_lt 0 n) ns

kept-some : (n : ℕ) (ns : List ℕ) → kept (suc n ∷ ns) ≡ suc n ∷ kept ns
kept-some n ns = rw (lt-ltb 0 (suc n) (omega arith)) refl

sum-kept : (ns : List ℕ) → sum (kept ns) ≤ sum ns
sum-kept [] = omega arith
sum-kept (zero ∷ ns) = let less = sum-kept ns in omega arith
sum-kept (suc n ∷ ns) = let less = sum-kept ns in let is = ap sum (kept-some n ns) in omega (arith, is, less)

length-kept : (ns : List ℕ) → length (kept ns) ≤ sum ns
length-kept [] = omega arith
length-kept (zero ∷ ns) = let less = length-kept ns in omega arith
length-kept (suc n ∷ ns) = let less = length-kept ns in let is = ap length (kept-some n ns) in omega (arith, is, less)

pub spaces-small : (t : List ℕ) → (sum (spaces_of t) ≤ length t) × (length (spaces_of t) ≤ length t)
unfolding spaces_of
spaces-small t =
    let less = sum-split t in
    let one = sum-kept (map length (slice_split is_other t)) in
    let two = length-kept (map length (slice_split is_other t)) in
    (omega arith, omega arith)
