-- Lines, words and numbers that stand one behind the other are cut apart in one way.
use Rattle.std.proofs.Common.{◌≡◌, ◌≢◌, ◌⊎◌, inl, inr, ℕ, Bool, true, false, ◌+◌, ◌-◌, ◌<◌, ◌≤◌, ◌^◌, List, [], ◌∷◌, ◌++◌, length, codes, arith, refl, ap, ◌∙◌, sym, subst, append_assoc, lit<, lt-ltb}
use Rattle.std.specs.Fmt.{decimal}
use Rattle.std.specs.List.{flat_map}
use Rattle.std.specs.Char.{digit_value}
use Rattle.std.specs.Str.Parse.{AllDigits}
use Rattle.std.proofs.lemmas.Bool.{cases_lt}
use Rattle.std.proofs.lemmas.Bool.Decides.{nat_tests}
use Rattle.std.proofs.lemmas.Fmt.{decimal_is_IsNumeral, decimal_injective}
use Rattle.std.proofs.lemmas.List.{append_cancel_left}
use Rattle.edf_verdict.specs.Quotes.{is_plain, quoted_byte, with_quoted}
use Rattle.edf_layout.specs.HeadTexts.{word_line, spaces_text, spaces_line, added_line}

-- each byte is a sign, a dot or a digit, or a larger one
abbrev pub High : List ℕ → Type 0
High [] = Unit {0}
High (b ∷ bs) = (43 ≤ b) × High bs

-- each byte is printable
abbrev pub Shown : List ℕ → Type 0
Shown [] = Unit {0}
Shown (b ∷ bs) = ((32 ≤ b) × (b ≤ 126)) × Shown bs

pub cut-high : (a b : List ℕ) (p q : ℕ) (s t : List ℕ) → High a → High b → p < 43 → q < 43 → a ++ p ∷ s ≡ b ++ q ∷ t → (a ≡ b) × (p ≡ q) × (s ≡ t)
cut-high [] [] p q s t h k low less e = (refl, cc, cc)
cut-high [] (y ∷ ys) p q s t h k low less e = absurd (let z : p ≡ y = cc in let high = k.0 in omega arith)
cut-high (x ∷ xs) [] p q s t h k low less e = absurd (let z : x ≡ q = cc in let high = h.0 in omega arith)
cut-high (x ∷ xs) (y ∷ ys) p q s t h k low less e =
    let first : x ≡ y = cc in
    let rest : xs ++ p ∷ s ≡ ys ++ q ∷ t = cc in
    let more = cut-high xs ys p q s t h.1 k.1 low less rest in
    (ap (λ c. c ∷ xs) first ∙ ap (λ r. y ∷ r) more.0, more.1, more.2)

-- a number, and a word that begins with a space
pub cut-word : (a b word s t : List ℕ) → High a → High b → a ++ ((32 ∷ word) ++ s) ≡ b ++ ((32 ∷ word) ++ t) → (a ≡ b) × (s ≡ t)
cut-word a b word s t h k e =
    let more = cut-high a b 32 32 (word ++ s) (word ++ t) h k (lit< tt) (lit< tt) e in
    (more.0, append_cancel_left word s t more.2)

-- a number, and a space
pub cut-space : (a b s t : List ℕ) → High a → High b → a ++ 32 ∷ s ≡ b ++ 32 ∷ t → (a ≡ b) × (s ≡ t)
cut-space a b s t h k e = let more = cut-high a b 32 32 s t h k (lit< tt) (lit< tt) e in (more.0, more.2)

-- a text without control bytes, and the end of its line
pub cut-end : (a b s t : List ℕ) → Shown a → Shown b → a ++ 10 ∷ s ≡ b ++ 10 ∷ t → (a ≡ b) × (s ≡ t)
cut-end [] [] s t h k e = (refl, cc)
cut-end [] (y ∷ ys) s t h k e = absurd (let z : 10 ≡ y = cc in let high = k.0.0 in omega arith)
cut-end (x ∷ xs) [] s t h k e = absurd (let z : x ≡ 10 = cc in let high = h.0.0 in omega arith)
cut-end (x ∷ xs) (y ∷ ys) s t h k e =
    let first : x ≡ y = cc in
    let rest : xs ++ 10 ∷ s ≡ ys ++ 10 ∷ t = cc in
    let more = cut-end xs ys s t h.1 k.1 rest in
    (ap (λ c. c ∷ xs) first ∙ ap (λ r. y ∷ r) more.0, more.1)

word-flat : (w a x : List ℕ) → word_line w a ++ x ≡ w ++ (32 ∷ (a ++ (10 ∷ x)))
unfolding word_line
word-flat w a x = append_assoc w (32 ∷ (a ++ (10 ∷ []))) x ∙ ap (λ r. w ++ (32 ∷ r)) (append_assoc a (10 ∷ []) x)

tails-same : (c d : ℕ) (xs ys : List ℕ) → c ∷ xs ≡ d ∷ ys → xs ≡ ys
tails-same c d xs ys e = cc

pub word-cut : (w a b x y : List ℕ) → Shown a → Shown b → word_line w a ++ x ≡ word_line w b ++ y → (a ≡ b) × (x ≡ y)
word-cut w a b x y h k e =
    cut-end a b x y h k (tails-same 32 32 _ _ (append_cancel_left w (32 ∷ (a ++ (10 ∷ x))) (32 ∷ (b ++ (10 ∷ y))) (sym (word-flat w a x) ∙ e ∙ word-flat w b y)))

-- a decimal number
pub digit-high : (c : ℕ) → digit_value c < 10 → 43 ≤ c
digit-high c h = elim (cases_lt c 48) [
  | inl low ↦ absurd (let value : digit_value c ≡ 36 = rw (lt-ltb c 48 low) refl in omega (arith, value, h))
  | inr high ↦ omega arith
]

high-digits : (cs : List ℕ) → AllDigits 10 cs → High cs
high-digits [] d = tt
high-digits (c ∷ cs) d = (digit-high c d.0, high-digits cs d.1)

pub high-decimal : (n : ℕ) → n < 2 ^ 64 → High (decimal n)
high-decimal n small = high-digits (decimal n) (decimal_is_IsNumeral n small).0.1

-- numbers together
abbrev pub sum : List ℕ → ℕ
sum [] = 0
sum (n ∷ ns) = n + sum ns

-- numbers behind spaces, up to the end of the line
ends : (ns x : List ℕ) → (p : ℕ) × (s : List ℕ) × (spaces_text ns ++ (10 ∷ x) ≡ p ∷ s) × (p < 43)
ends [] x = (10, x, refl, lit< tt)
ends (n ∷ ns) x = (32, decimal n ++ spaces_text ns ++ (10 ∷ x), refl, lit< tt)

pub spaces-cut : (ns ms x y : List ℕ) → sum ns < 2 ^ 64 → sum ms < 2 ^ 64 → spaces_text ns ++ (10 ∷ x) ≡ spaces_text ms ++ (10 ∷ y) → (ns ≡ ms) × (x ≡ y)
spaces-cut [] [] x y h k e = (refl, cc)
spaces-cut [] (m ∷ ms) x y h k e = absurd (let ten : ℕ = 10 in let z : ten ≡ 32 = cc in omega (arith, z))
spaces-cut (n ∷ ns) [] x y h k e = absurd (let ten : ℕ = 10 in let z : 32 ≡ ten = cc in omega (arith, z))
spaces-cut (n ∷ ns) (m ∷ ms) x y h k e =
    let one = ends ns x in
    let two = ends ms y in
    let flat : decimal n ++ (spaces_text ns ++ (10 ∷ x)) ≡ decimal m ++ (spaces_text ms ++ (10 ∷ y)) =
    sym (append_assoc (decimal n) (spaces_text ns) (10 ∷ x)) ∙ tails-same 32 32 _ _ e ∙ append_assoc (decimal m) (spaces_text ms) (10 ∷ y) in
    let cut = cut-high (decimal n) (decimal m) one.0 two.0 one.1 two.1 (high-decimal n (omega arith)) (high-decimal m (omega arith)) one.3 two.3
    (ap (λ r. decimal n ++ r) (sym one.2) ∙ flat ∙ ap (λ r. decimal m ++ r) two.2) in
    let number : n ≡ m = decimal_injective n m (omega arith) (omega arith) cut.0 in
    let rest : spaces_text ns ++ (10 ∷ x) ≡ spaces_text ms ++ (10 ∷ y) = one.2 ∙ ap (λ p. p ∷ one.1) cut.1 ∙ ap (λ s. two.0 ∷ s) cut.2 ∙ sym two.2 in
    let more = spaces-cut ns ms x y (omega arith) (omega arith) rest in
    (ap (λ c. c ∷ ns) number ∙ ap (λ r. m ∷ r) more.0, more.1)

spaces-flat : (w ns x : List ℕ) → spaces_line w ns ++ x ≡ w ++ (codes " spaces" ++ (spaces_text ns ++ (10 ∷ x)))
unfolding spaces_line
spaces-flat w ns x = assoc w (codes " spaces") (spaces_text ns) x
  where
    assoc : (a b c x : List ℕ) → (a ++ (b ++ (c ++ (10 ∷ [])))) ++ x ≡ a ++ (b ++ (c ++ (10 ∷ x)))
    assoc a b c x = append_assoc a (b ++ (c ++ (10 ∷ []))) x ∙ ap (λ r. a ++ r) (append_assoc b (c ++ (10 ∷ [])) x ∙ ap (λ r. b ++ r) (append_assoc c (10 ∷ []) x))

pub spaces-line-cut : (w ns ms x y : List ℕ) → sum ns < 2 ^ 64 → sum ms < 2 ^ 64 → spaces_line w ns ++ x ≡ spaces_line w ms ++ y → (ns ≡ ms) × (x ≡ y)
spaces-line-cut w ns ms x y h k e =
    spaces-cut ns ms x y h k (append_cancel_left (codes " spaces") _ _ (append_cancel_left w (codes " spaces" ++ (spaces_text ns ++ (10 ∷ x))) (codes " spaces" ++ (spaces_text ms ++ (10 ∷ y)))
    (sym (spaces-flat w ns x) ∙ e ∙ spaces-flat w ms y)))

added-flat : (w : List ℕ) (n : ℕ) (ns x : List ℕ) → added_line w n ns ++ x ≡ w ++ (codes " added " ++ (decimal (length ns + 1 - n) ++ (10 ∷ x)))
unfolding added_line
added-flat w n ns x = assoc w (codes " added ") (decimal (length ns + 1 - n)) x
  where
    assoc : (a b c x : List ℕ) → (a ++ (b ++ (c ++ (10 ∷ [])))) ++ x ≡ a ++ (b ++ (c ++ (10 ∷ x)))
    assoc a b c x = append_assoc a (b ++ (c ++ (10 ∷ []))) x ∙ ap (λ r. a ++ r) (append_assoc b (c ++ (10 ∷ [])) x ∙ ap (λ r. b ++ r) (append_assoc c (10 ∷ []) x))

pub added-cut : (w : List ℕ) (n : ℕ) (ns ms x y : List ℕ) → length ns + 1 < 2 ^ 64 → length ms + 1 < 2 ^ 64 → added_line w n ns ++ x ≡ added_line w n ms ++ y → x ≡ y
added-cut w n ns ms x y h k e =
    (cut-high (decimal (length ns + 1 - n)) (decimal (length ms + 1 - n)) 10 10 x y (high-decimal (length ns + 1 - n) (omega arith)) (high-decimal (length ms + 1 - n) (omega arith)) (lit< tt) (lit< tt)
    (append_cancel_left (codes " added ") _ _ (append_cancel_left w (codes " added " ++ (decimal (length ns + 1 - n) ++ (10 ∷ x))) (codes " added " ++ (decimal (length ms + 1 - n) ++ (10 ∷ y)))
    (sym (added-flat w n ns x) ∙ e ∙ added-flat w n ms y)))).2

-- a quoted text of printable bytes
two-kinds : (b : ℕ) → (32 ≤ b) × (b ≤ 126) → (is_plain b ≡ true) ⊎ ((b ≡ 34) ⊎ (b ≡ 92))
two-kinds b shown = elim (sides (is_plain b)) [
  | inl holds ↦ inl holds
  | inr none ↦ inr (other b shown none)
]
  where
    sides : (t : Bool) → (t ≡ true) ⊎ (t ≡ false)
    sides true = inl refl
    sides false = inr refl

    other : (b : ℕ) → (32 ≤ b) × (b ≤ 126) → is_plain b ≡ false → (b ≡ 34) ⊎ (b ≡ 92)
    other b shown none = grind (arith, nat_tests, shown.0, shown.1, none)

-- how a byte is quoted
plain-quoted : (b : ℕ) → is_plain b ≡ true → quoted_byte b ≡ b ∷ []
plain-quoted b h = rw h refl

plain-other : (b : ℕ) → is_plain b ≡ true → (b ≢ 34) × (b ≢ 92)
plain-other b h = (
  (λ e. absurd (let z : is_plain 34 ≡ true = subst (λ c. is_plain c ≡ true) e h in let f : false ≡ true = z in cc)),
  (λ e. absurd (let z : is_plain 92 ≡ true = subst (λ c. is_plain c ≡ true) e h in let f : false ≡ true = z in cc)),
)

-- what a quoted byte begins with
abbrev Quoted : ℕ → Type 0
Quoted b = ((is_plain b ≡ true) × (quoted_byte b ≡ b ∷ [])) ⊎ (((b ≡ 34) × (quoted_byte b ≡ 92 ∷ 120 ∷ 50 ∷ 50 ∷ [])) ⊎ ((b ≡ 92) × (quoted_byte b ≡ 92 ∷ 120 ∷ 53 ∷ 99 ∷ [])))

quoted-cases : (b : ℕ) → (32 ≤ b) × (b ≤ 126) → Quoted b
quoted-cases b shown = elim (two-kinds b shown) [
  | inl holds ↦ inl (holds, plain-quoted b holds)
  | inr two ↦ elim two [
    | inl is ↦ inr (inl (is, ap quoted_byte is))
    | inr is ↦ inr (inr (is, ap quoted_byte is))
  ]
]

heads : (x y : ℕ) (xs ys : List ℕ) → x ∷ xs ≡ y ∷ ys → x ≡ y
heads x y xs ys e = cc

-- the first byte of a quoted text, and the end of it
not-end : (b : ℕ) (r s : List ℕ) → Quoted b → 34 ∷ s ≡ quoted_byte b ++ r → ⊥
not-end b r s (inl plain) e = (plain-other b plain.0).0 (let z : 34 ∷ s ≡ b ∷ r = e ∙ ap (λ q. q ++ r) plain.1 in let w : 34 ≡ b = heads 34 b s r z in sym w)
not-end b r s (inr (inl quote)) e = absurd (let z : 34 ∷ s ≡ 92 ∷ (120 ∷ 50 ∷ 50 ∷ r) = e ∙ ap (λ q. q ++ r) quote.1 in let w = heads 34 92 s (120 ∷ 50 ∷ 50 ∷ r) z in omega (arith, w))
not-end b r s (inr (inr slash)) e = absurd (let z : 34 ∷ s ≡ 92 ∷ (120 ∷ 53 ∷ 99 ∷ r) = e ∙ ap (λ q. q ++ r) slash.1 in let w = heads 34 92 s (120 ∷ 53 ∷ 99 ∷ r) z in omega (arith, w))

-- two quoted bytes
bytes-same : (b d : ℕ) (r s : List ℕ) → Quoted b → Quoted d → quoted_byte b ++ r ≡ quoted_byte d ++ s → (b ≡ d) × (r ≡ s)
bytes-same b d r s (inl p) (inl q) e =
    let z : b ∷ r ≡ d ∷ s = sym (ap (λ k. k ++ r) p.1) ∙ e ∙ ap (λ k. k ++ s) q.1 in (heads b d r s z, tails-same b d r s z)
bytes-same b d r s (inl p) (inr (inl q)) e = absurd ((plain-other b p.0).1 (heads b 92 r (120 ∷ 50 ∷ 50 ∷ s) (sym (ap (λ k. k ++ r) p.1) ∙ e ∙ ap (λ k. k ++ s) q.1)))
bytes-same b d r s (inl p) (inr (inr q)) e = absurd ((plain-other b p.0).1 (heads b 92 r (120 ∷ 53 ∷ 99 ∷ s) (sym (ap (λ k. k ++ r) p.1) ∙ e ∙ ap (λ k. k ++ s) q.1)))
bytes-same b d r s (inr (inl p)) (inl q) e = absurd ((plain-other d q.0).1 (sym (heads 92 d (120 ∷ 50 ∷ 50 ∷ r) s (sym (ap (λ k. k ++ r) p.1) ∙ e ∙ ap (λ k. k ++ s) q.1))))
bytes-same b d r s (inr (inr p)) (inl q) e = absurd ((plain-other d q.0).1 (sym (heads 92 d (120 ∷ 53 ∷ 99 ∷ r) s (sym (ap (λ k. k ++ r) p.1) ∙ e ∙ ap (λ k. k ++ s) q.1))))
bytes-same b d r s (inr (inl p)) (inr (inl q)) e =
    (p.0 ∙ sym q.0, (let z : 92 ∷ 120 ∷ 50 ∷ 50 ∷ r ≡ 92 ∷ 120 ∷ 50 ∷ 50 ∷ s = sym (ap (λ k. k ++ r) p.1) ∙ e ∙ ap (λ k. k ++ s) q.1 in append_cancel_left (92 ∷ 120 ∷ 50 ∷ 50 ∷ []) r s z))
bytes-same b d r s (inr (inr p)) (inr (inr q)) e =
    (p.0 ∙ sym q.0, (let z : 92 ∷ 120 ∷ 53 ∷ 99 ∷ r ≡ 92 ∷ 120 ∷ 53 ∷ 99 ∷ s = sym (ap (λ k. k ++ r) p.1) ∙ e ∙ ap (λ k. k ++ s) q.1 in append_cancel_left (92 ∷ 120 ∷ 53 ∷ 99 ∷ []) r s z))
bytes-same b d r s (inr (inl p)) (inr (inr q)) e =
    absurd (let z : 92 ∷ 120 ∷ 50 ∷ 50 ∷ r ≡ 92 ∷ 120 ∷ 53 ∷ 99 ∷ s = sym (ap (λ k. k ++ r) p.1) ∙ e ∙ ap (λ k. k ++ s) q.1 in
    let w = heads 50 53 (50 ∷ r) (99 ∷ s) (append_cancel_left (92 ∷ 120 ∷ []) (50 ∷ 50 ∷ r) (53 ∷ 99 ∷ s) z) in omega (arith, w))
bytes-same b d r s (inr (inr p)) (inr (inl q)) e =
    absurd (let z : 92 ∷ 120 ∷ 53 ∷ 99 ∷ r ≡ 92 ∷ 120 ∷ 50 ∷ 50 ∷ s = sym (ap (λ k. k ++ r) p.1) ∙ e ∙ ap (λ k. k ++ s) q.1 in
    let w = heads 53 50 (99 ∷ r) (50 ∷ s) (append_cancel_left (92 ∷ 120 ∷ []) (53 ∷ 99 ∷ r) (50 ∷ 50 ∷ s) z) in omega (arith, w))

quoted-cut : (a b x y : List ℕ) → Shown a → Shown b → flat_map quoted_byte a ++ (34 ∷ x) ≡ flat_map quoted_byte b ++ (34 ∷ y) → (a ≡ b) × (x ≡ y)
quoted-cut [] [] x y h k e = (refl, tails-same 34 34 x y e)
quoted-cut [] (d ∷ ds) x y h k e = absurd (not-end d (flat_map quoted_byte ds ++ (34 ∷ y)) x (quoted-cases d k.0) (e ∙ append_assoc (quoted_byte d) (flat_map quoted_byte ds) (34 ∷ y)))
quoted-cut (c ∷ cs) [] x y h k e = absurd (not-end c (flat_map quoted_byte cs ++ (34 ∷ x)) y (quoted-cases c h.0) (sym e ∙ append_assoc (quoted_byte c) (flat_map quoted_byte cs) (34 ∷ x)))
quoted-cut (c ∷ cs) (d ∷ ds) x y h k e =
    let one = bytes-same c d (flat_map quoted_byte cs ++ (34 ∷ x)) (flat_map quoted_byte ds ++ (34 ∷ y)) (quoted-cases c h.0) (quoted-cases d k.0)
    (sym (append_assoc (quoted_byte c) (flat_map quoted_byte cs) (34 ∷ x)) ∙ e ∙ append_assoc (quoted_byte d) (flat_map quoted_byte ds) (34 ∷ y)) in
    let more = quoted-cut cs ds x y h.1 k.1 one.1 in
    (ap (λ z. z ∷ cs) one.0 ∙ ap (λ r. d ∷ r) more.0, more.1)

quoted-flat : (w a x : List ℕ) → (with_quoted w a ++ (10 ∷ [])) ++ x ≡ w ++ (34 ∷ (flat_map quoted_byte a ++ (34 ∷ 10 ∷ x)))
unfolding with_quoted
quoted-flat w a x = assoc w (flat_map quoted_byte a) x
  where
    assoc : (w q x : List ℕ) → ((w ++ (34 ∷ (q ++ (34 ∷ [])))) ++ (10 ∷ [])) ++ x ≡ w ++ (34 ∷ (q ++ (34 ∷ 10 ∷ x)))
    assoc w q x =
        append_assoc (w ++ (34 ∷ (q ++ (34 ∷ [])))) (10 ∷ []) x
        ∙ append_assoc w (34 ∷ (q ++ (34 ∷ []))) (10 ∷ x)
        ∙ ap (λ r. w ++ (34 ∷ r)) (append_assoc q (34 ∷ []) (10 ∷ x))

pub label-cut : (w a b x y : List ℕ) → Shown a → Shown b → (with_quoted w a ++ (10 ∷ [])) ++ x ≡ (with_quoted w b ++ (10 ∷ [])) ++ y → (a ≡ b) × (x ≡ y)
label-cut w a b x y h k e =
    let cut = quoted-cut a b (10 ∷ x) (10 ∷ y) h k
    (tails-same 34 34 _ _ (append_cancel_left w (34 ∷ (flat_map quoted_byte a ++ (34 ∷ 10 ∷ x))) (34 ∷ (flat_map quoted_byte b ++ (34 ∷ 10 ∷ y))) (sym (quoted-flat w a x) ∙ e ∙ quoted-flat w b y))) in
    (cut.0, tails-same 10 10 x y cut.1)
