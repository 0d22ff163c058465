-- The line of a TAL tells its layout.
use Rattle.std.proofs.Common.{◌≡◌, ◌≢◌, ℕ, ℤ, pos, negsuc, suc, ◌<◌, ◌≤◌, ◌^◌, unsigned_abs, List, [], ◌∷◌, ◌++◌, Option, Some, None, codes, drop, arith, refl, ap, ◌∙◌, sym, subst, append_assoc, lit<}
use Rattle.std.specs.Fmt.{decimal, signed_decimal}
use Rattle.std.specs.Char.{digit_value}
use Rattle.std.specs.Str.Parse.{AllDigits, digits_value}
use Rattle.std.proofs.lemmas.Fmt.{decimal_is_IsNumeral_wide}
use Rattle.std.proofs.lemmas.List.{append_cancel_left}
use Rattle.edf_verdict.specs.NoteTimes.{duration_text, note_times}
use Rattle.edf_layout.specs.HeadTexts.{spaces_text}
use Rattle.edf_layout.specs.body.BodyLayouts.{TalContent, KeepsTime, SaysNothing, Annotates, PlacedTal}
use Rattle.edf_layout.specs.body.OddLanes.{onset_words, duration_words, content_words, tal_line, tal_lines}
use Rattle.edf_layout.proofs.CutLineFacts.{High, cut-high, cut-word, cut-space, digit-high}

-- ---- numbers

digits-high : (ds : List ℕ) → AllDigits 10 ds → High ds
digits-high [] d = tt
digits-high (c ∷ cs) d = (digit-high c d.0, digits-high cs d.1)

pub wide-high : (n : ℕ) → n < 10 ^ 64 → High (decimal n)
wide-high n small = digits-high (decimal n) (decimal_is_IsNumeral_wide n small).0.1

pub wide-same : (m n : ℕ) → m < 10 ^ 64 → n < 10 ^ 64 → decimal m ≡ decimal n → m ≡ n
wide-same m n p q e = sym (decimal_is_IsNumeral_wide m p).1 ∙ ap (digits_value 10) e ∙ (decimal_is_IsNumeral_wide n q).1

-- a text that begins with a letter or a minus is no decimal number
not-decimal : (c n : ℕ) (cs : List ℕ) → n < 10 ^ 64 → 10 ≤ digit_value c → c ∷ cs ≡ decimal n → ⊥
not-decimal c n cs small large e =
    let digits : AllDigits 10 (c ∷ cs) = subst (AllDigits 10) (sym e) (decimal_is_IsNumeral_wide n small).0.1 in
    let first = digits.0 in
    omega (arith, first, large)

-- so many picoseconds
abbrev pub Near : ℤ → Type 0
Near v = unsigned_abs v < 10 ^ 64

pub signed-high : (v : ℤ) → Near v → High (signed_decimal v)
signed-high (pos n) near = wide-high n near
signed-high (negsuc n) near = (omega arith, wide-high (suc n) near)

pub signed-same : (v w : ℤ) → Near v → Near w → signed_decimal v ≡ signed_decimal w → v ≡ w
signed-same (pos m) (pos n) p q e = ap pos (wide-same m n p q e)
signed-same (pos m) (negsuc n) p q e = absurd (not-decimal 45 m (decimal (suc n)) p (omega arith) (sym e))
signed-same (negsuc m) (pos n) p q e = absurd (not-decimal 45 n (decimal (suc m)) q (omega arith) e)
signed-same (negsuc m) (negsuc n) p q e =
    let more : suc m ≡ suc n = wide-same (suc m) (suc n) p q (ap (drop 1) e) in
    ap negsuc (omega (arith, more))

-- the word of no duration is no number
none-signed : (v : ℤ) → Near v → codes "none" ≡ signed_decimal v → ⊥
none-signed (pos n) near e = not-decimal 110 n (codes "one") near (omega arith) e
none-signed (negsuc n) near e = (let z : 110 ≡ 45 = heads 110 45 (codes "one") (decimal (suc n)) e in omega (arith, z))
  where
    heads : (x y : ℕ) (xs ys : List ℕ) → x ∷ xs ≡ y ∷ ys → x ≡ y
    heads x y xs ys e = cc

abbrev pub NearIf : Option ℤ → Type 0
NearIf None = Unit {0}
NearIf (Some v) = Near v

none-high : High (codes "none")
none-high = (omega arith, (omega arith, (omega arith, (omega arith, tt))))

-- a duration, and a word that begins with a space, or the end of the line
pub duration-word : (d e : Option ℤ) (word s t : List ℕ) → NearIf d → NearIf e
    → duration_text d ++ ((32 ∷ word) ++ s) ≡ duration_text e ++ ((32 ∷ word) ++ t) → (d ≡ e) × (s ≡ t)
duration-word None None word s t h k same = (refl, (cut-word (codes "none") (codes "none") word s t none-high none-high same).1)
duration-word None (Some w) word s t h k same =
    absurd (none-signed w k (cut-space (codes "none") (signed_decimal w) (word ++ s) (codes "ps" ++ ((32 ∷ word) ++ t)) none-high (signed-high w k)
    (same ∙ append_assoc (signed_decimal w) (codes " ps") ((32 ∷ word) ++ t))).0)
duration-word (Some v) None word s t h k same =
    absurd (none-signed v h (sym (cut-space (signed_decimal v) (codes "none") (codes "ps" ++ ((32 ∷ word) ++ s)) (word ++ t) (signed-high v h) none-high
    (sym (append_assoc (signed_decimal v) (codes " ps") ((32 ∷ word) ++ s)) ∙ same)).0))
duration-word (Some v) (Some w) word s t h k same =
    let cut = cut-space (signed_decimal v) (signed_decimal w) (codes "ps" ++ ((32 ∷ word) ++ s)) (codes "ps" ++ ((32 ∷ word) ++ t)) (signed-high v h) (signed-high w k)
    (sym (append_assoc (signed_decimal v) (codes " ps") ((32 ∷ word) ++ s)) ∙ same ∙ append_assoc (signed_decimal w) (codes " ps") ((32 ∷ word) ++ t)) in
    (ap Some (signed-same v w h k cut.0), append_cancel_left (32 ∷ word) s t (append_cancel_left (codes "ps") ((32 ∷ word) ++ s) ((32 ∷ word) ++ t) cut.1))

none-or-some : (w : ℤ) (s t : List ℕ) → Near w → codes "none" ++ 10 ∷ s ≡ (signed_decimal w ++ codes " ps") ++ 10 ∷ t → ⊥
none-or-some w s t near e =
    none-signed w near (cut-high (codes "none") (signed_decimal w) 10 32 s (codes "ps" ++ 10 ∷ t) none-high (signed-high w near) (lit< tt) (lit< tt)
    (e ∙ append_assoc (signed_decimal w) (codes " ps") (10 ∷ t))).0

pub duration-end : (d e : Option ℤ) (s t : List ℕ) → NearIf d → NearIf e → duration_text d ++ 10 ∷ s ≡ duration_text e ++ 10 ∷ t → (d ≡ e) × (s ≡ t)
duration-end None None s t h k same = (refl, (cut-high (codes "none") (codes "none") 10 10 s t none-high none-high (lit< tt) (lit< tt) same).2)
duration-end None (Some w) s t h k same = absurd (none-or-some w s t k same)
duration-end (Some v) None s t h k same = absurd (none-or-some v t s h (sym same))
duration-end (Some v) (Some w) s t h k same =
    let cut = cut-space (signed_decimal v) (signed_decimal w) (codes "ps" ++ 10 ∷ s) (codes "ps" ++ 10 ∷ t) (signed-high v h) (signed-high w k)
    (sym (append_assoc (signed_decimal v) (codes " ps") (10 ∷ s)) ∙ same ∙ append_assoc (signed_decimal w) (codes " ps") (10 ∷ t)) in
    (ap Some (signed-same v w h k cut.0), append_cancel_left (codes "ps" ++ 10 ∷ []) s t cut.1)

-- ---- places

abbrev pub AllFew : List ℕ → Type 0
AllFew [] = Unit {0}
AllFew (n ∷ ns) = (n < 10 ^ 64) × AllFew ns

ends : (ns x : List ℕ) → (p : ℕ) × (s : List ℕ) × (spaces_text ns ++ (10 ∷ x) ≡ p ∷ s) × (p < 43)
ends [] x = (10, x, refl, lit< tt)
ends (n ∷ ns) x = (32, decimal n ++ spaces_text ns ++ (10 ∷ x), refl, lit< tt)

rest-same : (c d : ℕ) (xs ys : List ℕ) → c ∷ xs ≡ d ∷ ys → xs ≡ ys
rest-same c d xs ys e = cc

pub places-cut : (ns ms x y : List ℕ) → AllFew ns → AllFew ms → spaces_text ns ++ (10 ∷ x) ≡ spaces_text ms ++ (10 ∷ y) → (ns ≡ ms) × (x ≡ y)
places-cut [] [] x y h k e = (refl, cc)
places-cut [] (m ∷ ms) x y h k e = absurd (let ten : ℕ = 10 in let z : ten ≡ 32 = cc in omega (arith, z))
places-cut (n ∷ ns) [] x y h k e = absurd (let ten : ℕ = 10 in let z : 32 ≡ ten = cc in omega (arith, z))
places-cut (n ∷ ns) (m ∷ ms) x y h k e =
    let one = ends ns x in
    let two = ends ms y in
    let flat : decimal n ++ (spaces_text ns ++ (10 ∷ x)) ≡ decimal m ++ (spaces_text ms ++ (10 ∷ y)) =
    sym (append_assoc (decimal n) (spaces_text ns) (10 ∷ x)) ∙ rest-same 32 32 _ _ e ∙ append_assoc (decimal m) (spaces_text ms) (10 ∷ y) in
    let cut = cut-high (decimal n) (decimal m) one.0 two.0 one.1 two.1 (wide-high n h.0) (wide-high m k.0) one.3 two.3
    (ap (λ r. decimal n ++ r) (sym one.2) ∙ flat ∙ ap (λ r. decimal m ++ r) two.2) in
    let number : n ≡ m = wide-same n m h.0 k.0 cut.0 in
    let rest : spaces_text ns ++ (10 ∷ x) ≡ spaces_text ms ++ (10 ∷ y) = one.2 ∙ ap (λ p. p ∷ one.1) cut.1 ∙ ap (λ s. two.0 ∷ s) cut.2 ∙ sym two.2 in
    let more = places-cut ns ms x y h.1 k.1 rest in
    (ap (λ c. c ∷ ns) number ∙ ap (λ r. m ∷ r) more.0, more.1)

-- ---- what a TAL says

abbrev pub ContentFits : TalContent → Type 0
ContentFits (KeepsTime duration places) = NearIf duration × AllFew places
ContentFits (SaysNothing onset duration) = Near onset × NearIf duration
ContentFits (Annotates places) = AllFew places

first-same : (c d : ℕ) (xs ys : List ℕ) → c ∷ xs ≡ d ∷ ys → c ≡ d
first-same c d xs ys e = cc

content-end : TalContent → List ℕ → List ℕ
content-end (KeepsTime duration places) x = codes "time lasting " ++ (duration_text duration ++ (codes " annotations" ++ (spaces_text places ++ 10 ∷ x)))
content-end (SaysNothing onset duration) x = codes "no text at " ++ (signed_decimal onset ++ (codes " ps duration " ++ (duration_text duration ++ 10 ∷ x)))
content-end (Annotates places) x = codes "annotations" ++ (spaces_text places ++ 10 ∷ x)

content-flat : (c : TalContent) (x : List ℕ) → (content_words c ++ (10 ∷ [])) ++ x ≡ content-end c x
unfolding note_times content-end
content-flat (KeepsTime duration places) x = four (codes "time lasting ") (duration_text duration) (codes " annotations") (spaces_text places) x
  where
    four : (a b c d x : List ℕ) → ((a ++ (b ++ (c ++ d))) ++ (10 ∷ [])) ++ x ≡ a ++ (b ++ (c ++ (d ++ 10 ∷ x)))
    four a b c d x =
        append_assoc (a ++ (b ++ (c ++ d))) (10 ∷ []) x ∙ append_assoc a (b ++ (c ++ d)) (10 ∷ x)
        ∙ ap (λ r. a ++ r) (append_assoc b (c ++ d) (10 ∷ x) ∙ ap (λ r. b ++ r) (append_assoc c d (10 ∷ x)))
content-flat (SaysNothing onset duration) x = four (codes "no text at ") (signed_decimal onset) (codes " ps duration ") (duration_text duration) x
  where
    four : (a b c d x : List ℕ) → ((a ++ (b ++ (c ++ d))) ++ (10 ∷ [])) ++ x ≡ a ++ (b ++ (c ++ (d ++ 10 ∷ x)))
    four a b c d x =
        append_assoc (a ++ (b ++ (c ++ d))) (10 ∷ []) x ∙ append_assoc a (b ++ (c ++ d)) (10 ∷ x)
        ∙ ap (λ r. a ++ r) (append_assoc b (c ++ d) (10 ∷ x) ∙ ap (λ r. b ++ r) (append_assoc c d (10 ∷ x)))
content-flat (Annotates places) x = two (codes "annotations") (spaces_text places) x
  where
    two : (a b x : List ℕ) → ((a ++ b) ++ (10 ∷ [])) ++ x ≡ a ++ (b ++ 10 ∷ x)
    two a b x = append_assoc (a ++ b) (10 ∷ []) x ∙ append_assoc a b (10 ∷ x)

ends-cut : (c d : TalContent) (x y : List ℕ) → ContentFits c → ContentFits d → content-end c x ≡ content-end d y → (c ≡ d) × (x ≡ y)
unfolding content-end
ends-cut (KeepsTime a ns) (KeepsTime b ms) x y h k e =
    let one = duration-word a b (codes "annotations") (spaces_text ns ++ 10 ∷ x) (spaces_text ms ++ 10 ∷ y) h.0 k.0 (append_cancel_left (codes "time lasting ") _ _ e) in
    let two = places-cut ns ms x y h.1 k.1 one.1 in
    (ap (λ d. KeepsTime d ns) one.0 ∙ ap (KeepsTime b) two.0, two.1)
ends-cut (SaysNothing o a) (SaysNothing p b) x y h k e =
    let one = cut-word (signed_decimal o) (signed_decimal p) (codes "ps duration ") (duration_text a ++ 10 ∷ x) (duration_text b ++ 10 ∷ y) (signed-high o h.0) (signed-high p k.0)
    (append_cancel_left (codes "no text at ") _ _ e) in
    let two = duration-end a b x y h.1 k.1 one.1 in
    (ap (λ z. SaysNothing z a) (signed-same o p h.0 k.0 one.0) ∙ ap (SaysNothing p) two.0, two.1)
ends-cut (Annotates ns) (Annotates ms) x y h k e =
    let one = places-cut ns ms x y h k (append_cancel_left (codes "annotations") _ _ e) in
    (ap Annotates one.0, one.1)
ends-cut (KeepsTime a ns) (SaysNothing p b) x y h k e = absurd (let z = first-same 116 110 _ _ e in omega (arith, z))
ends-cut (KeepsTime a ns) (Annotates ms) x y h k e = absurd (let z = first-same 116 97 _ _ e in omega (arith, z))
ends-cut (SaysNothing o a) (KeepsTime b ms) x y h k e = absurd (let z = first-same 110 116 _ _ e in omega (arith, z))
ends-cut (SaysNothing o a) (Annotates ms) x y h k e = absurd (let z = first-same 110 97 _ _ e in omega (arith, z))
ends-cut (Annotates ns) (KeepsTime b ms) x y h k e = absurd (let z = first-same 97 116 _ _ e in omega (arith, z))
ends-cut (Annotates ns) (SaysNothing p b) x y h k e = absurd (let z = first-same 97 110 _ _ e in omega (arith, z))

-- ---- how it is spelled

-- digits, dots and signs, and not the word of a plain spelling
abbrev pub Spells : List ℕ → Type 0
Spells t = High t × (t ≡ codes "plain" → ⊥)

abbrev pub OnsetFits : Option (List ℕ) → Type 0
OnsetFits None = Unit {0}
OnsetFits (Some text) = Spells text

abbrev pub DurationFits : Option (List ℕ) → Type 0
DurationFits None = Unit {0}
DurationFits (Some []) = ⊥
DurationFits (Some (b ∷ bs)) = (b ≡ 21) × Spells bs

plain-high : High (codes "plain")
plain-high = (omega arith, (omega arith, (omega arith, (omega arith, (omega arith, tt)))))

onset-high : (o : Option (List ℕ)) → OnsetFits o → High (onset_words o)
onset-high None h = plain-high
onset-high (Some t) h = h.0

onset-same : (o p : Option (List ℕ)) → OnsetFits o → OnsetFits p → onset_words o ≡ onset_words p → o ≡ p
onset-same None None h k e = refl
onset-same None (Some t) h k e = absurd (k.1 (sym e))
onset-same (Some t) None h k e = absurd (h.1 e)
onset-same (Some t) (Some u) h k e = ap Some e

duration-high : (d : Option (List ℕ)) → DurationFits d → High (duration_words d)
duration-high None h = plain-high
duration-high (Some []) h = absurd h
duration-high (Some (b ∷ bs)) h = h.1.0

duration-same : (d e : Option (List ℕ)) → DurationFits d → DurationFits e → duration_words d ≡ duration_words e → d ≡ e
duration-same None None h k same = refl
duration-same None (Some []) h k same = absurd k
duration-same None (Some (b ∷ bs)) h k same = absurd (k.1.1 (sym same))
duration-same (Some []) e h k same = absurd h
duration-same (Some (b ∷ bs)) None h k same = absurd (h.1.1 same)
duration-same (Some (b ∷ bs)) (Some []) h k same = absurd k
duration-same (Some (b ∷ bs)) (Some (c ∷ cs)) h k same = ap (λ x. Some (x ∷ bs)) (h.0 ∙ sym k.0) ∙ ap (λ xs. Some (c ∷ xs)) same

-- ---- a TAL

pub record TalFits (placed : PlacedTal) : Type 0 where
  pub onset : OnsetFits placed.spelling.onset
  pub duration : DurationFits placed.spelling.duration
  pub content : ContentFits placed.content

line-flat : (p : PlacedTal) (x : List ℕ) → tal_line p ++ x
    ≡ codes "  onset " ++ (onset_words p.spelling.onset ++ (codes " duration " ++ (duration_words p.spelling.duration ++ (32 ∷ content-end p.content x))))
unfolding tal_line
line-flat p x =
    four (codes "  onset ") (onset_words p.spelling.onset) (codes " duration ") (duration_words p.spelling.duration) (content_words p.content ++ (10 ∷ [])) x
    ∙ ap (λ r. codes "  onset " ++ (onset_words p.spelling.onset ++ (codes " duration " ++ (duration_words p.spelling.duration ++ (32 ∷ r))))) (content-flat p.content x)
  where
    four : (a b c d e x : List ℕ) → (a ++ (b ++ (c ++ (d ++ (32 ∷ e))))) ++ x ≡ a ++ (b ++ (c ++ (d ++ (32 ∷ (e ++ x)))))
    four a b c d e x =
        append_assoc a (b ++ (c ++ (d ++ (32 ∷ e)))) x
        ∙ ap (λ r. a ++ r) (append_assoc b (c ++ (d ++ (32 ∷ e))) x
        ∙ ap (λ r. b ++ r) (append_assoc c (d ++ (32 ∷ e)) x ∙ ap (λ r. c ++ r) (append_assoc d (32 ∷ e) x)))

pub tal-cut : (p q : PlacedTal) (x y : List ℕ) → TalFits p → TalFits q → tal_line p ++ x ≡ tal_line q ++ y → (p ≡ q) × (x ≡ y)
tal-cut p q x y h k e =
    let a = cut-word (onset_words p.spelling.onset) (onset_words q.spelling.onset) (codes "duration ") _ _ (onset-high p.spelling.onset h.onset) (onset-high q.spelling.onset k.onset)
    (append_cancel_left (codes "  onset ") _ _ (sym (line-flat p x) ∙ e ∙ line-flat q y)) in
    let b = cut-space (duration_words p.spelling.duration) (duration_words q.spelling.duration) (content-end p.content x) (content-end q.content y)
    (duration-high p.spelling.duration h.duration) (duration-high q.spelling.duration k.duration) a.1 in
    let c = ends-cut p.content q.content x y h.content k.content b.1 in
    let make : Option (List ℕ) → Option (List ℕ) → TalContent → PlacedTal = λ o d s. record { spelling = record { onset = o; duration = d }; content = s } in (
      ap (λ o. make o p.spelling.duration p.content) (onset-same p.spelling.onset q.spelling.onset h.onset k.onset a.0)
          ∙ ap (λ d. make q.spelling.onset d p.content) (duration-same p.spelling.duration q.spelling.duration h.duration k.duration b.0)
          ∙ ap (make q.spelling.onset q.spelling.duration) c.0,
      c.1,
    )

-- ---- TALs

abbrev pub AllTalsFit : List PlacedTal → Type 0
AllTalsFit [] = Unit {0}
AllTalsFit (p ∷ ps) = TalFits p × AllTalsFit ps

-- a text begins with another byte than a space
abbrev pub BeginsElse : List ℕ → Type 0
BeginsElse x = (c : ℕ) × (r : List ℕ) × (x ≡ c ∷ r) × (c ≢ 32)

line-begins : (p : PlacedTal) (x : List ℕ) → BeginsElse (tal_line p ++ x) → ⊥
line-begins p x (c, r, is, other) = other (sym (first-same 32 c _ r (sym (line-flat p x) ∙ is)))

lines-else : (p : PlacedTal) (ps : List PlacedTal) (x y : List ℕ) → BeginsElse x → x ≡ tal_lines (p ∷ ps) ++ y → ⊥
lines-else p ps x y begins e = line-begins p (tal_lines ps ++ y) (subst BeginsElse (e ∙ append_assoc (tal_line p) (tal_lines ps) y) begins)

pub tals-cut : (ps qs : List PlacedTal) (x y : List ℕ) → AllTalsFit ps → AllTalsFit qs → BeginsElse x → BeginsElse y
    → tal_lines ps ++ x ≡ tal_lines qs ++ y → (ps ≡ qs) × (x ≡ y)
tals-cut [] [] x y h k begins too e = (refl, e)
tals-cut [] (q ∷ qs) x y h k begins too e = absurd (lines-else q qs x y begins e)
tals-cut (p ∷ ps) [] x y h k begins too e = absurd (lines-else p ps y x too (sym e))
tals-cut (p ∷ ps) (q ∷ qs) x y h k begins too e =
    let one = tal-cut p q (tal_lines ps ++ x) (tal_lines qs ++ y) h.0 k.0
    (sym (append_assoc (tal_line p) (tal_lines ps) x) ∙ e ∙ append_assoc (tal_line q) (tal_lines qs) y) in
    let rest = tals-cut ps qs x y h.1 k.1 begins too one.1 in
    (ap (λ (z : PlacedTal). z ∷ ps) one.0 ∙ ap (λ zs. q ∷ zs) rest.0, rest.1)

-- TALs of which the same lines are written
pub tals-same : (ps qs : List PlacedTal) → AllTalsFit ps → AllTalsFit qs → tal_lines ps ≡ tal_lines qs → ps ≡ qs
tals-same ps qs h k e =
    let end : BeginsElse (10 ∷ []) = (10, [], refl, λ z. omega (arith, z)) in
    (tals-cut ps qs (10 ∷ []) (10 ∷ []) h k end end (ap (λ r. r ++ (10 ∷ [])) e)).0

-- ---- words that are put one behind the other

pub time-pushed : (a b c d e places more : List ℕ) (duration : Option ℤ) → b ≡ a ++ codes "time lasting " → c ≡ b ++ duration_text duration → d ≡ c ++ codes " annotations"
    → e ≡ d ++ spaces_text more → more ≡ places → e ≡ a ++ content_words (KeepsTime duration places)
time-pushed a b c d e places more duration p q r s is =
    s ∙ ap (λ ns. d ++ spaces_text ns) is ∙ ap (λ x. x ++ spaces_text places) (r ∙ ap (λ x. x ++ codes " annotations") (q ∙ ap (λ x. x ++ duration_text duration) p))
    ∙ four a (codes "time lasting ") (duration_text duration) (codes " annotations") (spaces_text places)
  where
    four : (a b c d e : List ℕ) → (((a ++ b) ++ c) ++ d) ++ e ≡ a ++ (b ++ (c ++ (d ++ e)))
    four a b c d e = append_assoc ((a ++ b) ++ c) d e ∙ append_assoc (a ++ b) c (d ++ e) ∙ append_assoc a b (c ++ (d ++ e))

pub annotations-pushed : (a b c places more : List ℕ) → b ≡ a ++ codes "annotations" → c ≡ b ++ spaces_text more → more ≡ places → c ≡ a ++ content_words (Annotates places)
annotations-pushed a b c places more p q is =
    q ∙ ap (λ ns. b ++ spaces_text ns) is ∙ ap (λ x. x ++ spaces_text places) p ∙ append_assoc a (codes "annotations") (spaces_text places)
