-- A number of a header, an onset and a duration have one plain spelling.
use Rattle.std.proofs.Common.{◌≡◌, ◌⊎◌, inl, inr, ℕ, suc, ℤ, pos, Bool, true, false, not, cond, ◌&&◌, ◌||◌, ◌==◌, ◌+◌, ◌-◌, ◌*◌, ◌^◌, ◌≤◌, List, [], ◌∷◌, length, take, drop, slice_index, codes, arith, refl, ap, ◌∙◌, sym, subst, length-drop}
use Rattle.edf_fields.proofs.ForCallers.{onset_is_read, span_is_read}
use Rattle.std.specs.List.{position_or_len}
use Rattle.std.specs.Str.{bytes_eq}
use Rattle.std.proofs.lemmas.Bool.Decides.{nat_tests}
use Rattle.std.proofs.lemmas.Int.{ints}
use Rattle.edf_fields.specs.Parts.{text_of}
use Rattle.edf_fields.specs.texts.Numbers.{AreDigits, weight, has_minus, unsigned, signed, before_dot, behind_dot, decimal, has_sign}
use Rattle.edf_fields.specs.texts.NumbersReading.{SpellsHeaderNumber}
use Rattle.edf_fields.specs.texts.OnsetsReading.{without_leading_zeros, IsTimeRead, time_read}
use Rattle.edf_layout.specs.PlainNumbers.{is_plain_unsigned}
use Rattle.edf_layout.specs.PlainLaws.{is_plain_onset, OnePlainHeaderNumber, OnePlainWholeNumber, OnePlainOnset, OnePlainSpan}
use Rattle.edf_layout.proofs.plain.DigitFacts.{digits-tail, digit-head}
use Rattle.edf_layout.proofs.FieldFacts.{length-text_of}
use Rattle.edf_layout.proofs.plain.NumberFacts.{Fits, and-both, rejoins, plain-end, signs-alike, unsigned-same, numbers-same}

-- ---- header numbers

unsigned-short : (t : List ℕ) → length (unsigned t) ≤ length t
unsigned-short t = sides (has_minus t || (slice_index t 0 == 43)) t
  where
    sides : (b : Bool) (t : List ℕ) → length (cond b (drop 1 t) t) ≤ length t
    sides true t = let a = length-drop 1 t in omega (arith, a)
    sides false t = omega arith

behind-short : (u : List ℕ) → length (behind_dot u) ≤ length u - 1
behind-short u = let a = length-drop (position_or_len (λ b. b == 46) u + 1) u in omega (arith, a)

header-fits : (field : List ℕ) (v : ℤ) → SpellsHeaderNumber field v → Fits (unsigned (text_of field)) 7
header-fits field v h =
    let t = text_of field in
    let a = length-text_of field in
    let b = unsigned-short t in
    let c = behind-short (unsigned t) in
    let short = h.0 in
    record { whole = h.1.0.0; fraction = h.1.0.1; few = omega (arith, a, b, c, short) }

pub one_plain_header_number : OnePlainHeaderNumber
one_plain_header_number field other v h g p q =
    numbers-same (text_of field) (text_of other) 7 (header-fits field v h) (header-fits other v g) p q (sym h.1.1 ∙ g.1.1)

-- ---- whole numbers

pub digit-no-dot : (c : ℕ) → (48 ≤ c) × (c ≤ 57) → (c == 46) ≡ false
digit-no-dot c h = grind (arith, nat_tests, h.0)

pub no-dot : (u : List ℕ) → AreDigits u → (before_dot u ≡ u) × (behind_dot u ≡ [])
no-dot [] h = (refl, refl)
no-dot (c ∷ cs) h =
    let none : (c == 46) ≡ false = digit-no-dot c (digit-head c cs h) in
    let rest = no-dot cs (digits-tail c cs h) in
    (before-more c cs none ∙ ap (λ r. c ∷ r) rest.0, behind-more c cs none ∙ rest.1)
  where
    before-more : (c : ℕ) (cs : List ℕ) → (c == 46) ≡ false → before_dot (c ∷ cs) ≡ c ∷ before_dot cs
    before-more c cs h = rw h (ap (λ n. take n (c ∷ cs)) (let e : 1 + position_or_len (λ b. b == 46) cs ≡ suc (position_or_len (λ b. b == 46) cs) = omega arith in e))

    behind-more : (c : ℕ) (cs : List ℕ) → (c == 46) ≡ false → behind_dot (c ∷ cs) ≡ behind_dot cs
    behind-more c cs h = rw h (ap (λ n. drop n (c ∷ cs)) (let e : 1 + position_or_len (λ b. b == 46) cs + 1 ≡ suc (position_or_len (λ b. b == 46) cs + 1) = omega arith in e))

whole-fits : (u : List ℕ) → AreDigits u → Fits u 0
whole-fits u h =
    let parts = no-dot u h in
    record {
      whole = subst AreDigits (sym parts.0) h;
      fraction = subst AreDigits (sym parts.1) (λ k low. absurd (omega (arith, low)));
      few = let none = ap length parts.1 in omega (arith, none);
    }

whole-value : (u : List ℕ) → AreDigits u → decimal 0 (before_dot u) (behind_dot u) ≡ weight u
whole-value u h =
    let parts = no-dot u h in
    ap (λ w. decimal 0 w (behind_dot u)) parts.0 ∙ ap (λ f. decimal 0 u f) parts.1 ∙ (let e : weight u * 1 + 0 * 1 ≡ weight u = omega arith in e)

pub one_plain_whole_number : OnePlainWholeNumber
one_plain_whole_number field other v (short, (digits, some, value)) (less, (digits2, some2, value2)) p q =
    let t = text_of field in
    let u = text_of other in
    numbers-same t u 0 (whole-fits (unsigned t) digits) (whole-fits (unsigned u) digits2) p q
    (ap (signed (has_minus t)) (whole-value (unsigned t) digits) ∙ sym value ∙ value2 ∙ ap (signed (has_minus u)) (sym (whole-value (unsigned u) digits2)))

-- ---- times

bool-cases : (b : Bool) → (b ≡ true) ⊎ (b ≡ false)
bool-cases true = inl refl
bool-cases false = inr refl

is-48 : (c : ℕ) → (c == 48) ≡ true → c ≡ 48
is-48 c h = grind (arith, nat_tests)

led : (w : List ℕ) → weight (without_leading_zeros w) ≡ weight w
led [] = refl
led (c ∷ cs) = elim (bool-cases (c == 48)) [
  | inl nought ↦
      let rest = led cs in
      let is : c ≡ 48 = is-48 c nought in
      let none : c - 48 ≡ 0 = omega (arith, is) in
      ap (λ b. weight (cond b (without_leading_zeros cs) (c ∷ cs))) nought ∙ rest ∙ (let e : weight cs ≡ 0 * 10 ^ length cs + weight cs = omega arith in e) ∙ ap (λ n. n * 10 ^ length cs + weight cs) (sym none)
  | inr other ↦ ap (λ b. weight (cond b (without_leading_zeros cs) (c ∷ cs))) other
]

time-fits : (u : List ℕ) → IsTimeRead u → is_plain_unsigned u ≡ true → Fits u 12
time-fits u (seconds, fraction, dot) p =
    let ends = plain-end u (rejoins u p).1 in
    record { whole = seconds.0; fraction = fraction.0; few = subst (λ f. length f ≤ 12) ends fraction.1 }

time-value : (u : List ℕ) → is_plain_unsigned u ≡ true → time_read u ≡ decimal 12 (before_dot u) (behind_dot u)
time-value u p =
    let ends = plain-end u (rejoins u p).1 in
    ap (λ f. decimal 12 (without_leading_zeros (before_dot u)) f) ends
    ∙ ap (λ n. n * 10 ^ 12 + weight (behind_dot u) * 10 ^ (12 - length (behind_dot u))) (led (before_dot u))

pub one_plain_span : OnePlainSpan
one_plain_span t u v h k p q =
    let one = span_is_read t v h in
    let two = span_is_read u v k in
    let same : pos (time_read t) ≡ pos (time_read u) = sym one.1 ∙ two.1 in
    let times : time_read t ≡ time_read u = omega (arith, ints, same) in
    unsigned-same t u 12 (time-fits t one.0 p) (time-fits u two.0 q) p q (sym (time-value t p) ∙ times ∙ time-value u q)

-- an onset by its sign
signed-text : (t : List ℕ) → has_sign t ≡ true → t ≡ cond (has_minus t) 45 43 ∷ drop 1 t
signed-text [] h = absurd (let z : false ≡ true = h in cc)
signed-text (c ∷ cs) h = sides (c == 45) (c == 43) h (λ e. first c e) (λ e. second c e)
  where
    first : (c : ℕ) → (c == 45) ≡ true → c ≡ 45
    first c e = grind (arith, nat_tests)

    second : (c : ℕ) → (c == 43) ≡ true → c ≡ 43
    second c e = grind (arith, nat_tests)

    sides : (a b : Bool) → (a || b) ≡ true → (a ≡ true → c ≡ 45) → (b ≡ true → c ≡ 43) → c ∷ cs ≡ cond a 45 43 ∷ cs
    sides true b some minus plus = ap (λ d. d ∷ cs) (minus refl)
    sides false true some minus plus = ap (λ d. d ∷ cs) (plus refl)
    sides false false some minus plus = absurd (let z : false ≡ true = some in cc)

onset-parts : (t : List ℕ) → is_plain_onset t ≡ true → (is_plain_unsigned (drop 1 t) ≡ true) × (not (has_minus t && bytes_eq (drop 1 t) (codes "0")) ≡ true)
unfolding is_plain_onset
onset-parts t h = and-both (is_plain_unsigned (drop 1 t)) (not (has_minus t && bytes_eq (drop 1 t) (codes "0"))) h

pub one_plain_onset : OnePlainOnset
one_plain_onset t u v h k p q =
    let mine = onset_is_read t v h in
    let other = onset_is_read u v k in
    let one = onset-parts t p in
    let two = onset-parts u q in
    let parts = signs-alike (has_minus t) (has_minus u) (drop 1 t) (drop 1 u) 12 (time-fits (drop 1 t) mine.1 one.0) (time-fits (drop 1 u) other.1 two.0) one.0 two.0 one.1 two.1
    (ap (signed (has_minus t)) (sym (time-value (drop 1 t) one.0)) ∙ sym mine.2 ∙ other.2 ∙ ap (signed (has_minus u)) (time-value (drop 1 u) two.0)) in
    signed-text t mine.0 ∙ ap (λ m. cond m 45 43 ∷ drop 1 t) parts.0 ∙ ap (λ r. cond (has_minus u) 45 43 ∷ r) parts.1 ∙ sym (signed-text u other.0)
