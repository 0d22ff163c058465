-- Being the same line is an equivalence.
use Rattle.std.proofs.Common.{◌≡◌, ℕ, ◌<◌, ◌+◌, ◌*◌, ◌/◌, ℤ, pos, negsuc, ◌*ℤ◌, ◌<ℤ◌, arith, refl, sym, ap, ◌∙◌}
use Rattle.std.proofs.Math.Nat.{mul-div_cancel}
use Rattle.std.proofs.lemmas.Int.{ints}
use borrow.Author.Differences.{up, down}
use Rattle.edf_header.specs.signals.CalibrationLaws.{SameLineIsEquivalence}
use Rattle.edf_header.specs.signals.Calibrations.{CalibrationValue, SameLine, digital_span, physical_span, offset_times_span}

-- a positive factor is taken away
cancelled : (x y e : ℕ) → 0 < e → x * e ≡ y * e → x ≡ y
cancelled x y e p h = sym (mul-div_cancel x p) ∙ ap (λ z. z / e) h ∙ mul-div_cancel y p

-- a / d is b / e, and b / e is c / f: each signed number by two parts, as a - a', and e positive
cross_same : (a a' d d' b b' e c c' f f' : ℕ) → 0 < e → a * e + (b * d' + b' * d) ≡ a' * e + (b * d + b' * d') → (b * f + b' * f') + c' * e ≡ (b * f' + b' * f) + c * e → (a * f + a' * f') + (c * d' + c' * d) ≡ (a * f' + a' * f) + (c * d + c' * d')
cross_same a a' d d' b b' e c c' f f' p g h =
    let g1 : (a * e + (b * d' + b' * d)) * f ≡ (a' * e + (b * d + b' * d')) * f = ap (λ z. z * f) g in
    let g2 : (a * e + (b * d' + b' * d)) * f' ≡ (a' * e + (b * d + b' * d')) * f' = ap (λ z. z * f') g in
    let h1 : ((b * f + b' * f') + c' * e) * d ≡ ((b * f' + b' * f) + c * e) * d = ap (λ z. z * d) h in
    let h2 : ((b * f + b' * f') + c' * e) * d' ≡ ((b * f' + b' * f) + c * e) * d' = ap (λ z. z * d') h in
    cancelled _ _ e p (omega arith)

-- the same for signed numbers
pub same_through : (a d b e c f : ℤ) → pos 0 <ℤ e → a *ℤ e ≡ b *ℤ d → b *ℤ f ≡ c *ℤ e → a *ℤ f ≡ c *ℤ d
same_through a d b (pos n) c f p g h =
    let r : (up a * up f + down a * down f) + (up c * down d + down c * up d) ≡ (up a * down f + down a * up f) + (up c * up d + down c * down d) =
    cross_same (up a) (down a) (up d) (down d) (up b) (down b) n (up c) (down c) (up f) (down f) (omega (arith, ints)) (omega (arith, ints)) (omega (arith, ints)) in
    omega (arith, ints)
same_through a d b (negsuc n) c f p g h = absurd (omega (arith, ints))

span_above : (l : CalibrationValue) → l.digital_minimum <ℤ l.digital_maximum → pos 0 <ℤ digital_span l
span_above l h = omega (arith, ints)

through : (l m k : CalibrationValue) → m.digital_minimum <ℤ m.digital_maximum → SameLine l m → SameLine m k → SameLine l k
through l m k h s t = (
  same_through (physical_span l) (digital_span l) (physical_span m) (digital_span m) (physical_span k) (digital_span k) (span_above m h) s.0 t.0,
  same_through (offset_times_span l) (digital_span l) (offset_times_span m) (digital_span m) (offset_times_span k) (digital_span k) (span_above m h) s.1 t.1,
)

pub same_line_is_equivalence : SameLineIsEquivalence
same_line_is_equivalence = ((λ l. (refl, refl)), (λ l m s. (sym s.0, sym s.1)), through)
