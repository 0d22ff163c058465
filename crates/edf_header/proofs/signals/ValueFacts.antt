-- Two are the same line exactly where each digital value has the same physical one.
use Rattle.std.proofs.Common.{◌≡◌, ◌*◌, ℤ, pos, ◌+ℤ◌, ◌-ℤ◌, ◌*ℤ◌, arith, sym, ap, ap₂, ◌∙◌}
use Rattle.std.proofs.lemmas.Int.{ints}
use borrow.Author.Differences.{up, down, sum_is_lem, product_is}
use Rattle.edf_header.specs.signals.Calibrations.{CalibrationValue, SameLine, digital_span, physical_span, offset_times_span}
use Rattle.edf_header.specs.signals.CalibrationLaws.{value_times_span, SameLineIsSameValues}

sum_times : (a b d : ℤ) → (a +ℤ b) *ℤ d ≡ (a *ℤ d) +ℤ (b *ℤ d)
sum_times a b d =
    let e = ap (λ z. z * up d) (sum_is_lem a b) in
    let f = ap (λ z. z * down d) (sum_is_lem a b) in
    omega (arith, ints)

less_times : (a b d : ℤ) → (a -ℤ b) *ℤ d ≡ (a *ℤ d) -ℤ (b *ℤ d)
less_times a b d =
    let back : (a -ℤ b) +ℤ b ≡ a = omega (arith, ints) in
    let g : ((a -ℤ b) *ℤ d) +ℤ (b *ℤ d) ≡ a *ℤ d = sym (sum_times (a -ℤ b) b d) ∙ ap (λ z. z *ℤ d) back in
    omega (arith, ints)

product_times : (a b d : ℤ) → (a *ℤ b) *ℤ d ≡ a *ℤ (b *ℤ d)
product_times a b d =
    let p = product_is a b in
    let q = product_is b d in
    let p1 = ap (λ z. z * up d) p.0 in
    let p2 = ap (λ z. z * down d) p.0 in
    let p3 = ap (λ z. z * up d) p.1 in
    let p4 = ap (λ z. z * down d) p.1 in
    let q1 = ap (λ z. up a * z) q.0 in
    let q2 = ap (λ z. down a * z) q.0 in
    let q3 = ap (λ z. up a * z) q.1 in
    let q4 = ap (λ z. down a * z) q.1 in
    omega (arith, ints)

-- p + (v - d) * s is (p - d * s) + v * s
turned : (p v d s : ℤ) → p +ℤ ((v -ℤ d) *ℤ s) ≡ (p -ℤ (d *ℤ s)) +ℤ (v *ℤ s)
turned p v d s = let e = less_times v d s in omega (arith, ints)

-- the value over another span: offset and gain over that span
value_over : (l : CalibrationValue) (v d : ℤ) → value_times_span l v *ℤ d ≡ (offset_times_span l *ℤ d) +ℤ (v *ℤ (physical_span l *ℤ d))
value_over l v d =
    ap (λ z. z *ℤ d) (turned (l.physical_minimum *ℤ digital_span l) v l.digital_minimum (physical_span l))
    ∙ sum_times (offset_times_span l) (v *ℤ physical_span l) d
    ∙ ap (λ z. (offset_times_span l *ℤ d) +ℤ z) (product_times v (physical_span l) d)

offsets_from : (a b g h : ℤ) → a +ℤ (pos 0 *ℤ g) ≡ b +ℤ (pos 0 *ℤ h) → a ≡ b
offsets_from a b g h e = omega (arith, ints)

gains_from : (a b g h : ℤ) → a +ℤ (pos 0 *ℤ g) ≡ b +ℤ (pos 0 *ℤ h) → a +ℤ (pos 1 *ℤ g) ≡ b +ℤ (pos 1 *ℤ h) → g ≡ h
gains_from a b g h e f = omega (arith, ints)

values_from_line : (l m : CalibrationValue) → SameLine l m → (v : ℤ) → value_times_span l v *ℤ digital_span m ≡ value_times_span m v *ℤ digital_span l
values_from_line l m s v =
    value_over l v (digital_span m) ∙ ap₂ (λ a g. a +ℤ (v *ℤ g)) s.1 s.0 ∙ sym (value_over m v (digital_span l))

line_from_values : (l m : CalibrationValue) → ((v : ℤ) → value_times_span l v *ℤ digital_span m ≡ value_times_span m v *ℤ digital_span l) → SameLine l m
line_from_values l m f =
    let at = λ (v : ℤ). sym (value_over l v (digital_span m)) ∙ f v ∙ value_over m v (digital_span l) in (
      gains_from (offset_times_span l *ℤ digital_span m) (offset_times_span m *ℤ digital_span l) (physical_span l *ℤ digital_span m) (physical_span m *ℤ digital_span l) (at (pos 0)) (at (pos 1)),
      offsets_from (offset_times_span l *ℤ digital_span m) (offset_times_span m *ℤ digital_span l) (physical_span l *ℤ digital_span m) (physical_span m *ℤ digital_span l) (at (pos 0)),
    )

pub same_line_is_same_values : SameLineIsSameValues
same_line_is_same_values l m = (values_from_line l m, line_from_values l m)
