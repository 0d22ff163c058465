-- Samples of a channel at two rates: how many of each lie from one common instant to the next, and the differences of whole strides of them.
use Rattle.std.proofs.Common.{◌≡◌, ◌≢◌, ℕ, zero, suc, ◌+◌, ◌-◌, ◌*◌, ◌/◌, ◌%◌, ◌^◌, ◌<◌, ◌≤◌, min, Bool, true, false, cond, not, nat_lt, ℤ, pos, ◌+ℤ◌, ◌*ℤ◌, ◌<ℤ◌, unsigned_abs, List, [], ◌∷◌, ◌++◌, map, filter, length, Option, Some, refl, sym, ap, ◌∙◌, subst, arith, Fits, w64}
use Rattle.std.specs.Int.{IsGcd, ◌∣◌}
use Rattle.std.specs.List.{range_with_len}
use Rattle.std.specs.Ordering.{int_eq}
use Rattle.std.specs.Option.{option_or}
use Rattle.std.proofs.Math.IntN.{pos-*ℤ-pos}
use Rattle.std.proofs.Math.Nat.{div-add-mod', div-mul_cancel, dvd-mul_left, dvd-mul_left_of_dvd, dvd-sub, dvd_of_mul-dvd-mul_right, eq-zero_of_zero-dvd, eq_of_mul-eq-mul_right, lt_of_mul-lt-mul_left, mul-lt-mul_of_pos_right}
use Rattle.std.proofs.lemmas.Bool.{ltb-true, ltb-false}
use Rattle.std.proofs.lemmas.Int.{ints}
use Rattle.std.proofs.lemmas.List.{append_assoc, append-nil, length-append, length-map, map-append}
use Rattle.std.proofs.lemmas.List.Elements.{filter-append}
use Rattle.std.proofs.lemmas.List.FromFn.{length-range_with_len}
use Rattle.std.proofs.lemmas.Nat.Gcd.{IsGcd-from_mod, IsGcd-from_zero, IsGcd-swap, dvd_refl, le_of_dvd}
use Rattle.edf_stream.specs.samples.Values.{digital_value}
use Rattle.edf_stream.specs.times.Instants.{IsSame}
use Rattle.edf_verdict.specs.declared.verdict.SampleMismatch.{SampleMismatch}
use Rattle.edf_verdict.specs.declared.verdict.SampleMismatch.TheVariants.{Missing, Extra}
use Rattle.edf_samples.specs.declared.difference.PointDifference.{PointDifference}
use Rattle.edf_samples.specs.declared.counts.counted.Counted.{Counted}
use Rattle.edf_samples.specs.declared.counts.tally.Tally.{Tally}
use Rattle.edf_samples.specs.declared.stretch.Stretch.{Stretch}
use Rattle.edf_samples.specs.InstantOrder.{IsBefore}
use Rattle.edf_samples.specs.Others.{values_differ_at}
use Rattle.edf_samples.specs.Strides.{AreStrides, IsCommonDivisor, IsProportion, between, distance}
use Rattle.edf_samples.specs.Tallies.{all_behind, alone, change, counted, first_of, is_changed, is_extra, is_missing, joined, last_of, of_kind, tally_of}
use Rattle.edf_samples.proofs.FilterFacts.{by_test}
use Rattle.edf_samples.proofs.FractionFacts.{both_same, by_before}
use Rattle.edf_samples.proofs.FrontFacts.{extra_step, first_counted, front_counted, missing_step, pair_step, range_last, stands, tally_kinds}
use Rattle.edf_samples.proofs.StretchFacts.{step_is, sum-scaled}
use Rattle.edf_samples.proofs.TallyFacts.{kind_same, last_append}

-- ---- the greatest common divisor

-- what divides a multiple of a number, and the same of another, divides that of what the one leaves over the other
rest-divided : (a b k d : ℕ) → d ∣ k * a → d ∣ k * b → d ∣ k * (a % b)
rest-divided a b k d p q =
    let e = div-add-mod' a b in
    let whole : d ∣ a / b * (k * b) = dvd-mul_left_of_dvd d q (a / b) in
    let f : k * (a % b) ≡ k * a - a / b * (k * b) = omega (arith, ap (λ z. k * z) e) in
    subst (λ z. d ∣ z) (sym f) (dvd-sub d p whole)

pub divisor_end : (a b : ℕ) → b ≡ 0 → IsCommonDivisor a b a
divisor_end a b e = (IsGcd-from_zero a b e, λ k d p q. p)

pub divisor_step : (a b g : ℕ) → IsCommonDivisor b (a % b) g → IsCommonDivisor a b g
divisor_step a b g h = (IsGcd-from_mod a b g h.0, λ k d p q. h.1 k d q (rest-divided a b k d p q))

pub divisor_above : (a b g : ℕ) → 0 < a → IsCommonDivisor a b g → 0 < g
divisor_above a b zero some h = let e = eq-zero_of_zero-dvd h.0.0 in absurd (omega (arith, e, some))
divisor_above a b (suc g) some h = omega arith

-- ---- the distances of two stretches

-- a distance as a number above 0, and multiples of it
record Distance (x y : Stretch) : Type 0 where
  ps : ℕ
  some : 0 < ps
  is : distance x y ≡ pos ps
  times : (i : ℕ) → (pos i *ℤ x.step) *ℤ pos y.den ≡ pos (i * ps)

distance-of : (x y : Stretch) → pos 0 <ℤ x.step → 0 < y.den → Distance x y
distance-of x y forward some =
    let s = unsigned_abs x.step in
    let step : x.step ≡ pos s = step_is x.step forward in
    let above : 0 < s = omega (arith, ints, step, forward) in
    record {
      ps = s * y.den;
      some = let h : 0 * y.den < s * y.den = mul-lt-mul_of_pos_right above some in omega (arith, h);
      is = ap (λ z. z *ℤ pos y.den) step ∙ pos-*ℤ-pos s y.den;
      times = λ i.
          let e : i * s * y.den ≡ i * (s * y.den) = omega arith in
          ap (λ z. (pos i *ℤ z) *ℤ pos y.den) step ∙ ap (λ z. z *ℤ pos y.den) (pos-*ℤ-pos i s) ∙ pos-*ℤ-pos (i * s) y.den ∙ ap pos e;
    }

-- where one step is so many of the other
in-proportion : (short long : ℤ) (n m t : ℕ) → pos 0 <ℤ short → long ≡ pos t *ℤ short → (short *ℤ pos n) *ℤ pos (m * t) ≡ (long *ℤ pos m) *ℤ pos n
in-proportion short long n m t forward is =
    let s = unsigned_abs short in
    let step : short ≡ pos s = step_is short forward in
    let e : s * n * (m * t) ≡ t * s * m * n = omega arith in
    ap (λ z. (z *ℤ pos n) *ℤ pos (m * t)) step ∙ ap (λ z. z *ℤ pos (m * t)) (pos-*ℤ-pos s n) ∙ pos-*ℤ-pos (s * n) (m * t) ∙ ap pos e
    ∙ sym (ap (λ z. (z *ℤ pos m) *ℤ pos n) (is ∙ ap (λ z. pos t *ℤ z) step ∙ pos-*ℤ-pos t s) ∙ ap (λ z. z *ℤ pos n) (pos-*ℤ-pos (t * s) m) ∙ pos-*ℤ-pos (t * s * m) n)

above-product : (a b : ℕ) → 0 < a → 0 < b → 0 < a * b
above-product a b pa pb = let h : 0 * b < a * b = mul-lt-mul_of_pos_right pa pb in omega (arith, h)

pub proportion_long : (x y : Stretch) (times : ℕ) → 0 < x.den → 0 < y.den → 0 < times → pos 0 <ℤ x.step → y.step ≡ pos times *ℤ x.step → IsProportion x y y.den (x.den * times)
proportion_long x y times px py some forward is = (py, above-product x.den times px some, in-proportion x.step y.step y.den x.den times forward is)

pub proportion_short : (x y : Stretch) (times : ℕ) → 0 < x.den → 0 < y.den → 0 < times → pos 0 <ℤ y.step → x.step ≡ pos times *ℤ y.step → IsProportion x y (y.den * times) x.den
proportion_short x y times px py some forward is = (above-product y.den times py some, px, sym (in-proportion y.step x.step x.den y.den times forward is))

-- ---- strides

-- with the divisor g of a and b, p times it is b, and q times it is a
meet-together : (u v a b g p q : ℕ) → u * b ≡ v * a → b ≡ p * g → a ≡ q * g → 0 < g → p * u ≡ q * v
meet-together u v a b g p q h eb ea some =
    let e : u * (p * g) ≡ v * (q * g) = ap (λ z. u * z) (sym eb) ∙ h ∙ ap (λ z. v * z) ea in
    let f : (p * u) * g ≡ (q * v) * g = omega (arith, e) in
    eq_of_mul-eq-mul_right g some (p * u) (q * v) f

meet-before : (u v a b g p i j : ℕ) → u * b ≡ v * a → 0 < v → b ≡ p * g → 0 < g → IsCommonDivisor a b g → 0 < i → i < p → i * u ≡ j * v → ⊥
meet-before u v a b g p i j h pv eb pg divides some less meets =
    let e1 : i * (u * b) ≡ i * (v * a) = ap (λ z. i * z) h in
    let e2 : i * u * b ≡ j * v * b = ap (λ z. z * b) meets in
    let f : (i * a) * v ≡ (j * b) * v = omega (arith, e1, e2) in
    let k : i * a ≡ j * b = eq_of_mul-eq-mul_right v pv (i * a) (j * b) f in
    let one : b ∣ i * a = subst (λ z. b ∣ z) (sym k) (dvd-mul_left b j) in
    let all : b ∣ i * g = divides.1 i b one (dvd-mul_left b i) in
    let p-divides : p ∣ i = dvd_of_mul-dvd-mul_right p pg (subst (λ z. z ∣ i * g) eb all) in
    let le = le_of_dvd some p-divides in
    absurd (omega (arith, le, less))

above-none : (p g b : ℕ) → b ≡ p * g → 0 < b → (0 < p) × (0 < g)
above-none zero g b e some = absurd (omega (arith, e, some))
above-none (suc p) zero b e some = absurd (omega (arith, e, some))
above-none (suc p) (suc g) b e some = (omega arith, omega arith)

strides-by : (x y : Stretch) (a b g p q : ℕ) → pos 0 <ℤ x.step → pos 0 <ℤ y.step → 0 < x.den → 0 < y.den → IsProportion x y a b → IsCommonDivisor a b g
    → b ≡ p * g → a ≡ q * g → p ≢ q → AreStrides x y (record { here = p; there = q })
strides-by x y a b g p q forward behind px py proportion divides eb ea other =
    let u = distance-of x y forward py in
    let v = distance-of y x behind px in
    let pb = above-none p g b eb proportion.1 in
    let pa = above-none q g a ea proportion.0 in
    let h : u.ps * b ≡ v.ps * a =
    let e : pos u.ps *ℤ pos b ≡ pos v.ps *ℤ pos a = ap (λ z. z *ℤ pos b) (sym u.is) ∙ proportion.2 ∙ ap (λ z. z *ℤ pos a) v.is in
    omega (arith, ints, e)
    in
    record {
      some_here = pb.0;
      some_there = pa.0;
      other_rates = other;
      rises_here = forward;
      rises_there = behind;
      together =
          let e = meet-together u.ps v.ps a b g p q h eb ea pb.1 in
          ap (λ z. pos p *ℤ z) u.is ∙ (omega (arith, ints, e)) ∙ ap (λ z. pos q *ℤ z) (sym v.is);
      apart = λ i j some less meets.
          let e : pos i *ℤ pos u.ps ≡ pos j *ℤ pos v.ps = ap (λ z. pos i *ℤ z) (sym u.is) ∙ meets ∙ ap (λ z. pos j *ℤ z) v.is in
          meet-before u.ps v.ps a b g p i j h v.some eb pb.1 divides some less (omega (arith, ints, e));
    }

pub are_strides : (x y : Stretch) (a b g p q : ℕ) → pos 0 <ℤ x.step → pos 0 <ℤ y.step → 0 < x.den → 0 < y.den → IsProportion x y a b → IsCommonDivisor a b g
    → p ≡ b / g → q ≡ a / g → p ≢ q → AreStrides x y (record { here = p; there = q })
are_strides x y a b g p q forward behind px py proportion divides ep eq other =
    strides-by x y a b g p q forward behind px py proportion divides (sym (div-mul_cancel g divides.0.1) ∙ ap (λ z. z * g) (sym ep)) (sym (div-mul_cancel g divides.0.0) ∙ ap (λ z. z * g) (sym eq)) other

-- where one number is twice the other
twice-gcd : (a : ℕ) → IsGcd a (2 * a) a
twice-gcd a = (dvd_refl a, dvd-mul_left a 2, λ d p q. p)

twice : (a b : ℕ) → b ≡ 2 * a → IsCommonDivisor a b a
twice a b e = (subst (λ z. IsGcd a z a) (sym e) (twice-gcd a), λ k d p q. p)

pub strides_of_half : (x y : Stretch) (a b : ℕ) → pos 0 <ℤ x.step → pos 0 <ℤ y.step → 0 < x.den → 0 < y.den → IsProportion x y a b → b ≡ 2 * a → AreStrides x y (record { here = 2; there = 1 })
strides_of_half x y a b forward behind px py proportion e =
    strides-by x y a b a 2 1 forward behind px py proportion (twice a b e) e (omega arith) (λ h. absurd (omega (arith, h)))

pub strides_of_double : (x y : Stretch) (a b : ℕ) → pos 0 <ℤ x.step → pos 0 <ℤ y.step → 0 < x.den → 0 < y.den → IsProportion x y a b → a ≡ 2 * b → AreStrides x y (record { here = 1; there = 2 })
strides_of_double x y a b forward behind px py proportion e =
    let divides = twice b a e in
    strides-by x y a b b 1 2 forward behind px py proportion (IsGcd-swap b a b divides.0, λ k d p q. q) (omega arith) e (λ h. absurd (omega (arith, h)))

-- ---- the instants of two stretches that begin at one

record Begins (x y : Stretch) : Type 0 where
  start : x.num *ℤ pos y.den ≡ y.num *ℤ pos x.den
  here : Distance x y
  there : Distance y x

on-grid : (x y : Stretch) (u : Distance x y) (i : ℕ) → (x.num +ℤ pos i *ℤ x.step) *ℤ pos y.den ≡ (x.num *ℤ pos y.den) +ℤ pos (i * u.ps)
on-grid x y u i = sum-scaled y.den x.num (pos i *ℤ x.step) (x.num +ℤ pos i *ℤ x.step) refl ∙ ap (λ z. (x.num *ℤ pos y.den) +ℤ z) (u.times i)

meet : (x y : Stretch) (b : Begins x y) (i j : ℕ) → i * (b.here).ps ≡ j * (b.there).ps → IsSame (stands x i) (stands y j)
meet x y b i j e =
    on-grid x y b.here i ∙ ap (λ z. z +ℤ pos (i * (b.here).ps)) b.start ∙ ap (λ n. (y.num *ℤ pos x.den) +ℤ pos n) e
    ∙ sym (on-grid y x b.there j)

meets : (x y : Stretch) (b : Begins x y) (i j : ℕ) → IsSame (stands x i) (stands y j) → i * (b.here).ps ≡ j * (b.there).ps
meets x y b i j same =
    let e : (x.num *ℤ pos y.den) +ℤ pos (i * (b.here).ps) ≡ (y.num *ℤ pos x.den) +ℤ pos (j * (b.there).ps) =
    sym (on-grid x y b.here i) ∙ same ∙ on-grid y x b.there j
    in
    let f = b.start in
    omega (arith, ints, e, f)

is-before : (x y : Stretch) (b : Begins x y) (i j : ℕ) → i * (b.here).ps < j * (b.there).ps → IsBefore (stands x i) (stands y j)
is-before x y b i j lt =
    let e = on-grid x y b.here i in
    let f = on-grid y x b.there j in
    let s = b.start in
    omega (arith, ints, e, f, s, lt)

is-behind : (x y : Stretch) (b : Begins x y) (i j : ℕ) → j * (b.there).ps < i * (b.here).ps → IsBefore (stands y j) (stands x i)
is-behind x y b i j lt =
    let e = on-grid x y b.here i in
    let f = on-grid y x b.there j in
    let s = b.start in
    omega (arith, ints, e, f, s, lt)

-- ---- samples between two common instants

-- no two of these samples, from i0 on before e and from j0 on before f, stand at one instant, and all stand before those behind them
record Block (x y : Stretch) (i0 j0 e f : ℕ) : Type 0 where
  x_within : 2 * e ≤ length x.bytes.now
  y_within : 2 * f ≤ length y.bytes.now
  apart : (i j : ℕ) → i0 ≤ i → i < e → j0 ≤ j → j < f → IsSame (stands x i) (stands y j) → ⊥
  x_before : (i : ℕ) → i < e → IsBefore (stands x i) (stands y f)
  y_before : (j : ℕ) → j < f → IsBefore (stands y j) (stands x e)

-- the differences of the n samples from i on and of the m from j on
record Merged (x y : Stretch) (i n e j m f : ℕ) : Type 0 where
  ds : List PointDifference
  whole : all_behind x i y j ≡ ds ++ all_behind x e y f
  missing : of_kind is_missing ds ≡ map (alone Missing x) (range_with_len i n)
  extra : of_kind is_extra ds ≡ map (alone Extra y) (range_with_len j m)
  changed : of_kind is_changed ds ≡ []

one-missing : (x y : Stretch) (i n e j m f : ℕ) → 2 * i + 1 < length x.bytes.now → IsBefore (stands x i) (stands y j) → Merged x y (i + 1) n e j m f → Merged x y i (suc n) e j m f
one-missing x y i n e j m f lx before rest = record {
  ds = alone Missing x i ∷ rest.ds;
  whole = missing_step x y i j lx before ∙ ap (λ ds. alone Missing x i ∷ ds) rest.whole;
  missing = ap (λ ds. alone Missing x i ∷ ds) rest.missing;
  extra = rest.extra;
  changed = rest.changed;
}

one-extra : (x y : Stretch) (i n e j m f : ℕ) → 2 * j + 1 < length y.bytes.now → IsBefore (stands y j) (stands x i) → Merged x y i n e (j + 1) m f → Merged x y i n e j (suc m) f
one-extra x y i n e j m f ly before rest = record {
  ds = alone Extra y j ∷ rest.ds;
  whole = extra_step x y i j ly before ∙ ap (λ ds. alone Extra y j ∷ ds) rest.whole;
  missing = rest.missing;
  extra = ap (λ ds. alone Extra y j ∷ ds) rest.extra;
  changed = rest.changed;
}

merged : (x y : Stretch) (i0 j0 e f : ℕ) → Block x y i0 j0 e f → (i n j m : ℕ) → i0 ≤ i → j0 ≤ j → i + n ≡ e → j + m ≡ f → Merged x y i n e j m f
merged x y i0 j0 e f block i zero j zero li lj ei ej =
    let here : i ≡ e = omega (arith, ei) in
    let there : j ≡ f = omega (arith, ej) in
    record {
      ds = [];
      whole = ap (λ k. all_behind x k y j) here ∙ ap (λ k. all_behind x e y k) there;
      missing = refl;
      extra = refl;
      changed = refl;
    }
merged x y i0 j0 e f block i (suc n) j zero li lj ei ej =
    let less : i < e = omega (arith, ei) in
    let there : f ≡ j = omega (arith, ej) in
    let lx = block.x_within in
    one-missing x y i n e j zero f (omega (arith, lx, less)) (subst (λ k. IsBefore (stands x i) (stands y k)) there (block.x_before i less))
    (merged x y i0 j0 e f block (i + 1) n j zero (omega (arith, li)) lj (omega (arith, ei)) ej)
merged x y i0 j0 e f block i zero j (suc m) li lj ei ej =
    let less : j < f = omega (arith, ej) in
    let here : e ≡ i = omega (arith, ei) in
    let ly = block.y_within in
    one-extra x y i zero e j m f (omega (arith, ly, less)) (subst (λ k. IsBefore (stands y j) (stands x k)) here (block.y_before j less))
    (merged x y i0 j0 e f block i zero (j + 1) m li (omega (arith, lj)) ei (omega (arith, ej)))
merged x y i0 j0 e f block i (suc n) j (suc m) li lj ei ej =
    let less-here : i < e = omega (arith, ei) in
    let less-there : j < f = omega (arith, ej) in
    let lx = block.x_within in
    let ly = block.y_within in
    by_before (stands x i) (stands y j)
    (λ before. one-missing x y i n e j (suc m) f (omega (arith, lx, less-here)) before
    (merged x y i0 j0 e f block (i + 1) n j (suc m) (omega (arith, li)) lj (omega (arith, ei)) ej))
    (λ not-before. by_before (stands y j) (stands x i)
    (λ behind. one-extra x y i (suc n) e j m f (omega (arith, ly, less-there)) behind
    (merged x y i0 j0 e f block i (suc n) (j + 1) m li (omega (arith, lj)) ei (omega (arith, ej))))
    (λ not-behind. absurd (block.apart i j li less-here lj less-there (both_same (stands x i) (stands y j) not-before not-behind))))

-- ---- whole strides

together-in : (x y : Stretch) (b : Begins x y) (p q : ℕ) → pos p *ℤ distance x y ≡ pos q *ℤ distance y x → p * (b.here).ps ≡ q * (b.there).ps
together-in x y b p q h =
    let e : pos p *ℤ pos (b.here).ps ≡ pos q *ℤ pos (b.there).ps = ap (λ z. pos p *ℤ z) (sym (b.here).is) ∙ h ∙ ap (λ z. pos q *ℤ z) (b.there).is in
    omega (arith, ints, e)

-- number k of both stand at one instant
stride-meets : (x y : Stretch) (b : Begins x y) (p q : ℕ) → p * (b.here).ps ≡ q * (b.there).ps → (k : ℕ) → (p * k) * (b.here).ps ≡ (q * k) * (b.there).ps
stride-meets x y b p q e k = let h : k * (p * (b.here).ps) ≡ k * (q * (b.there).ps) = ap (λ z. k * z) e in omega (arith, h)

stride-block : (x y : Stretch) (b : Begins x y) (p q : ℕ) → AreStrides x y (record { here = p; there = q }) → (k : ℕ) → 2 * (p * (k + 1)) ≤ length x.bytes.now → 2 * (q * (k + 1)) ≤ length y.bytes.now
    → Block x y (p * k + 1) (q * k + 1) (p * (k + 1)) (q * (k + 1))
stride-block x y b p q are k lx ly =
    let u = (b.here).ps in
    let v = (b.there).ps in
    let e = together-in x y b p q are.together in
    let begin = stride-meets x y b p q e k in
    let end = stride-meets x y b p q e (k + 1) in
    record {
      x_within = lx;
      y_within = ly;
      apart = λ i j li less-i lj less-j same.
          let i' = i - p * k in
          let j' = j - q * k in
          let ei : i ≡ p * k + i' = omega (arith, li) in
          let ej : j ≡ q * k + j' = omega (arith, lj) in
          let some : 0 < i' = omega (arith, li) in
          let less : i' < p = omega (arith, ei, less-i) in
          let fi : i * u ≡ (p * k + i') * u = ap (λ z. z * u) ei in
          let fj : j * v ≡ (q * k + j') * v = ap (λ z. z * v) ej in
          let one = meets x y b i j same in
          let h : i' * u ≡ j' * v = omega (arith, fi, fj, begin, one) in
          are.apart i' j' some less (ap (λ z. pos i' *ℤ z) (b.here).is ∙ omega (arith, ints, h) ∙ ap (λ z. pos j' *ℤ z) (sym (b.there).is));
      x_before = λ i less.
          let lt = mul-lt-mul_of_pos_right less (b.here).some in
          is-before x y b i (q * (k + 1)) (omega (arith, lt, end));
      y_before = λ j less.
          let lt = mul-lt-mul_of_pos_right less (b.there).some in
          is-behind x y b (p * (k + 1)) j (omega (arith, lt, end));
    }

-- the differences of n strides from number k on
record Strided (x y : Stretch) (p q k n : ℕ) : Type 0 where
  ds : List PointDifference
  whole : all_behind x (p * k) y (q * k) ≡ ds ++ all_behind x (p * (k + n)) y (q * (k + n))
  missing : of_kind is_missing ds ≡ map (alone Missing x) (between p k n)
  extra : of_kind is_extra ds ≡ map (alone Extra y) (between q k n)
  changed : of_kind is_changed ds ≡ map (λ j. change x (p * j) y (q * j)) (filter (values_differ_at p q x.bytes.now y.bytes.now) (range_with_len k n))

turned : (b : Bool) (d : PointDifference) → cond b [] (d ∷ []) ≡ cond (not b) (d ∷ []) []
turned true d = refl
turned false d = refl

of-parts : (is : SampleMismatch → Bool) (xs ys zs : List PointDifference) → of_kind is (xs ++ (ys ++ zs)) ≡ of_kind is xs ++ (of_kind is ys ++ of_kind is zs)
of-parts is xs ys zs = filter-append (λ d. is d.mismatch) xs (ys ++ zs) ∙ ap (λ es. of_kind is xs ++ es) (filter-append (λ d. is d.mismatch) ys zs)

no-kind : (is : SampleMismatch → Bool) (b : Bool) (d : PointDifference) → is d.mismatch ≡ false → of_kind is (cond b (d ∷ []) []) ≡ []
no-kind is true d h = rw h refl
no-kind is false d h = refl

all-kind : (is : SampleMismatch → Bool) (b : Bool) (d : PointDifference) → is d.mismatch ≡ true → of_kind is (cond b (d ∷ []) []) ≡ cond b (d ∷ []) []
all-kind is true d h = rw h refl
all-kind is false d h = refl

one-stride : (x y : Stretch) (b : Begins x y) (p q : ℕ) → AreStrides x y (record { here = suc p; there = suc q }) → (k n : ℕ)
    → 2 * (suc p * (k + suc n)) ≤ length x.bytes.now → 2 * (suc q * (k + suc n)) ≤ length y.bytes.now → Strided x y (suc p) (suc q) (k + 1) n → Strided x y (suc p) (suc q) k (suc n)
one-stride x y b p q are k n lx ly rest =
    let i = suc p * k in
    let j = suc q * k in
    let e = suc p * (k + 1) in
    let f = suc q * (k + 1) in
    let lx' : 2 * e ≤ length x.bytes.now = omega (arith, lx) in
    let ly' : 2 * f ≤ length y.bytes.now = omega (arith, ly) in
    let ei : i + 1 + p ≡ e = omega arith in
    let ej : j + 1 + q ≡ f = omega arith in
    let next : k + 1 + n ≡ k + suc n = omega arith in
    let block = stride-block x y b (suc p) (suc q) are k lx' ly' in
    let m = merged x y (i + 1) (j + 1) e f block (i + 1) p (j + 1) q (omega arith) (omega arith) ei ej in
    let same = meet x y b i j (stride-meets x y b (suc p) (suc q) (together-in x y b (suc p) (suc q) are.together) k) in
    let d : PointDifference = change x i y j in
    let eq = int_eq (digital_value x.bytes.now i) (digital_value y.bytes.now j) in
    let one : List PointDifference = cond (not eq) (d ∷ []) [] in
    let end = all_behind x (suc p * (k + suc n)) y (suc q * (k + suc n)) in
    let test = values_differ_at (suc p) (suc q) x.bytes.now y.bytes.now in
    let g : ℕ → PointDifference = λ l. change x (suc p * l) y (suc q * l) in
    let later = filter test (range_with_len (k + 1) n) in
    record {
      ds = one ++ (m.ds ++ rest.ds);
      whole =
          pair_step x y i j (omega (arith, lx')) (omega (arith, ly')) same
          ∙ ap (λ xs. xs ++ all_behind x (i + 1) y (j + 1)) (turned eq d)
          ∙ ap (λ es. one ++ es)
          (m.whole ∙ ap (λ es. m.ds ++ es) (rest.whole ∙ ap (λ l. rest.ds ++ all_behind x (suc p * l) y (suc q * l)) next) ∙ sym (append_assoc m.ds rest.ds end))
          ∙ sym (append_assoc one (m.ds ++ rest.ds) end);
      missing =
          of-parts is_missing one m.ds rest.ds
          ∙ ap (λ es. es ++ (of_kind is_missing m.ds ++ of_kind is_missing rest.ds)) (no-kind is_missing (not eq) d refl)
          ∙ ap (λ es. es ++ of_kind is_missing rest.ds) m.missing ∙ ap (λ es. map (alone Missing x) (range_with_len (i + 1) p) ++ es) rest.missing
          ∙ sym (map-append (alone Missing x) (range_with_len (i + 1) p) (between (suc p) (k + 1) n));
      extra =
          of-parts is_extra one m.ds rest.ds
          ∙ ap (λ es. es ++ (of_kind is_extra m.ds ++ of_kind is_extra rest.ds)) (no-kind is_extra (not eq) d refl)
          ∙ ap (λ es. es ++ of_kind is_extra rest.ds) m.extra ∙ ap (λ es. map (alone Extra y) (range_with_len (j + 1) q) ++ es) rest.extra
          ∙ sym (map-append (alone Extra y) (range_with_len (j + 1) q) (between (suc q) (k + 1) n));
      changed =
          of-parts is_changed one m.ds rest.ds
          ∙ ap (λ es. es ++ (of_kind is_changed m.ds ++ of_kind is_changed rest.ds)) (all-kind is_changed (not eq) d refl)
          ∙ ap (λ es. one ++ (es ++ of_kind is_changed rest.ds)) m.changed ∙ ap (λ es. one ++ es) rest.changed
          ∙ by_test (test k) (λ t. cond t (d ∷ []) [] ++ map g later ≡ map g (cond t (k ∷ later) later)) (λ h. refl) (λ h. refl);
    }

strided : (x y : Stretch) (b : Begins x y) (p q : ℕ) → AreStrides x y (record { here = suc p; there = suc q }) → (k n : ℕ)
    → 2 * (suc p * (k + n)) ≤ length x.bytes.now → 2 * (suc q * (k + n)) ≤ length y.bytes.now → Strided x y (suc p) (suc q) k n
strided x y b p q are k zero lx ly =
    let none : k ≡ k + 0 = omega arith in
    record {
      ds = [];
      whole = ap (λ l. all_behind x (suc p * l) y (suc q * l)) none;
      missing = refl;
      extra = refl;
      changed = refl;
    }
strided x y b p q are k (suc n) lx ly =
    let next : k + suc n ≡ k + 1 + n = omega arith in
    one-stride x y b p q are k n lx ly
    (strided x y b p q are (k + 1) n (subst (λ l. 2 * (suc p * l) ≤ length x.bytes.now) next lx) (subst (λ l. 2 * (suc q * l) ≤ length y.bytes.now) next ly))

-- ---- the first of the differences

none-first : (is : SampleMismatch → Bool) (ds es : List PointDifference) (some : 0 < length (of_kind is ds)) → first_of ds ≡ first_of (ds ++ es)
none-first is [] es some = absurd (omega (arith, some))
none-first is (d ∷ ds) es some = refl

some-between : (f : ℕ → PointDifference) (p k n : ℕ) → 0 < length (map f (between (suc (suc p)) k (suc n)))
some-between f p k n = omega arith

first-between : (f : ℕ → PointDifference) (p n : ℕ) → first_of (map f (between (suc (suc p)) 0 (suc n))) ≡ Some (f 1)
first-between f p n = let one : suc (suc p) * 0 + 1 ≡ 1 = omega arith in ap (λ k. Some (f k)) one

-- where one has more samples in a stride than the other, the second of its samples is the earlier one
denser-first : (p q u v : ℕ) → p * u ≡ q * v → q < p → 0 < v → u < v
denser-first p q u v e less some =
    let lt : q * v < p * v = mul-lt-mul_of_pos_right less some in
    let f : p * u < p * v = omega (arith, e, lt) in
    lt_of_mul-lt-mul_left p f

-- the first difference behind the first samples
first-alone : (x y : Stretch) (b : Begins x y) (p q : ℕ) → AreStrides x y (record { here = p; there = q }) → 2 * p ≤ length x.bytes.now → 2 * q ≤ length y.bytes.now
    → first_of (all_behind x 1 y 1) ≡ cond (nat_lt q p) (Some (alone Missing x 1)) (Some (alone Extra y 1))
first-alone x y b p q are lx ly =
    let e = together-in x y b p q are.together in
    by_test (nat_lt q p) (λ t. first_of (all_behind x 1 y 1) ≡ cond t (Some (alone Missing x 1)) (Some (alone Extra y 1)))
    (λ h.
    let less : q < p = ltb-true q p h in
    let some = are.some_there in
    let lt = denser-first p q (b.here).ps (b.there).ps e less (b.there).some in
    ap first_of (missing_step x y 1 1 (omega (arith, lx, less, some)) (is-before x y b 1 1 (omega (arith, lt)))))
    (λ h.
    let other = are.other_rates in
    let le = ltb-false q p h in
    let less : p < q = omega (arith, le, other) in
    let some = are.some_here in
    let lt = denser-first q p (b.there).ps (b.here).ps (sym e) less (b.here).some in
    ap first_of (extra_step x y 1 1 (omega (arith, ly, less, some)) (is-behind x y b 1 1 (omega (arith, lt)))))

-- ---- how many are alone

between-length : (p k n : ℕ) → length (between (suc p) k n) ≡ p * n
between-length p k zero = omega arith
between-length p k (suc n) =
    let r = between-length p (k + 1) n in
    length-append (range_with_len (suc p * k + 1) p) (between (suc p) (k + 1) n) ∙ (let e = length-range_with_len (suc p * k + 1) p in omega (arith, e, r))

between-last : (f : ℕ → PointDifference) (p k n : ℕ) → last_of (map f (between (suc (suc p)) k (suc n))) ≡ Some (f (suc (suc p) * (k + n) + suc p))
between-last f p k zero =
    let at : suc (suc p) * k + 1 + p ≡ suc (suc p) * (k + 0) + suc p = omega arith in
    ap (λ ks. last_of (map f ks)) (append-nil (range_with_len (suc (suc p) * k + 1) (suc p))) ∙ range_last f (suc (suc p) * k + 1) p ∙ ap (λ l. Some (f l)) at
between-last f p k (suc n) =
    let next : k + 1 + n ≡ k + suc n = omega arith in
    let front = range_with_len (suc (suc p) * k + 1) (suc p) in
    let rest = between (suc (suc p)) (k + 1) (suc n) in
    ap last_of (map-append f front rest) ∙ last_append (map f front) (map f rest)
    ∙ ap (λ o. option_or o (last_of (map f front))) (between-last f p (k + 1) n ∙ ap (λ l. Some (f (suc (suc p) * l + suc p))) next)

none-between : (k n : ℕ) → between 1 k n ≡ []
none-between k zero = refl
none-between k (suc n) = none-between (k + 1) n

pub stride_alone : (mismatch : SampleMismatch) (x : Stretch) (p n : ℕ) → p ≡ 1 → counted [] ≡ counted (map (alone mismatch x) (between p 0 n))
stride_alone mismatch x p n e = ap (λ ks. counted (map (alone mismatch x) ks)) (sym (none-between 0 n) ∙ ap (λ k. between k 0 n) (sym e))

pub stride_counted : (mismatch : SampleMismatch) (x : Stretch) (p n count : ℕ) (one last : PointDifference) → Fits w64 count → 0 < p → p ≢ 1 → 0 < n → count ≡ (p - 1) * n
    → one ≡ alone mismatch x 1 → last ≡ alone mismatch x (p * n - 1) → record { count = count; first = Some one; last = Some last } ≡ counted (map (alone mismatch x) (between p 0 n))
unfolding counted
stride_counted mismatch x zero n count one last fits pos-p more some is first end = absurd (omega (arith, pos-p))
stride_counted mismatch x (suc zero) n count one last fits pos-p more some is first end = absurd (more refl)
stride_counted mismatch x (suc (suc p)) zero count one last fits pos-p more some is first end = absurd (omega (arith, some))
stride_counted mismatch x (suc (suc p)) (suc n) count one last fits pos-p more some is first end =
    let ks = between (suc (suc p)) 0 (suc n) in
    let f : ℕ → PointDifference = alone mismatch x in
    let less : suc (suc p) - 1 ≡ suc p = omega arith in
    let size : count ≡ length (map f ks) = is ∙ ap (λ k. k * suc n) less ∙ sym (length-map ks f ∙ between-length (suc p) 0 (suc n)) in
    let at : suc (suc p) * suc n - 1 ≡ suc (suc p) * (0 + n) + suc p = omega arith in
    kind_same (record { count = count; first = Some one; last = Some last }) (counted (map f ks))
    (at-most count (2 ^ 64 - 1) (omega (arith, fits)) ∙ ap (λ k. min k (2 ^ 64 - 1)) size)
    (ap Some first ∙ sym (first-between f p n))
    (ap Some (end ∙ ap f at) ∙ sym (between-last f p 0 n))
  where
    at-most : (k m : ℕ) → k ≤ m → k ≡ min k m
    at-most k m le = omega (arith, le)

-- ---- the tally

strides-first : (x y : Stretch) (b : Begins x y) (p q n : ℕ) → AreStrides x y (record { here = suc p; there = suc q })
    → 2 * (suc p * (0 + suc n)) ≤ length x.bytes.now → 2 * (suc q * (0 + suc n)) ≤ length y.bytes.now → (s : Strided x y (suc p) (suc q) 0 (suc n))
    → first_of s.ds ≡ cond (values_differ_at (suc p) (suc q) x.bytes.now y.bytes.now 0) (Some (change x (suc p * 0) y (suc q * 0))) (cond (nat_lt (suc q) (suc p)) (Some (alone Missing x 1)) (Some (alone Extra y 1)))
strides-first x y b p q n are lx ly s =
    let i = suc p * 0 in
    let j = suc q * 0 in
    let one-i : i + 1 ≡ 1 = omega arith in
    let one-j : j + 1 ≡ 1 = omega arith in
    let lx' : 2 * suc p ≤ length x.bytes.now = omega (arith, lx) in
    let ly' : 2 * suc q ≤ length y.bytes.now = omega (arith, ly) in
    let eq = int_eq (digital_value x.bytes.now i) (digital_value y.bytes.now j) in
    let d : PointDifference = change x i y j in
    let same = meet x y b i j (stride-meets x y b (suc p) (suc q) (together-in x y b (suc p) (suc q) are.together) 0) in
    let rest = all_behind x (i + 1) y (j + 1) in
    nonempty p q are s
    ∙ ap first_of (sym s.whole ∙ pair_step x y i j (omega (arith, lx')) (omega (arith, ly')) same)
    ∙ by_test eq (λ t. first_of (cond t [] (d ∷ []) ++ rest) ≡ cond (not t) (Some d) (cond (nat_lt (suc q) (suc p)) (Some (alone Missing x 1)) (Some (alone Extra y 1))))
    (λ h. ap (λ k. first_of (all_behind x k y (j + 1))) one-i ∙ ap (λ k. first_of (all_behind x 1 y k)) one-j ∙ first-alone x y b (suc p) (suc q) are lx' ly')
    (λ h. refl)
  where
    nonempty : (p q : ℕ) → AreStrides x y (record { here = suc p; there = suc q }) → (s : Strided x y (suc p) (suc q) 0 (suc n))
        → first_of s.ds ≡ first_of (s.ds ++ all_behind x (suc p * (0 + suc n)) y (suc q * (0 + suc n)))
    nonempty zero zero are s = absurd (are.other_rates refl)
    nonempty zero (suc q) are s =
        none-first is_extra s.ds (all_behind x (suc zero * (0 + suc n)) y (suc (suc q) * (0 + suc n))) (subst (λ es. 0 < length es) (sym s.extra) (some-between (alone Extra y) q 0 n))
    nonempty (suc p) q are s =
        none-first is_missing s.ds (all_behind x (suc (suc p) * (0 + suc n)) y (suc q * (0 + suc n))) (subst (λ es. 0 < length es) (sym s.missing) (some-between (alone Missing x) p 0 n))

-- the first of all, by the first of those that one has alone
firsts-of-kinds : (x y : Stretch) (p q n : ℕ) → suc p ≢ suc q → (b : Bool) (one : Option PointDifference)
    → cond b one (cond (nat_lt (suc q) (suc p)) (Some (alone Missing x 1)) (Some (alone Extra y 1)))
    ≡ cond b one (cond (nat_lt (suc q) (suc p)) (first_of (map (alone Missing x) (between (suc p) 0 (suc n)))) (first_of (map (alone Extra y) (between (suc q) 0 (suc n)))))
firsts-of-kinds x y p q n other b one =
    ap (λ o. cond b one o)
    (by_test (nat_lt (suc q) (suc p))
    (λ t. cond t (Some (alone Missing x 1)) (Some (alone Extra y 1)) ≡ cond t (first_of (map (alone Missing x) (between (suc p) 0 (suc n)))) (first_of (map (alone Extra y) (between (suc q) 0 (suc n)))))
    (λ h. let less = ltb-true (suc q) (suc p) h in missing p (omega (arith, less))) (λ h. let le = ltb-false (suc q) (suc p) h in extra q (omega (arith, le, other))))
  where
    missing : (p : ℕ) → 0 < p → Some (alone Missing x 1) ≡ first_of (map (alone Missing x) (between (suc p) 0 (suc n)))
    missing zero some = absurd (omega (arith, some))
    missing (suc p) some = sym (first-between (alone Missing x) p n)

    extra : (q : ℕ) → 0 < q → Some (alone Extra y 1) ≡ first_of (map (alone Extra y) (between (suc q) 0 (suc n)))
    extra zero some = absurd (omega (arith, some))
    extra (suc q) some = sym (first-between (alone Extra y) q n)

pub begins_apart : (p q : ℕ) (xs ys : List ℕ) → not (int_eq (digital_value xs 0) (digital_value ys 0)) ≡ values_differ_at p q xs ys 0
begins_apart p q xs ys =
    let here : 0 ≡ p * 0 = omega arith in
    let there : 0 ≡ q * 0 = omega arith in
    ap (λ k. not (int_eq (digital_value xs k) (digital_value ys 0))) here ∙ ap (λ k. not (int_eq (digital_value xs (p * 0)) (digital_value ys k))) there

-- what was counted of n strides is the tally of their differences
pub strided_counted : (a b t : Tally) (c m e : Counted) (x y : Stretch) (p q n : ℕ) → 0 < x.den → 0 < y.den → x.num *ℤ pos y.den ≡ y.num *ℤ pos x.den
    → AreStrides x y (record { here = p; there = q }) → 0 < n → 2 * (p * n) ≤ length x.bytes.now → 2 * (q * n) ≤ length y.bytes.now
    → c ≡ counted (map (λ k. change x (p * k) y (q * k)) (filter (values_differ_at p q x.bytes.now y.bytes.now) (range_with_len 0 n)))
    → m ≡ counted (map (alone Missing x) (between p 0 n)) → e ≡ counted (map (alone Extra y) (between q 0 n))
    → t ≡ record { missing = m; extra = e; changed = c; first = cond (values_differ_at p q x.bytes.now y.bytes.now 0) (Some (change x 0 y 0)) (cond (nat_lt q p) m.first e.first) } → b ≡ joined a t
    → joined b (tally_of (all_behind x (p * n) y (q * n))) ≡ joined a (tally_of (all_behind x 0 y 0))
strided_counted a b t c m e x y zero q n px py start are some lx ly changes gone come is more = absurd (let h = are.some_here in omega (arith, h))
strided_counted a b t c m e x y (suc p) zero n px py start are some lx ly changes gone come is more = absurd (let h = are.some_there in omega (arith, h))
strided_counted a b t c m e x y (suc p) (suc q) zero px py start are some lx ly changes gone come is more = absurd (omega (arith, some))
strided_counted a b t c m e x y (suc p) (suc q) (suc n) px py start are some lx ly changes gone come is more =
    let begins : Begins x y = record { start = start; here = distance-of x y are.rises_here py; there = distance-of y x are.rises_there px } in
    let whole : 0 + suc n ≡ suc n = omega arith in
    let lx' = subst (λ k. 2 * (suc p * k) ≤ length x.bytes.now) (sym whole) lx in
    let ly' = subst (λ k. 2 * (suc q * k) ≤ length y.bytes.now) (sym whole) ly in
    let s = strided x y begins p q are 0 (suc n) lx' ly' in
    let test = values_differ_at (suc p) (suc q) x.bytes.now y.bytes.now in
    let g : ℕ → PointDifference = λ k. change x (suc p * k) y (suc q * k) in
    let cs = map g (filter test (range_with_len 0 (suc n))) in
    let ms = map (alone Missing x) (between (suc p) 0 (suc n)) in
    let es = map (alone Extra y) (between (suc q) 0 (suc n)) in
    let lt = nat_lt (suc q) (suc p) in
    let one : Option PointDifference = Some (change x 0 y 0) in
    let alone-first : Option PointDifference = cond lt (Some (alone Missing x 1)) (Some (alone Extra y 1)) in
    let made : Counted → Counted → Counted → Tally = λ k l j. record { missing = l; extra = j; changed = k; first = cond (test 0) one (cond lt l.first j.first) } in
    let none-i : suc p * 0 ≡ 0 = omega arith in
    let none-j : suc q * 0 ≡ 0 = omega arith in
    front_counted a b t s.ds x y (suc p * suc n) (suc q * suc n) more
    (is ∙ ap (λ k. made k m e) changes ∙ ap (λ k. made (counted cs) k e) gone ∙ ap (λ k. made (counted cs) (counted ms) k) come
    ∙ ap (λ o. record { missing = counted ms; extra = counted es; changed = counted cs; first = o })
    (ap (λ o. cond (test 0) one (cond lt o (counted es).first)) (first_counted ms)
    ∙ ap (λ o. cond (test 0) one (cond lt (first_of ms) o)) (first_counted es)
    ∙ sym
    (strides-first x y begins p q n are lx' ly' s
    ∙ ap (λ k. cond (test 0) (Some (change x k y (suc q * 0))) alone-first) none-i ∙ ap (λ k. cond (test 0) (Some (change x 0 y k)) alone-first) none-j
    ∙ firsts-of-kinds x y p q n are.other_rates (test 0) one))
    ∙ sym (tally_kinds s.ds ms es cs s.missing s.extra s.changed))
    (ap (λ k. all_behind x k y 0) (sym none-i) ∙ ap (λ k. all_behind x (suc p * 0) y k) (sym none-j) ∙ s.whole
    ∙ ap (λ k. s.ds ++ all_behind x (suc p * k) y (suc q * k)) whole)
