-- The products of a check fit 128 bits.
use Rattle.std.proofs.Common.{ℕ, ◌≤◌, ◌+◌, ◌*◌, ◌^◌, ℤ, pos, neg_ℤ, ◌*ℤ◌, List, unsigned_abs, subst, arith}
use Rattle.std.proofs.lemmas.Int.{ints, unsigned_abs-mul}
use Rattle.std.proofs.Math.Nat.{mul-le-mul}
use Rattle.edf_claim.specs.Claims.{IsClaim, IsInterval}
use Rattle.edf_claim.specs.ClaimValues.{ClaimValue}
use Rattle.edf_claim.specs.declared.kept.interval.Interval.{Interval}
use Rattle.edf_fields.specs.Lists.{Has}
use Rattle.edf_fields.proofs.ForCallers.{at-has, get-index, get-within}
use Rattle.edf_header.specs.Heads.{SignalHead}
use Rattle.edf_header.specs.HeadsReading.{head_of}
use Rattle.edf_header.specs.signals.CalibrationLaws.{IsCalibration}
use Rattle.edf_header.specs.Sound.{HasShortNumbers}
use Rattle.edf_header.specs.Standard.{IsSoundSignal}
use Rattle.edf_header.proofs.ForCallers.{calibrations_fit}
use Rattle.edf_stream.specs.declared.times.instant.Instant.{Instant}
use Rattle.edf_stream.specs.Conforming.{Conforms}
use Rattle.edf_stream.specs.times.InstantOrder.{IsSmall}
use Rattle.edf_stream.specs.samples.Samples.{SampleValue, IsSample}
use Rattle.edf_stream.proofs.ForCallers.{instants_fit, sound-of}
use Rattle.edf_samples.specs.Instants.{later}
use Rattle.edf_pace.specs.Kept.{shift_ps}
use Rattle.edf_check.specs.KeptReading.{origin_of}
use Rattle.edf_check.specs.Laws.{AllProductsFit}

product : (x : ℤ) (n a : ℕ) → unsigned_abs x ≤ a → n ≤ 8388608 → unsigned_abs (x *ℤ pos n) ≤ a * 8388608
product x n a p q = rw (unsigned_abs-mul x (pos n)) (mul-le-mul p q)

turned : (x : ℤ) (n a : ℕ) → unsigned_abs x ≤ a → n ≤ 8388608 → unsigned_abs (pos n *ℤ x) ≤ 8388608 * a
turned x n a p q = rw (unsigned_abs-mul (pos n) x) (mul-le-mul q p)

-- an instant of a file, moved
moved-small : (t : Instant) (ps : ℤ) → IsSmall t → unsigned_abs ps ≤ 2 ^ 79 → unsigned_abs (later ps t).num ≤ 2 ^ 103 + 2 ^ 102
moved-small t ps s p =
    let num = s.0 in
    let den = s.2 in
    let q = turned ps t.den (2 ^ 79) p (omega (arith, den)) in
    omega (arith, ints, num, q)

small-of : (file : List ℕ) (x : SampleValue) → Conforms file (head_of file) → IsSample file (head_of file) x → IsSmall x.instant
small-of file x c s = (instants_fit file file (head_of file) (head_of file) c c x x s s).0

interval-of : (claim : ClaimValue) (i : Interval) → IsClaim claim → Has claim.keep i → IsInterval i
interval-of claim i c h =
    let at = at-has claim.keep i h in
    subst IsInterval (get-index claim.keep at.0 i i at.1) (c.intervals at.0 i (get-within claim.keep at.0 i at.1))

calibration-of : (file : List ℕ) (x : SignalHead) → Conforms file (head_of file) → Has (head_of file).signals x → IsCalibration x.calibration
calibration-of file x c i =
    let h = head_of file in
    let sound = sound-of file h c in
    let at = at-has h.signals x i in
    let within = get-within h.signals at.0 x at.1 in
    let signal : IsSoundSignal x = subst IsSoundSignal (get-index h.signals at.0 x x at.1) ((sound.standard).signals at.0 x within) in
    let numbers : HasShortNumbers x = subst HasShortNumbers (get-index h.signals at.0 x x at.1) ((sound.bounds).signals at.0 x within) in
    record { low = signal.low; high = signal.high; order = signal.order; differ = signal.differ; short = numbers.extremes }

start-near : (file : List ℕ) → Conforms file (head_of file) → unsigned_abs (origin_of file) ≤ 2 ^ 79
start-near file c =
    let bounds = (sound-of file (head_of file) c).bounds in
    let near = bounds.near in
    let early = bounds.early in
    omega (arith, ints, near, early)

pub shift-small : (claim : ClaimValue) → IsClaim claim → unsigned_abs (shift_ps claim) ≤ 2 ^ 79
shift-small claim c = let low = c.not_far_back in let high = c.not_far_on in omega (arith, ints, low, high)

pub products_fit : AllProductsFit
products_fit original export claim both c = record {
  bounds = λ x i s h.
      let w = interval-of claim i c h in
      let start = w.start in
      let order = w.order in
      let near = w.near in
      let few = (small-of original x both.original_conforms s).2 in
      let low = product i.from_ps (x.instant).den (10 ^ 21) (omega (arith, ints, start, order, near)) (omega (arith, few)) in
      let high = product i.to_ps (x.instant).den (10 ^ 21) (omega (arith, ints, start, order, near)) (omega (arith, few)) in
      (omega (arith, low), omega (arith, high));
  shifts = λ x s.
      let few = (small-of original x both.original_conforms s).2 in
      let start = product (origin_of original) (x.instant).den (2 ^ 79) (start-near original both.original_conforms) (omega (arith, few)) in
      let shift = product (shift_ps claim) (x.instant).den (2 ^ 79) (shift-small claim c) (omega (arith, few)) in
      (omega (arith, start), omega (arith, shift));
  kept = λ x s.
      let near = start-near original both.original_conforms in
      let p = moved-small x.instant (neg_ℤ (origin_of original)) (small-of original x both.original_conforms s) (omega (arith, ints, near)) in
      omega (arith, p);
  moved = λ x y s t.
      let p = moved-small x.instant (shift_ps claim) (small-of original x both.original_conforms s) (shift-small claim c) in
      let few = (small-of export y both.export_conforms t).2 in
      let q = product (later (shift_ps claim) x.instant).num (y.instant).den (2 ^ 103 + 2 ^ 102) p (omega (arith, few)) in
      (omega (arith, q), (instants_fit export original (head_of export) (head_of original) both.export_conforms both.original_conforms y x t s).1);
  calibrations = λ x y i j.
      let one = calibration-of original x both.original_conforms i in
      let other = calibration-of export y both.export_conforms j in
      (calibrations_fit x.calibration y.calibration one other, calibrations_fit y.calibration x.calibration other one);
}
