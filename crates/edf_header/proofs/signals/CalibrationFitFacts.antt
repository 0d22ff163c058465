-- The products of two calibrations fit 128 bits.
use Rattle.std.proofs.Common.{ℕ, ◌≤◌, ◌*◌, ◌^◌, ℤ, ◌*ℤ◌, unsigned_abs, arith}
use Rattle.std.proofs.lemmas.Int.{ints, unsigned_abs-mul}
use Rattle.std.proofs.Math.Nat.{mul-le-mul}
use Rattle.edf_header.specs.signals.Calibrations.{CalibrationValue, digital_span, physical_span, offset_times_span}
use Rattle.edf_header.specs.signals.CalibrationLaws.{IsCalibration, CalibrationsFit}

product : (x y : ℤ) (a b : ℕ) → unsigned_abs x ≤ a → unsigned_abs y ≤ b → unsigned_abs (x *ℤ y) ≤ a * b
product x y a b p q = rw (unsigned_abs-mul x y) (mul-le-mul p q)

narrow : (l : CalibrationValue) → IsCalibration l → unsigned_abs (digital_span l) ≤ 65535
narrow l c = let low = c.low in let high = c.high in let order = c.order in omega (arith, ints, low, high, order)

wide : (l : CalibrationValue) → IsCalibration l → unsigned_abs (physical_span l) ≤ 2 * 10 ^ 15
wide l c = let low = (c.short).small_minimum in let high = (c.short).small_maximum in omega (arith, ints, low, high)

least : (l : CalibrationValue) → IsCalibration l → unsigned_abs l.physical_minimum ≤ 10 ^ 15
least l c = let low = (c.short).small_minimum in omega (arith, low)

first : (l : CalibrationValue) → IsCalibration l → unsigned_abs l.digital_minimum ≤ 32768
first l c = let low = c.low in let high = c.high in let order = c.order in omega (arith, ints, low, high, order)

minimum : (l : CalibrationValue) → IsCalibration l → unsigned_abs (l.physical_minimum *ℤ digital_span l) ≤ 10 ^ 15 * 65535
minimum l c = product l.physical_minimum (digital_span l) (10 ^ 15) 65535 (least l c) (narrow l c)

slope : (l : CalibrationValue) → IsCalibration l → unsigned_abs (l.digital_minimum *ℤ physical_span l) ≤ 32768 * (2 * 10 ^ 15)
slope l c = product l.digital_minimum (physical_span l) 32768 (2 * 10 ^ 15) (first l c) (wide l c)

offset : (l : CalibrationValue) → IsCalibration l → unsigned_abs (offset_times_span l) ≤ 2 * 10 ^ 20
offset l c = let p = minimum l c in let q = slope l c in omega (arith, ints, p, q)

pub calibrations_fit : CalibrationsFit
calibrations_fit l m c d = record {
  spans = (let p = product (physical_span l) (digital_span m) (2 * 10 ^ 15) 65535 (wide l c) (narrow m d) in omega (arith, p));
  minimum = (let p = minimum l c in omega (arith, p));
  slope = (let p = slope l c in omega (arith, p));
  offsets = (let p = product (offset_times_span l) (digital_span m) (2 * 10 ^ 20) 65535 (offset l c) (narrow m d) in omega (arith, p));
}
