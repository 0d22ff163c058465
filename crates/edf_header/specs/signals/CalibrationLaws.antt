-- Calibrations that were read, and what being the same line says of the values.
use Rattle.std.specs.Prelude.{◌≡◌, ◌≢◌, ◌<◌, ◌^◌, ℤ, ◌+ℤ◌, ◌-ℤ◌, ◌*ℤ◌, ◌<ℤ◌, ◌≤ℤ◌, pos, neg_ℤ, ◌↔◌, unsigned_abs}
use Rattle.edf_header.specs.signals.Calibrations.{CalibrationValue, digital_span, physical_span, offset_times_span, SameLine}

-- 8 bytes spell no number of 10^8, which bounds the physical extremes
pub record AreShort (l : CalibrationValue) : Type 0 where
  pub small_minimum : unsigned_abs l.physical_minimum < 10 ^ 15
  pub small_maximum : unsigned_abs l.physical_maximum < 10 ^ 15

-- a calibration that was read of fields of 8 bytes, with extremes as `IsSoundSignal` asks for them
pub record IsCalibration (l : CalibrationValue) : Type 0 where
  pub low : neg_ℤ (pos 32768) ≤ℤ l.digital_minimum
  pub high : l.digital_maximum ≤ℤ pos 32767
  pub order : l.digital_minimum <ℤ l.digital_maximum
  pub differ : l.physical_minimum ≢ l.physical_maximum
  pub short : AreShort l

-- being the same line is an equivalence of calibrations
abbrev pub SameLineIsEquivalence : Type 0
SameLineIsEquivalence =
    ((l : CalibrationValue) → SameLine l l)
    × ((l m : CalibrationValue) → SameLine l m → SameLine m l)
    × ((l m k : CalibrationValue) → m.digital_minimum <ℤ m.digital_maximum → SameLine l m → SameLine m k → SameLine l k)

-- the physical value of the digital value v, times the digital span: p * (dmax - dmin) = pmin * (dmax - dmin) + (v - dmin) * (pmax - pmin)
abbrev pub value_times_span : CalibrationValue → ℤ → ℤ
value_times_span l v = (l.physical_minimum *ℤ digital_span l) +ℤ ((v -ℤ l.digital_minimum) *ℤ physical_span l)

-- two are the same line exactly where each digital value has the same physical one, as a fraction over the digital span
abbrev pub SameLineIsSameValues : Type 0
SameLineIsSameValues =
    (l m : CalibrationValue)
    → SameLine l m ↔ ((v : ℤ) → value_times_span l v *ℤ digital_span m ≡ value_times_span m v *ℤ digital_span l)

-- the products by which two calibrations are compared fit 128 bits
pub record FitTogether (l m : CalibrationValue) : Type 0 where
  pub spans : unsigned_abs (physical_span l *ℤ digital_span m) < 2 ^ 127
  pub minimum : unsigned_abs (l.physical_minimum *ℤ digital_span l) < 2 ^ 127
  pub slope : unsigned_abs (l.digital_minimum *ℤ physical_span l) < 2 ^ 127
  pub offsets : unsigned_abs (offset_times_span l *ℤ digital_span m) < 2 ^ 127

abbrev pub CalibrationsFit : Type 0
CalibrationsFit = (l m : CalibrationValue) → IsCalibration l → IsCalibration m → FitTogether l m
