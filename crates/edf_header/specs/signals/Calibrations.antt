-- The line from digital to physical values (EDF, "Header record": digital and physical minimum and maximum).
use Rattle.std.specs.Prelude.{◌≡◌, ℤ, ◌-ℤ◌, ◌*ℤ◌}

-- the extremes of a signal: physical ones in units of 10^-7 of the signal's dimension, and the digital values that they are given for
pub record CalibrationValue : Type 0 where
  pub physical_minimum : ℤ
  pub physical_maximum : ℤ
  pub digital_minimum : ℤ
  pub digital_maximum : ℤ

abbrev pub digital_span : CalibrationValue → ℤ
digital_span l = l.digital_maximum -ℤ l.digital_minimum

abbrev pub physical_span : CalibrationValue → ℤ
physical_span l = l.physical_maximum -ℤ l.physical_minimum

-- the physical value of the digital value 0, times the digital span
abbrev pub offset_times_span : CalibrationValue → ℤ
offset_times_span l = (l.physical_minimum *ℤ digital_span l) -ℤ (l.digital_minimum *ℤ physical_span l)

-- gain and offset of p = pmin + (v - dmin) * (pmax - pmin) / (dmax - dmin) are the same fractions: each digital value has the same physical one
abbrev pub SameLine : CalibrationValue → CalibrationValue → Type 0
SameLine l m =
    (physical_span l *ℤ digital_span m ≡ physical_span m *ℤ digital_span l)
    × (offset_times_span l *ℤ digital_span m ≡ offset_times_span m *ℤ digital_span l)
