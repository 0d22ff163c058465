-- The extremes that the code holds.
use Rattle.edf_header.specs.signals.Calibrations.{CalibrationValue}
use Rattle.edf_header.specs.declared.signals.judge_signal.Extremes.{Extremes}

abbrev pub extremes_line : Extremes → CalibrationValue
extremes_line v = record {
  physical_minimum = v.physical_minimum;
  physical_maximum = v.physical_maximum;
  digital_minimum = v.digital_minimum;
  digital_maximum = v.digital_maximum;
}
