-- The calibrations of the channels.
use Rattle.std.specs.Prelude.{◌≡◌}
use Rattle.edf_header.specs.signals.Calibrations.{SameLine}
use Rattle.edf_header.specs.Heads.{SignalHead}

-- two channels have the same dimension, and each digital value the same physical one in both (EDF, "Header record": physical
-- dimension, digital and physical minimum and maximum)
pub record HaveSameCalibration (x y : SignalHead) : Type 0 where
  pub dimension : x.dimension ≡ y.dimension
  pub line : SameLine x.calibration y.calibration
