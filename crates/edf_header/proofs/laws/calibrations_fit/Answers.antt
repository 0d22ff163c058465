use Rattle.edf_header.proofs.signals.CalibrationFitFacts.{calibrations_fit}
use Rattle.edf_header.proofs.laws.calibrations_fit.Goals as goal

pub returns : goal.returns
returns c = calibrations_fit
