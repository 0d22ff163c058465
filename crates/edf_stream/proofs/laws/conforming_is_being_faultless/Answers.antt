use Rattle.edf_stream.proofs.FaultlessFacts.{conforming_is_faultless}
use Rattle.edf_stream.proofs.laws.conforming_is_being_faultless.Goals as goal

pub returns : goal.returns
returns c = conforming_is_faultless
