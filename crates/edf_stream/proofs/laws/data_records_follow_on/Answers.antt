use Rattle.edf_stream.proofs.FaultlessFacts.{records_follow_on}
use Rattle.edf_stream.proofs.laws.data_records_follow_on.Goals as goal

pub returns : goal.returns
returns c = records_follow_on
