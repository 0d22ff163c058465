use Rattle.edf_tal.proofs.ReadFacts.{one-list}
use Rattle.edf_tal.proofs.laws.lane_has_one_list.Goals as goal

pub returns : goal.returns
returns c lane tals others h k = one-list lane tals others h k
