use Rattle.edf_tal.proofs.StartFacts.{list-or-fault}
use Rattle.edf_tal.proofs.laws.lane_has_a_list_or_a_fault.Goals as goal

pub returns : goal.returns
returns c = list-or-fault
