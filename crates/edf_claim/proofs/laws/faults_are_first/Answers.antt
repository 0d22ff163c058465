use Rattle.edf_claim.proofs.SaidFacts.{fault-is-first}
use Rattle.edf_claim.proofs.laws.faults_are_first.Goals as goal

pub returns : goal.returns
returns c = fault-is-first
