use Rattle.edf_claim.proofs.SaidFacts.{claim-or-fault}
use Rattle.edf_claim.proofs.laws.tables_say_a_claim_or_fail.Goals as goal

pub returns : goal.returns
returns c = claim-or-fault
