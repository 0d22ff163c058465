use Rattle.edf_claim.proofs.SaidFacts.{one-claim}
use Rattle.edf_claim.proofs.laws.tables_say_one_claim.Goals as goal

pub returns : goal.returns
returns c = one-claim
