use Rattle.edf_check.proofs.parts.OnePartsVerdictFacts.{one_verdict}
use Rattle.edf_check.proofs.laws.there_is_one_verdict.Goals as goal

pub returns : goal.returns
returns c = one_verdict
