use Rattle.edf_check.proofs.SomeVerdictFacts.{some_verdict}
use Rattle.edf_check.proofs.laws.there_is_a_verdict.Goals as goal

pub returns : goal.returns
returns c = some_verdict
