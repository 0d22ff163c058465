use Rattle.edf_check.proofs.parts.PartsFacts.{one_part}
use Rattle.edf_check.proofs.parts.PartsVerdictFacts.{one_part_verdict}
use Rattle.edf_check.proofs.laws.one_part_is_an_export.Goals as goal

pub returns-clause-export : goal.returns-clause-export
returns-clause-export c = one_part

pub returns-clause-verdict : goal.returns-clause-verdict
returns-clause-verdict c = one_part_verdict
