use Rattle.edf_check.proofs.HeadlineFacts.{headline_exactly}
use Rattle.edf_check.proofs.parts.OnePartsVerdictFacts.{yes_exactly}
use Rattle.edf_check.proofs.laws.a_yes_is_given_exactly_for_an_export.Goals as goal

pub returns-clause-yes : goal.returns-clause-yes
returns-clause-yes c = yes_exactly

pub returns-clause-headline : goal.returns-clause-headline
returns-clause-headline c = headline_exactly
