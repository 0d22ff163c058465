use Rattle.edf_check.proofs.parts.OnePartsVerdictFacts.{yes_together}
use Rattle.edf_check.proofs.laws.a_yes_is_given_exactly_for_all_parts_together.Goals as goal

pub returns : goal.returns
returns c = yes_together
