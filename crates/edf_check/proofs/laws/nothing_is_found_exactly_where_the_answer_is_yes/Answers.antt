use Rattle.edf_check.proofs.parts.NoneFacts.{nothing_found}
use Rattle.edf_check.proofs.laws.nothing_is_found_exactly_where_the_answer_is_yes.Goals as goal

pub returns : goal.returns
returns c = nothing_found
