use Rattle.edf_check.proofs.parts.NoneFacts.{nothing_counted}
use Rattle.edf_check.proofs.laws.nothing_is_counted_exactly_where_samples_are_as_claimed.Goals as goal

pub returns : goal.returns
returns c = nothing_counted
