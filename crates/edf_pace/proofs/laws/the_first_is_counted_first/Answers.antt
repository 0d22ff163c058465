use Rattle.edf_pace.proofs.walk.watchers.CountFacts.{earliest_is_counted}
use Rattle.edf_pace.proofs.laws.the_first_is_counted_first.Goals as goal

pub returns : goal.returns
returns c = earliest_is_counted
