use Rattle.edf_check.proofs.StartFacts.{start_follows}
use Rattle.edf_check.proofs.laws.a_start_follows_from_the_samples.Goals as goal

pub returns : goal.returns
returns c = start_follows
