use Rattle.edf_all_told.proofs.ToldFacts.{all_is_told}
use Rattle.edf_all_told.proofs.laws.all_differences_of_samples_are_told.Goals as goal

pub returns : goal.returns
returns c = all_is_told
