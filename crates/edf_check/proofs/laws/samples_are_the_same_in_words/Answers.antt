use Rattle.edf_check.proofs.WordsFacts.{samples_in_words}
use Rattle.edf_check.proofs.laws.samples_are_the_same_in_words.Goals as goal

pub returns : goal.returns
returns c = samples_in_words
