use Rattle.edf_layout.proofs.body.MeaningFacts.{layout_and_meaning_are_the_file}
use Rattle.edf_layout.proofs.laws.layout_and_meaning_are_the_file.Goals as goal

pub returns : goal.returns
returns c = layout_and_meaning_are_the_file
