use Rattle.edf_pace.proofs.ForCallers.{notes_in_words}
use Rattle.edf_check.proofs.laws.annotations_are_rearranged.Goals as goal

pub returns : goal.returns
returns c = notes_in_words
