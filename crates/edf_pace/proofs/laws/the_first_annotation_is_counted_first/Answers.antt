use Rattle.edf_pace.proofs.notes.OnlyInOneFacts.{first_is_first}
use Rattle.edf_pace.proofs.laws.the_first_annotation_is_counted_first.Goals as goal

pub returns : goal.returns
returns c = first_is_first
