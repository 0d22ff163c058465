use Rattle.edf_pace.proofs.notes.OnlyInOneFacts.{none_is_found}
use Rattle.edf_pace.proofs.laws.no_annotation_is_found_where_both_have_the_same.Goals as goal

pub returns : goal.returns
returns c = none_is_found
