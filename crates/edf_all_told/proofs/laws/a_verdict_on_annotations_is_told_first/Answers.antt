use Rattle.edf_all_told.proofs.NoteFacts.{first_note_is_told, first_note_is_told_of_several}
use Rattle.edf_all_told.proofs.laws.a_verdict_on_annotations_is_told_first.Goals as goal

pub returns-clause-one : goal.returns-clause-one
returns-clause-one c = first_note_is_told

pub returns-clause-several : goal.returns-clause-several
returns-clause-several c = first_note_is_told_of_several
