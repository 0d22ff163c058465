use Rattle.edf_stream.proofs.records.ReadFacts.{notes_are_said, notes_are_read, has_its_notes}
use Rattle.edf_stream.proofs.laws.annotations_are_said.Goals as goal

pub returns-clause-said : goal.returns-clause-said
returns-clause-said c = notes_are_said

pub returns-clause-notes : goal.returns-clause-notes
returns-clause-notes c = has_its_notes

pub returns-clause-read : goal.returns-clause-read
returns-clause-read c = notes_are_read
