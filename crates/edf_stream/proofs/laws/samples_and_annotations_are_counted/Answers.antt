use Rattle.edf_stream.proofs.samples.CountFacts.{samples_are_counted, notes_are_counted}
use Rattle.edf_stream.proofs.laws.samples_and_annotations_are_counted.Goals as goal

pub returns-clause-samples : goal.returns-clause-samples
returns-clause-samples c = samples_are_counted

pub returns-clause-notes : goal.returns-clause-notes
returns-clause-notes c = notes_are_counted
