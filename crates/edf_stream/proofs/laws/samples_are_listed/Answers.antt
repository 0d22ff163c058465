use Rattle.edf_stream.proofs.samples.SampleLawFacts.{samples_are_listed}
use Rattle.edf_stream.proofs.laws.samples_are_listed.Goals as goal

pub returns : goal.returns
returns c = samples_are_listed
