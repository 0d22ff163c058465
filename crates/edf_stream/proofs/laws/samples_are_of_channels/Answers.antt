use Rattle.edf_stream.proofs.samples.SampleLawFacts.{samples_are_of_channels}
use Rattle.edf_stream.proofs.laws.samples_are_of_channels.Goals as goal

pub returns : goal.returns
returns c = samples_are_of_channels
