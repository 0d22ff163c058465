use Rattle.edf_stream.proofs.samples.SampleLawFacts.{samples_rise}
use Rattle.edf_stream.proofs.laws.samples_rise.Goals as goal

pub returns : goal.returns
returns c = samples_rise
