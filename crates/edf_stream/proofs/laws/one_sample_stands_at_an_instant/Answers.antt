use Rattle.edf_stream.proofs.samples.SampleLawFacts.{one_at_an_instant}
use Rattle.edf_stream.proofs.laws.one_sample_stands_at_an_instant.Goals as goal

pub returns : goal.returns
returns c = one_at_an_instant
