use Rattle.edf_stream.proofs.samples.BoundFacts.{start_is_of_least}
use Rattle.edf_stream.proofs.laws.a_file_starts_with_its_least_sample.Goals as goal

pub returns : goal.returns
returns c = start_is_of_least
