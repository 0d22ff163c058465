use Rattle.edf_stream.proofs.samples.BoundFacts.{instants_fit}
use Rattle.edf_stream.proofs.laws.instants_fit.Goals as goal

pub returns : goal.returns
returns c = instants_fit
