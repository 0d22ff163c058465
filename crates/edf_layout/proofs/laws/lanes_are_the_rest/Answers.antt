use Rattle.edf_layout.proofs.body.BodyFacts.{lanes_are_the_rest}
use Rattle.edf_layout.proofs.laws.lanes_are_the_rest.Goals as goal

pub returns : goal.returns
returns c = lanes_are_the_rest
