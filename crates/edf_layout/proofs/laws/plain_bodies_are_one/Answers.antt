use Rattle.edf_layout.proofs.body.PlainFacts.{plain_bodies_are_one}
use Rattle.edf_layout.proofs.laws.plain_bodies_are_one.Goals as goal

pub returns : goal.returns
returns c = plain_bodies_are_one
