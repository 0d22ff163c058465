use Rattle.edf_header.proofs.ConformingFacts.{passing_is_conforming, conforming_is_sound}
use Rattle.edf_header.proofs.laws.passing_is_being_in_order.Goals as goal

pub returns-clause-passing : goal.returns-clause-passing
returns-clause-passing c = passing_is_conforming

pub returns-clause-sound : goal.returns-clause-sound
returns-clause-sound c = conforming_is_sound
