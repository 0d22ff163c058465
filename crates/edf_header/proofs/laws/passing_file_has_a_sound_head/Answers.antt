use Rattle.edf_header.proofs.HeadFacts.{passing_has_head, passing_is_sound}
use Rattle.edf_header.proofs.laws.passing_file_has_a_sound_head.Goals as goal

pub returns-clause-head : goal.returns-clause-head
returns-clause-head c = passing_has_head

pub returns-clause-sound : goal.returns-clause-sound
returns-clause-sound c = passing_is_sound
