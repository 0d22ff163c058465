use Rattle.edf_heads.proofs.KindFacts.{first_is_broken}
use Rattle.edf_heads.proofs.laws.the_first_is_broken.Goals as goal

pub returns : goal.returns
returns c = first_is_broken
