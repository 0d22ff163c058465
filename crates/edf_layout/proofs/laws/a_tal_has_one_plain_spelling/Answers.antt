use Rattle.edf_layout.proofs.body.PlainTalFacts.{one_plain_tal}
use Rattle.edf_layout.proofs.laws.a_tal_has_one_plain_spelling.Goals as goal

pub returns : goal.returns
returns c = one_plain_tal
