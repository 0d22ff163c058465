use Rattle.edf_layout.proofs.body.MeaningFacts.{body_has_one_layout}
use Rattle.edf_layout.proofs.laws.body_has_one_layout.Goals as goal

pub returns : goal.returns
returns c = body_has_one_layout
