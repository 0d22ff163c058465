use Rattle.edf_layout.proofs.HeadFacts.{layout_is_the_rest}
use Rattle.edf_layout.proofs.laws.layout_is_the_rest.Goals as goal

pub returns : goal.returns
returns c = layout_is_the_rest
