use Rattle.edf_layout.proofs.TellsFacts.{text_tells_layout}
use Rattle.edf_layout.proofs.laws.text_tells_the_layout.Goals as goal

pub returns : goal.returns
returns c = text_tells_layout
