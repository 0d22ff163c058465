use Rattle.edf_tal.proofs.TextFacts.{first_text_at}
use Rattle.edf_tal.proofs.annotation_text.first_text.Goals as goal

pub returns : goal.returns
returns c = first_text_at c.args.body.now c.cut.result c.cut.ensures
