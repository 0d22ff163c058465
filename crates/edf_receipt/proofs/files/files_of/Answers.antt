use Rattle.std.proofs.Common.{[], ◌∷◌}
use Rattle.edf_receipt.proofs.files.files_of.Goals as goal

pub returns-clause-files : goal.returns-clause-files
returns-clause-files g c = λ first second o e i. c.in-Ok.ensures.line first o i ∷ c.in-Ok-line_of.ensures.line second e i ∷ c.claim_line.ensures i ∷ []
