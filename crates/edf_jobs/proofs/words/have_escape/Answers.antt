use Rattle.std.proofs.Common.{codes}
use Rattle.edf_jobs.proofs.WordFacts.{contains_text}
use Rattle.edf_jobs.proofs.words.have_escape.Goals as goal

pub returns : goal.returns
returns c = contains_text c.args.words.now (codes "--") c.contains.result c.contains.ensures.cases
