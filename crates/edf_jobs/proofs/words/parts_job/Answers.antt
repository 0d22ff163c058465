use Rattle.edf_jobs.specs.Jobs.{behind_first}
use Rattle.edf_jobs.proofs.WordFacts.{no_parts}
use Rattle.edf_jobs.proofs.words.parts_job.Goals as goal

pub returns-in-None-clause-none : goal.returns-in-None-clause-none
returns-in-None-clause-none c = no_parts (behind_first c.args.words.now) c.parts_draft.result c.in-None.ensures.none c.parts_draft.ensures.none
