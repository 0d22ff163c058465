use Rattle.edf_jobs.specs.Jobs.{behind_first}
use Rattle.edf_jobs.proofs.WordFacts.{no_other}
use Rattle.edf_jobs.proofs.words.other_job.Goals as goal

pub returns-in-None-clause-none : goal.returns-in-None-clause-none
returns-in-None-clause-none c = no_other (behind_first c.args.words.now) c.file_job.result c.in-None.ensures.none c.file_job.ensures.none
