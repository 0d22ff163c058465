use Rattle.edf_jobs.specs.Jobs.{behind_first}
use Rattle.edf_jobs.proofs.WordFacts.{no_job}
use Rattle.edf_jobs.proofs.words.job_of.Goals as goal

pub returns-in-None-clause-none : goal.returns-in-None-clause-none
returns-in-None-clause-none c = no_job (behind_first c.args.words.now) c.other_job.result c.in-None.ensures.none c.other_job.ensures.none
