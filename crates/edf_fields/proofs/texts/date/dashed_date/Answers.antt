use Rattle.edf_fields.proofs.texts.DateFacts.{dashed_day_read}
use Rattle.edf_fields.proofs.texts.date.dashed_date.Goals as goal

pub returns-clause-day : goal.returns-clause-day
returns-clause-day c = search dashed_day_read
