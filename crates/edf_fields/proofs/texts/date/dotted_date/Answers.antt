use Rattle.edf_fields.proofs.texts.DateFacts.{dotted_day_read}
use Rattle.edf_fields.proofs.texts.date.dotted_date.Goals as goal

pub returns-clause-day : goal.returns-clause-day
returns-clause-day c = search dotted_day_read
