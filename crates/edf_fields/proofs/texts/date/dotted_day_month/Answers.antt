use Rattle.edf_fields.proofs.texts.DateFacts.{day_month_read}
use Rattle.edf_fields.proofs.texts.date.dotted_day_month.Goals as goal

pub returns-clause-value : goal.returns-clause-value
returns-clause-value c = search day_month_read
