use Rattle.edf_fields.proofs.texts.DateFacts.{dotted_day_is_named, day_month_is_named, dashed_day_is_named, clock_time_is_named}
use Rattle.edf_fields.proofs.laws.days_are_as_named.Goals as goal

pub returns-clause-dotted : goal.returns-clause-dotted
returns-clause-dotted c = dotted_day_is_named

pub returns-clause-dashed : goal.returns-clause-dashed
returns-clause-dashed c = dashed_day_is_named

pub returns-clause-clock : goal.returns-clause-clock
returns-clause-clock c = clock_time_is_named

pub returns-clause-day_month : goal.returns-clause-day_month
returns-clause-day_month c = day_month_is_named
