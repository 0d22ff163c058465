use Rattle.edf_fields.proofs.texts.TimeFacts.{onset_is_spelled, span_is_spelled}
use Rattle.edf_fields.proofs.laws.times_are_as_spelled.Goals as goal

pub returns-clause-onset : goal.returns-clause-onset
returns-clause-onset c = onset_is_spelled

pub returns-clause-span : goal.returns-clause-span
returns-clause-span c = span_is_spelled
