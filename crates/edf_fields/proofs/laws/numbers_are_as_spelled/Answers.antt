use Rattle.edf_fields.proofs.texts.NumberFacts.{header_number_is_spelled, whole_number_is_spelled}
use Rattle.edf_fields.proofs.laws.numbers_are_as_spelled.Goals as goal

pub returns-clause-header : goal.returns-clause-header
returns-clause-header c = header_number_is_spelled

pub returns-clause-whole : goal.returns-clause-whole
returns-clause-whole c = whole_number_is_spelled
