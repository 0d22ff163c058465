use Rattle.edf_layout.proofs.plain.LawFacts.{one_plain_header_number, one_plain_whole_number, one_plain_onset, one_plain_span}
use Rattle.edf_layout.proofs.laws.spellings_are_plain_in_one_way.Goals as goal

pub returns-clause-header_number : goal.returns-clause-header_number
returns-clause-header_number c = one_plain_header_number

pub returns-clause-whole_number : goal.returns-clause-whole_number
returns-clause-whole_number c = one_plain_whole_number

pub returns-clause-onset : goal.returns-clause-onset
returns-clause-onset c = one_plain_onset

pub returns-clause-span : goal.returns-clause-span
returns-clause-span c = one_plain_span
