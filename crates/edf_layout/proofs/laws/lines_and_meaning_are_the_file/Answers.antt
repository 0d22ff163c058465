use Rattle.edf_layout.proofs.body.LineLawFacts.{file_has_one_layout, lines_tell_layout, lines_and_meaning_are_the_file}
use Rattle.edf_layout.proofs.laws.lines_and_meaning_are_the_file.Goals as goal

pub returns-clause-one : goal.returns-clause-one
returns-clause-one c = file_has_one_layout

pub returns-clause-told : goal.returns-clause-told
returns-clause-told c = lines_tell_layout

pub returns-clause-all : goal.returns-clause-all
returns-clause-all c = lines_and_meaning_are_the_file
