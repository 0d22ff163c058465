use Rattle.edf_one_export.proofs.ExportFacts.{lines_tell_export, text_tells_export}
use Rattle.edf_one_export.proofs.laws.a_yes_and_the_lines_are_the_export.Goals as goal

pub returns-clause-lines : goal.returns-clause-lines
returns-clause-lines c = lines_tell_export

pub returns-clause-text : goal.returns-clause-text
returns-clause-text c = text_tells_export
