use Rattle.edf_check.proofs.SameFileFacts.{any_cut_of_export, any_cut_of_original}
use Rattle.edf_check.proofs.laws.the_cut_does_not_matter.Goals as goal

pub returns-clause-export : goal.returns-clause-export
returns-clause-export c = any_cut_of_export

pub returns-clause-original : goal.returns-clause-original
returns-clause-original c = any_cut_of_original
