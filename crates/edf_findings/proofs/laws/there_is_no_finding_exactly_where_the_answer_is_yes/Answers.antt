use Rattle.edf_findings.proofs.NoneFacts.{no_finding}
use Rattle.edf_findings.proofs.laws.there_is_no_finding_exactly_where_the_answer_is_yes.Goals as goal

pub returns : goal.returns
returns c = no_finding
