use Rattle.edf_header.proofs.HeadFacts.{one_head}
use Rattle.edf_header.proofs.laws.file_has_one_head.Goals as goal

pub returns : goal.returns
returns c = one_head
