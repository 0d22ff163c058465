use Rattle.edf_layout.proofs.body.LaneFacts.{file_is_its_parts}
use Rattle.edf_layout.proofs.laws.file_is_its_parts.Goals as goal

pub returns : goal.returns
returns c = file_is_its_parts
