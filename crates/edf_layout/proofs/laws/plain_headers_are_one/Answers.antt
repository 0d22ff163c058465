use Rattle.edf_layout.proofs.plain.HeaderFacts.{plain_headers_are_one}
use Rattle.edf_layout.proofs.laws.plain_headers_are_one.Goals as goal

pub returns : goal.returns
returns c = plain_headers_are_one
