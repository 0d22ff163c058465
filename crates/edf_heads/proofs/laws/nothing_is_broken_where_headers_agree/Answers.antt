use Rattle.edf_heads.proofs.KindFacts.{nothing_is_broken}
use Rattle.edf_heads.proofs.laws.nothing_is_broken_where_headers_agree.Goals as goal

pub returns : goal.returns
returns c = nothing_is_broken
