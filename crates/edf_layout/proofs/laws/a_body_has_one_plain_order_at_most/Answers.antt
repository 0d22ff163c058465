use Rattle.edf_layout.proofs.body.PlainFacts.{one_order_at_most}
use Rattle.edf_layout.proofs.laws.a_body_has_one_plain_order_at_most.Goals as goal

pub returns : goal.returns
returns c = one_order_at_most
