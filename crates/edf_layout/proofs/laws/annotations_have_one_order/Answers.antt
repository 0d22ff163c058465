use Rattle.edf_layout.proofs.body.OrderFacts.{one_order, places_tell}
use Rattle.edf_layout.proofs.laws.annotations_have_one_order.Goals as goal

pub returns-clause-one : goal.returns-clause-one
returns-clause-one c = one_order

pub returns-clause-place : goal.returns-clause-place
returns-clause-place c = places_tell
