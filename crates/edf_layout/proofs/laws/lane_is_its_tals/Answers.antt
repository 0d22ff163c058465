use Rattle.edf_layout.proofs.body.LaneFacts.{lanes_have_layouts, lane_is_its_tals}
use Rattle.edf_layout.proofs.laws.lane_is_its_tals.Goals as goal

pub returns-clause-some : goal.returns-clause-some
returns-clause-some c = lanes_have_layouts

pub returns-clause-one : goal.returns-clause-one
returns-clause-one c = lane_is_its_tals
