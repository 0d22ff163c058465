use Rattle.edf_layout.proofs.lanes.PlainBodyFacts.{plain_bodies_have_no_odd_lane}
use Rattle.edf_layout.proofs.laws.plain_bodies_have_no_odd_lane.Goals as goal

pub returns : goal.returns
returns c = plain_bodies_have_no_odd_lane
