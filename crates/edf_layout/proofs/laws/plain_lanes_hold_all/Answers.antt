use Rattle.edf_layout.proofs.body.RoomFacts.{plain_lanes_hold_all}
use Rattle.edf_layout.proofs.laws.plain_lanes_hold_all.Goals as goal

pub returns : goal.returns
returns c = plain_lanes_hold_all
