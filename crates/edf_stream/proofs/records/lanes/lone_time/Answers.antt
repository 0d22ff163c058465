use Rattle.edf_stream.proofs.records.SignalFacts.{lone-lane}
use Rattle.edf_stream.proofs.records.lanes.lone_time.Goals as goal

pub returns-in-len1-clause-alone : goal.returns-in-len1-clause-alone
returns-in-len1-clause-alone c =
    lone-lane c.annotation_places.result.now _ c.args.header.now.signals c.args.bytes.now c.placed_lane.result.now c.time_alone.result
    c.annotation_places.ensures c.in-len1.len_at_least c.in-len1.len_below c.placed_lane.ensures c.time_alone.ensures.items
