use Rattle.edf_layout.proofs.lanes.PlainLaneFacts.{bare-pushed}
use Rattle.edf_layout.proofs.plain_lanes.push_bare.Goals as goal

pub returns-in_ok-push_empty : goal.returns-in_ok-push_empty
returns-in_ok-push_empty c = λ notes.
    bare-pushed notes c.args.sizes.now c.args.start.now c.args.lanes.now.items c.push.new.self.items c.push_empty.new.lanes.items c.in_ok-timed_lane.field-0 _ c.in-len1-up.len_at_least
    (c.in_ok-timed_lane.ensures notes) c.in_ok-push.ensures.items (c.in_ok-push_empty.ensures notes)
