use Rattle.std.proofs.Common.{refl, get_or}
use Rattle.edf_layout.specs.declared.plain_lanes.PlainTal.TheVariants as tals
use Rattle.edf_layout.proofs.lanes.PlainLaneFacts.{put-none, put-some}
use Rattle.edf_layout.proofs.plain_lanes.put_from.Goals as goal

pub returns-in_ok-push-clause-filled : goal.returns-in_ok-push-clause-filled
returns-in_ok-push-clause-filled c = λ notes is.
    put-some notes c.args.lanes.now c.args.at c.args.need c.in-Some.place c.args.number c.index-lanes-place.result (record { free = c.saturating_sub-lane.result; start = (get_or c.args.lanes.now c.in-Some.place c.index-lanes-place.result).start; notes = c.push.new.self })
    c.requires.within c.in-Some.ensures.place c.in-Some.ensures.within c.saturating_sub-lane.ensures refl c.in_ok-push.ensures.items is

pub returns-in_default-clause-filled : goal.returns-in_default-clause-filled
returns-in_default-clause-filled c = λ notes is.
    put-none notes c.args.lanes.now c.args.at c.args.need (tals.Annotates c.args.number) c.requires.within c.in_default.ensures.place is
