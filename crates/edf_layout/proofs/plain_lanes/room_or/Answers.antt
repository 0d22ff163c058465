use Rattle.std.proofs.Common.{rules, length, ◌∙◌, sym}
use Rattle.edf_layout.proofs.lanes.RoomSearchFacts.{looked-block}
use Rattle.edf_layout.proofs.plain_lanes.room_or.Goals as goal

pub loop-at-preserved-then-is_full : goal.loop-at-preserved-then-is_full
loop-at-preserved-then-is_full c =
    looked-block c.args.lanes.now c.loop-at.full c.args.need c.args.from c.args.to c.loop-at.at c.min-at.result (length c.args.full.now) _
    c.requires.within c.loop-at-test.true (search rules) (sym c.is_full.ensures ∙ c.if-is_full.true) (search rules) (search rules) (search rules) c.loop-at.invariant
