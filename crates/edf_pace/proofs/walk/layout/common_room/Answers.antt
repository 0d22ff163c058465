use Rattle.std.proofs.Common.{arith}
use Rattle.edf_pace.proofs.walk.LayoutFacts.{next_laid}
use Rattle.edf_pace.proofs.walk.layout.common_room.Goals as goal

pub loop-pair-preserved : goal.loop-pair-preserved
loop-pair-preserved c =
    next_laid c.args.original.now c.args.export.now c.loop-pair.room c.max-room.result c.in_ok-room_of.field-0 c.loop-pair.pair-index c.args.pairs.now _
    c.loop-pair-test.true (omega (arith, c.max-room.ensures)) (omega (arith, c.max-room.ensures)) c.loop-pair.invariant c.in_ok-room_of.ensures
