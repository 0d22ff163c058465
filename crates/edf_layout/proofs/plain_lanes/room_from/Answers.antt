use Rattle.std.proofs.Common.{cond, Some, None, ap, ◌∙◌, sym, lt-ltb, le-ltb}
use Rattle.edf_layout.proofs.lanes.RoomSearchFacts.{found-behind, found-before}
use Rattle.edf_layout.proofs.plain_lanes.room_from.Goals as goal

pub returns-then-place-lanes-clause-place : goal.returns-then-place-lanes-clause-place
returns-then-place-lanes-clause-place c = found-behind c.args.lanes.now c.args.need c.args.at c.room_or-place.result c.requires.within c.room_or-place.ensures.first c.if-place-lanes.true

pub returns-then-before-at-clause-place : goal.returns-then-before-at-clause-place
returns-then-before-at-clause-place c =
    sym (ap (λ b. cond b (Some c.room_or-before.result) None) (lt-ltb c.room_or-before.result c.args.at c.if-before-at.true))
    ∙ found-before c.args.lanes.now c.args.need c.args.at c.room_or-place.result c.room_or-before.result c.requires.within c.room_or-place.ensures.first c.if-place-lanes.false c.room_or-before.ensures.first

pub returns-else-before-at-clause-place : goal.returns-else-before-at-clause-place
returns-else-before-at-clause-place c =
    sym (ap (λ b. cond b (Some c.room_or-before.result) None) (le-ltb c.room_or-before.result c.args.at c.if-before-at.false))
    ∙ found-before c.args.lanes.now c.args.need c.args.at c.room_or-place.result c.room_or-before.result c.requires.within c.room_or-place.ensures.first c.if-place-lanes.false c.room_or-before.ensures.first
