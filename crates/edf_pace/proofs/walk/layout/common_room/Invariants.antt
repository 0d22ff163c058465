use Rattle.std.specs.List.{AllWithin}
use Rattle.edf_pace.specs.walk.Pairs.{AreLaidAlike}
use Rattle.edf_pace.proofs.walk.layout.common_room.Given as goal

abbrev pub invariant-loop-pair : goal.invariant-loop-pair
invariant-loop-pair l = AllWithin (AreLaidAlike l.original l.export l.room) l.pairs 0 l.pair-index
