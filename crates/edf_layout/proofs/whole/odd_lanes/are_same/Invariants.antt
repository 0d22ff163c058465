use Rattle.std.proofs.Common.{◌≡◌, map, take}
use Rattle.edf_layout.specs.body.LaidTals.{laid_view}
use Rattle.edf_layout.proofs.whole.odd_lanes.are_same.Given as goal

abbrev pub invariant-loop-place : goal.invariant-loop-place
invariant-loop-place l = map laid_view (take l.place l.tals) ≡ map laid_view (take l.place l.others)
