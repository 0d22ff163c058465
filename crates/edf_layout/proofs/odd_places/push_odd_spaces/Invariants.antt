use Rattle.std.proofs.Common.{◌≡◌, ◌+◌, ◌++◌, drop, map}
use Rattle.edf_layout.specs.OddPlaces.{odd_spaces}
use Rattle.edf_layout.proofs.odd_places.push_odd_spaces.Given as goal

abbrev pub invariant-loop-at : goal.invariant-loop-at
invariant-loop-at l =
    map (λ v. v.items) l.lines.items ++ odd_spaces l.field (l.at + 1) (drop l.at l.counts) ≡ map (λ v. v.items) l.initial.lines.items ++ odd_spaces l.field 1 l.counts
