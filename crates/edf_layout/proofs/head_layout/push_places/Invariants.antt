use Rattle.std.proofs.Common.{◌≡◌, ◌++◌, drop, map}
use Rattle.edf_layout.specs.OddPlaces.{place_lines}
use Rattle.edf_layout.proofs.head_layout.push_places.Given as goal

abbrev pub invariant-loop-place : goal.invariant-loop-place
invariant-loop-place l = l.text.items ++ place_lines (map (λ v. v.items) (drop l.place-index l.places)) ≡ l.initial.text.items ++ place_lines (map (λ v. v.items) l.places)
