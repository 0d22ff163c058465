use Rattle.std.proofs.Common.{◌≡◌, ◌++◌, map}
use Rattle.edf_pace.specs.notes.OnlyInOne.{rest_from, said_at}
use Rattle.edf_pace.proofs.notes.only_in_one.push_rest.Given as goal

abbrev pub invariant-loop-place : goal.invariant-loop-place
invariant-loop-place l = map (said_at l.notes) l.places.items ++ rest_from l.notes l.place ≡ map (said_at l.notes) l.fn.places.items ++ rest_from l.notes l.from
