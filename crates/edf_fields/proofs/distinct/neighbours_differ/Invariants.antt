use Rattle.std.proofs.Common.{◌≡◌, ◌-◌, map, drop}
use Rattle.edf_fields.specs.Distinct.{are_distinct}
use Rattle.edf_fields.proofs.distinct.neighbours_differ.Given as goal

abbrev pub invariant-loop-later : goal.invariant-loop-later
invariant-loop-later l = are_distinct (map (λ t. t.now) l.texts) ≡ are_distinct (map (λ t. t.now) (drop (l.later - 1) l.texts))
