use Rattle.std.proofs.Common.{◌↔◌, ◌⊎◌, map, drop}
use Rattle.edf_fields.specs.Lists.{Has}
use Rattle.edf_heads.specs.Comparisons.{IsBrokenAmong, difference_of}
use Rattle.edf_heads.proofs.comparison.Comparison.take_subfields.Given as goal
use Rattle.edf_verdict.specs.declared.verdict.Difference.{Difference}

abbrev pub invariant-loop-which : goal.invariant-loop-which
invariant-loop-which l =
    (rule : Difference) → (Has (map difference_of l.found.items) rule ⊎ IsBrokenAmong l.self (drop l.which-index l.whiches) rule)
    ↔ (Has (map difference_of l.fn.found.items) rule ⊎ IsBrokenAmong l.self l.whiches rule)
