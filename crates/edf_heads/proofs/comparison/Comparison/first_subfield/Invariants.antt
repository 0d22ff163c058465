use Rattle.std.proofs.Common.{Option, drop}
use Rattle.edf_heads.specs.Comparisons.{IsFoundAmong}
use Rattle.edf_heads.specs.declared.subfields.SubfieldDifference.{SubfieldDifference}
use Rattle.edf_heads.proofs.comparison.Comparison.first_subfield.Given as goal

abbrev pub invariant-loop-which : goal.invariant-loop-which
invariant-loop-which l =
    (r : Option SubfieldDifference)
    → IsFoundAmong l.self.original l.self.export l.self.claim (drop l.which-index l.whiches) r
    → IsFoundAmong l.self.original l.self.export l.self.claim l.whiches r
