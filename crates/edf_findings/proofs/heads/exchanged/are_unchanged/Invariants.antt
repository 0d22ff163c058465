use Rattle.std.proofs.Common.{◌↔◌, drop}
use Rattle.edf_findings.specs.Likeness.{AreUnchanged}
use Rattle.edf_findings.proofs.heads.exchanged.are_unchanged.Given as goal

abbrev pub invariant-loop-which : goal.invariant-loop-which
invariant-loop-which l = AreUnchanged l.one l.other l.whiches ↔ AreUnchanged l.one l.other (drop l.which-index l.whiches)
