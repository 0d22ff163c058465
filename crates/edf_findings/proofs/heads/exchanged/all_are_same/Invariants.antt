use Rattle.std.proofs.Common.{◌≡◌, drop}
use Rattle.edf_findings.specs.Likeness.{all_alike, are_same_signals_of}
use Rattle.edf_findings.proofs.heads.exchanged.all_are_same.Given as goal

abbrev pub invariant-loop-place : goal.invariant-loop-place
invariant-loop-place l = all_alike are_same_signals_of (drop l.place l.one) (drop l.place l.other) ≡ all_alike are_same_signals_of l.one l.other
