use Rattle.std.proofs.Common.{◌≡◌, drop}
use Rattle.edf_findings.specs.Likeness.{all_alike, have_same_texts_of}
use Rattle.edf_findings.proofs.heads.exchanged.all_have_same_texts.Given as goal

abbrev pub invariant-loop-place : goal.invariant-loop-place
invariant-loop-place l = all_alike have_same_texts_of (drop l.place l.one) (drop l.place l.other) ≡ all_alike have_same_texts_of l.one l.other
