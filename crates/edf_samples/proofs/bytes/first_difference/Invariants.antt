use Rattle.edf_samples.specs.Stretches.{AreAlikeBefore}
use Rattle.edf_samples.proofs.bytes.first_difference.Given as goal

abbrev pub invariant-loop-place : goal.invariant-loop-place
invariant-loop-place l = AreAlikeBefore l.place l.a l.b
