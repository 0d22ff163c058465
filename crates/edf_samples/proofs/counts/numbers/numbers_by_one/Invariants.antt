use Rattle.edf_samples.specs.Others.{AreOthers, values_differ_at}
use Rattle.edf_samples.proofs.counts.numbers.numbers_by_one.Given as goal

abbrev pub invariant-loop-number : goal.invariant-loop-number
invariant-loop-number l = AreOthers (values_differ_at (l.strides).here (l.strides).there l.old l.new) l.number l.places
