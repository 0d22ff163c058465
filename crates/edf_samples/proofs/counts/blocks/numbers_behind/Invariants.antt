use Rattle.edf_samples.specs.Others.{AreOthers, differs}
use Rattle.edf_samples.proofs.counts.blocks.numbers_behind.Given as goal

abbrev pub invariant-loop-number : goal.invariant-loop-number
invariant-loop-number g l = AreOthers (differs g.row.STRIDE l.long l.short) l.number l.places
