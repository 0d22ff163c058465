use Rattle.std.proofs.Common.{map, refl}
use Rattle.edf_fields.specs.declared.fields.which.Which.TheVariants.{Code}
use Rattle.edf_heads.specs.Comparisons.{difference_of}
use Rattle.edf_heads.proofs.BrokenFacts.{subfield_step, subfields_end}
use Rattle.edf_heads.proofs.comparison.Comparison.take_subfields.Goals as goal

pub loop-which-preserved : goal.loop-which-preserved
loop-which-preserved c =
    subfield_step c.args.self.now c.args.whiches.now c.loop-which.which-index Code _ c.subfield_mismatch.result (map difference_of c.args.found.now.items) (map difference_of c.loop-which.found.items) (map difference_of c.take_some.new.found.items)
    c.loop-which-test.true refl c.subfield_mismatch.ensures c.in_ok-take_some.ensures c.loop-which.invariant

pub returns : goal.returns
returns c =
    subfields_end c.args.self.now c.args.whiches.now c.loop-which.which-index (map difference_of c.args.found.now.items) (map difference_of c.loop-which.found.items) c.loop-which-test.false c.loop-which.invariant
