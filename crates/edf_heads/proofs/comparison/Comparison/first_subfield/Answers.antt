use Rattle.std.proofs.Common.{Some, None, refl}
use Rattle.edf_fields.specs.declared.fields.which.Which.TheVariants.{Code}
use Rattle.edf_heads.proofs.SubfieldFacts.{found_here, found_none}
use Rattle.edf_heads.proofs.comparison.Comparison.first_subfield.Goals as goal

pub returns-in-Some : goal.returns-in-Some
returns-in-Some c =
    let h = c.in-Some.ensures in
    c.loop-which.invariant (Some _) (found_here c.args.self.now.original c.args.self.now.export c.args.self.now.claim c.args.whiches.now c.loop-which.which-index Code _ c.in-Some.mismatch c.loop-which-test.true refl h.0 h.1)

pub returns : goal.returns
returns c =
    c.loop-which.invariant None (found_none c.args.self.now.original c.args.self.now.export c.args.self.now.claim c.args.whiches.now c.loop-which.which-index c.loop-which-test.false)
