use Rattle.edf_samples.proofs.ValueFacts.{others_of_values}
use Rattle.edf_samples.proofs.counts.blocks.numbers_of.Goals as goal

pub returns-clause-values : goal.returns-clause-values
returns-clause-values g c =
    others_of_values g.row.STRIDE c.args.long.now c.args.short.now c.args.count c.numbers_behind.result c.type_inv.long c.type_inv.short c.numbers_behind.ensures
