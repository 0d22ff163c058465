use Rattle.edf_samples.proofs.BlockFacts.{others_each, others_half}
use Rattle.edf_samples.proofs.counts.blocks.others_of_16.Goals as goal

pub returns-then-this-eq1 : goal.returns-then-this-eq1
returns-then-this-eq1 g c =
    others_each g.row.STRIDE c.args.long.now c.args.short.now c.bytes_from-old.result.now c.bytes_from-new.result.now c.args.number c.others_in.result c.if-this-eq1.true c.bytes_from-old.ensures c.bytes_from-new.ensures c.others_in.ensures

pub returns-else-this-eq1 : goal.returns-else-this-eq1
returns-else-this-eq1 g c =
    others_half g.row.STRIDE c.args.long.now c.args.short.now c.bytes_from-old.result.now c.bytes_from-new.result.now c.args.number c.others_at_half.result c.requires.stride c.if-this-eq1.false c.bytes_from-old.ensures c.bytes_from-new.ensures c.others_at_half.ensures
