use Rattle.edf_samples.specs.Others.{differs}
use Rattle.edf_samples.proofs.BlockFacts.{joined_32}
use Rattle.edf_samples.proofs.counts.blocks.others_of_64.Goals as goal

pub returns : goal.returns
returns g c =
    joined_32 (differs g.row.STRIDE c.args.long.now c.args.short.now) c.args.number c.others_of_32-front.result c.others_of_32-back.result c.others_of_32-front.ensures c.others_of_32-back.ensures
