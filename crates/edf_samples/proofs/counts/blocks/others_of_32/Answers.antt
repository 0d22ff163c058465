use Rattle.edf_samples.specs.Others.{differs}
use Rattle.edf_samples.proofs.BlockFacts.{joined_16}
use Rattle.edf_samples.proofs.counts.blocks.others_of_32.Goals as goal

pub returns : goal.returns
returns g c =
    joined_16 (differs g.row.STRIDE c.args.long.now c.args.short.now) c.args.number c.others_of_16-front.result c.others_of_16-back.result c.others_of_16-front.ensures c.others_of_16-back.ensures
