use Rattle.edf_samples.proofs.BlockFacts.{others_at_half_are}
use Rattle.edf_samples.proofs.counts.blocks.others_at_half.Goals as goal

pub returns : goal.returns
returns c = others_at_half_are c.args.long.now c.args.short.now c.requires.long c.requires.short c.type_inv.long c.type_inv.short
