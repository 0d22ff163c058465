use Rattle.edf_samples.proofs.BlockFacts.{others_are}
use Rattle.edf_samples.proofs.counts.blocks.others_in.Goals as goal

pub returns : goal.returns
returns c = others_are c.args.old.now c.args.new.now c.requires.old c.requires.new c.type_inv.old c.type_inv.new
