use Rattle.edf_heads.proofs.ChannelFacts.{index-is}
use Rattle.edf_heads.proofs.channel_index.ChannelIndex.new.Goals as goal

pub invariant_of-result : goal.invariant_of-result
invariant_of-result c =
    index-is c.args.header.now c.signals.result.now c.in_ok-sorted.sorted.items c.sort_by_label.new.channels.items c.signals.ensures.signals c.signals.ensures.sound c.in_ok-sorted.ensures.all c.in_ok-sorted.ensures.among c.sort_by_label.ensures.same
    c.sort_by_label.ensures.order
