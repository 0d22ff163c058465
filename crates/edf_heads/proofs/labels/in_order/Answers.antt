use Rattle.edf_heads.proofs.LabelFacts.{labels_sorted}
use Rattle.edf_heads.proofs.labels.in_order.Goals as goal

pub returns : goal.returns
returns c =
    labels_sorted c.args.labels.now c.in_ok-sorted.sorted.items c.sort_unstable.new.self.items c.in_ok-sorted.ensures c.sort_unstable.ensures.permutation c.sort_unstable.ensures.sorted
