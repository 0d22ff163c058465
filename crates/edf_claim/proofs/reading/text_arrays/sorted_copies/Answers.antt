use Rattle.std.proofs.Common.{map}
use Rattle.edf_claim.proofs.SortedFacts.{index_sorted}
use Rattle.edf_claim.proofs.reading.text_arrays.sorted_copies.Goals as goal

pub returns : goal.returns
returns c =
    index_sorted (map (λ t. t.items) c.args.texts.now) c.in_ok-sorted.sorted.items c.sort_unstable.new.self.items c.in_ok-sorted.ensures c.sort_unstable.ensures.permutation c.sort_unstable.ensures.sorted
