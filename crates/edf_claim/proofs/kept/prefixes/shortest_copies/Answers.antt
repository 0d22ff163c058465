use Rattle.std.proofs.Common.{map}
use Rattle.edf_claim.proofs.PrefixFacts.{prefixes-indexed}
use Rattle.edf_claim.proofs.kept.prefixes.shortest_copies.Goals as goal

pub returns : goal.returns
returns c =
    prefixes-indexed (map (λ t. t.items) c.args.texts.now) c.in_ok-sorted.sorted.items c.deref.result.now c.in_ok-shortest.shortest.items c.in_ok-sorted.ensures c.deref.ensures.value c.in_ok-shortest.ensures
