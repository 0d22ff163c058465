use Rattle.edf_claim.proofs.PrefixFacts.{AreShortest}
use Rattle.edf_claim.proofs.kept.prefixes.shortest_of.Given as goal

abbrev pub invariant-loop-text : goal.invariant-loop-text
invariant-loop-text l = AreShortest l.sorted l.text-index l.shortest.items
