-- The subfields so far, and those that are left.
use Rattle.std.proofs.Common.{◌∷◌, map, drop}
use Rattle.edf_draft.specs.Hidden.{AreLeft}
use Rattle.edf_draft.proofs.hidden.hidden_subfields.Given as goal

abbrev pub invariant-loop-which : goal.invariant-loop-which
invariant-loop-which l = AreLeft l.original (l.export ∷ map (λ r. r.head) l.others) l.hidden.items (drop l.which-index l.which-items)
