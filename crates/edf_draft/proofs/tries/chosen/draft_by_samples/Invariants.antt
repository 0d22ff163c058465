-- The best draft so far.
use Rattle.std.proofs.Common.{IfSome, ℤ}
use Rattle.edf_draft.specs.Exported.{heads_of}
use Rattle.edf_draft.specs.Tries.{IsTriedDraft}
use Rattle.edf_draft.proofs.tries.chosen.draft_by_samples.Given as goal

abbrev pub invariant-loop-shift : goal.invariant-loop-shift
invariant-loop-shift g l = IfSome l.best (λ tried. (shift : ℤ) × IsTriedDraft (g.T.Trial.files l.trial)
    (l.original.reader).head (heads_of l.export) shift tried)
