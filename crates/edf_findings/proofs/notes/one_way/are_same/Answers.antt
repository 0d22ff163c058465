use Rattle.std.proofs.Common.{◌∙◌, sym}
use Rattle.edf_findings.proofs.OneWayFacts.{same-permuted}
use Rattle.edf_findings.proofs.notes.one_way.are_same.Goals as goal

pub returns : goal.returns
returns c = λ yes.
    same-permuted c.args.kept.items c.sort_unstable.new.self.items c.args.exported.items c.sort_unstable-2.new.self.items c.sort_unstable.ensures.permutation c.sort_unstable-2.ensures.permutation (sym c.eq.ensures ∙ yes)
