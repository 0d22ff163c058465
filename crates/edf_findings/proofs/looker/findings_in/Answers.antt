use Rattle.std.proofs.Common.{◌++◌, ◌∷◌, [], List, sym, subst}
use Rattle.edf_findings.specs.declared.part.PartFindings.{PartFindings}
use Rattle.edf_findings.specs.Found.{AreFoundIn}
use Rattle.edf_findings.proofs.ToldFacts.{found-more}
use Rattle.edf_findings.proofs.looker.findings_in.Goals as goal

pub loop-part-preserved : goal.loop-part-preserved
loop-part-preserved c =
    let claim = c.args.under.claim.now in
    let labels = c.args.under.labels.now in
    let head = c.args.under.original.now in
    subst (λ (found : List PartFindings). AreFoundIn claim labels head (c.loop-part.yielded ++ c.in-Some.part ∷ []) found) (sym c.in_ok-push.ensures.items)
    (found-more claim labels head c.loop-part.yielded c.loop-part.found.items c.in-Some.part c.in_ok-of.field-0 c.loop-part.invariant c.in_ok-of.ensures)
