use Rattle.std.proofs.Common.{subst, sym, Some}
use Rattle.edf_heads.specs.Comparisons.{Compared}
use Rattle.edf_heads.specs.Comparisons.{IsHeadDifference}
use Rattle.edf_heads.specs.HeadVerdicts.{IsHeadVerdict}
use Rattle.edf_heads.proofs.KindFacts.{none_or_differ}
use Rattle.edf_heads.proofs.heads.head_difference.Goals as goal
use Rattle.edf_verdict.specs.declared.verdict.Difference.{Difference}
use Rattle.edf_verdict.specs.declared.verdict.Verdict.TheVariants.{No}

pub returns-in-Some : goal.returns-in-Some
returns-in-Some c =
    let found = subst (λ (m : Compared). IsHeadDifference m.original m.export m.claim c.in-Some.first) c.in_ok-comparison.ensures c.in-Some.ensures in
    let least = subst (λ (d : Difference). IsHeadVerdict c.args.original.now c.args.export.now c.args.claim.now (No d)) (sym c.in_ok-difference-in-Some.ensures) found in
    record { none = none_or_differ c.args.original.now c.args.export.now c.args.claim.now (Some (No c.in_ok-difference-in-Some.field-0)) least; least = least }
