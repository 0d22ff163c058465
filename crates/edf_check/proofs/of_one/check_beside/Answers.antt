use Rattle.edf_check.proofs.HeadlineFacts.{yes_means}
use Rattle.edf_check.proofs.parts.PartsVerdictFacts.{one_part_verdict}
use Rattle.edf_check.proofs.parts.TogetherFacts.{one_conforms}
use Rattle.edf_check.proofs.of_one.check_beside.Goals as goal

pub returns-in-Ok-clause-verdict : goal.returns-in-Ok-clause-verdict
returns-in-Ok-clause-verdict g c = λ first second.
    ((one_part_verdict (g.O.Source.left c.args.original.now) (g.E.Source.left c.args.export.now) c.args.asked.now.claim.now c.in-Ok.on_parts).0 (c.in-Ok.ensures.verdict first (second, tt))).1

pub returns-in-Ok-clause-headline : goal.returns-in-Ok-clause-headline
returns-in-Ok-clause-headline g c = λ first second.
    yes_means (g.O.Source.left c.args.original.now) (g.E.Source.left c.args.export.now) c.args.asked.now.claim.now c.in-Ok.on_parts.verdict (returns-in-Ok-clause-verdict g c first second)

pub returns-in-Ok-clause-counted : goal.returns-in-Ok-clause-counted
returns-in-Ok-clause-counted g c = λ looks first second co ce.
    let o = g.O.Source.left c.args.original.now in
    let e = g.E.Source.left c.args.export.now in
    c.in-Ok.ensures.counted looks first (second, tt) (one_conforms o e co ce)
