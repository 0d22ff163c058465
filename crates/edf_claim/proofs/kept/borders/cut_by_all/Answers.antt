use Rattle.edf_claim.proofs.BorderFacts.{uncut_there, border_there}
use Rattle.edf_claim.proofs.kept.borders.cut_by_all.Goals as goal

pub returns-then-place-intervals-clause-uncut : goal.returns-then-place-intervals-clause-uncut
returns-then-place-intervals-clause-uncut c =
    uncut_there c.args.intervals.now c.ended_count-place.result _ c.args.from.ps c.cut_by.result.ps c.requires.kept c.ended_count-place.ensures.point c.if-place-intervals.true c.cut_by.ensures.begin c.cut_by.ensures.end

pub returns-then-place-intervals-clause-border : goal.returns-then-place-intervals-clause-border
returns-then-place-intervals-clause-border c =
    border_there c.args.intervals.now c.ended_count-place.result _ c.args.to.ps c.cut_by.result.ps c.if-place-intervals.true c.cut_by.ensures.one
