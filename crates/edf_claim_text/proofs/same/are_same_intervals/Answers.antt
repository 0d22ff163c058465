use Rattle.std.proofs.lemmas.Slice.Eq.{slice_eq-Decides}
use Rattle.edf_claim.proofs.ForCallers.{interval_decides}
use Rattle.edf_claim_text.proofs.same.are_same_intervals.Goals as goal

pub returns : goal.returns
returns c = slice_eq-Decides interval_decides c.args.intervals.now c.args.others.now c.eq.result c.eq.ensures
