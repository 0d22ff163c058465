use Rattle.std.proofs.Common.{arith, length, ◌<◌, ◌∙◌, sym}
use Rattle.std.proofs.lemmas.Slice.Eq.{bytes_eq-Decides}
use Rattle.edf_claim.proofs.ForCallers.{same_more, so_true}
use Rattle.edf_claim_text.proofs.same.are_same_labels.Goals as goal

pub loop-i-preserved : goal.loop-i-preserved
loop-i-preserved c =
    let inv = c.loop-i.invariant in
    let here = (bytes_eq-Decides c.text.result.now c.text-in-loop-i.result.now).0 (so_true _ c.if-ne.ensures) in
    let within : c.loop-i.i < length c.args.labels.now = omega arith in
    let beside : c.loop-i.i < length c.args.others.now = omega (arith, inv.long) in
    record {
      long = inv.long;
      same = same_more c.args.labels.now c.args.others.now c.loop-i.i _ _ within beside inv.same
          (sym c.index-labels-i.is ∙ sym c.text.ensures ∙ here ∙ c.text-in-loop-i.ensures ∙ c.index-others-i.is);
    }
