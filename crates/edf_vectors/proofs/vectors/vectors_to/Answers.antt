use Rattle.std.proofs.Common.{◌∙◌}
use Rattle.edf_vectors.proofs.VectorsFacts.{row_more}
use Rattle.edf_vectors.proofs.vectors.vectors_to.Goals as goal

pub loop-row-preserved : goal.loop-row-preserved
loop-row-preserved g c =
    let wrote = c.in_ok-write_row.ensures in
    let before = c.loop-row.invariant in
    record {
      honesty = λ h. wrote.honesty (before.honesty h);
      failures = wrote.failures ∙ before.failures;
      written = λ h. row_more c.worked_rows-rows.result.now c.loop-row.row-index _ c.loop-row-test.true (before.written h) (wrote.written (before.honesty h)) c.and-outcome.ensures;
    }
