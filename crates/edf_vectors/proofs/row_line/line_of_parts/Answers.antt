use Rattle.edf_vectors.proofs.VectorsFacts.{no_read_failed}
use Rattle.edf_vectors.proofs.row_line.line_of_parts.Goals as goal

pub unreachable-requires : goal.unreachable-requires
unreachable-requires c =
    let r = c.in-Err-ReadFailed in
    no_read_failed c.args.parts.now c.run_parts.new.parts _ _ _ r.field-0 r.field-0-0 r.field-0-is r.ensures.stop
