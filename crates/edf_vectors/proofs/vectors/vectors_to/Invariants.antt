use Rattle.std.proofs.Common.{◌≡◌, map, take, IsTrue}
use Rattle.edf_vectors.specs.Vectors.{AreRowsWritten}
use Rattle.edf_rows.specs.Rows.{row_of}
use Rattle.edf_vectors.proofs.vectors.vectors_to.Given as goal

abbrev pub invariant-loop-row : goal.invariant-loop-row
invariant-loop-row g l = record {
  honesty : IsTrue (g.K.Sink.is_honest l.initial.sink) → IsTrue (g.K.Sink.is_honest l.sink);
  failures : g.K.Sink.failures l.sink ≡ g.K.Sink.failures l.initial.sink;
  written : IsTrue (g.K.Sink.is_honest l.initial.sink) → AreRowsWritten (map row_of (take l.row-index l.rows)) (g.K.Sink.held l.initial.sink) (g.K.Sink.held l.sink) l.outcome;
}
