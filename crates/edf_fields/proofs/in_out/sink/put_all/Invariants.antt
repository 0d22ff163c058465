-- What was written so far stands behind what was held.
use Rattle.std.proofs.Common.{◌≡◌, ◌-◌, ◌≤◌, ◌++◌, length, take, IsTrue}
use Rattle.edf_fields.proofs.in_out.sink.put_all.Given as goal

abbrev pub invariant-loop-done : goal.invariant-loop-done
invariant-loop-done g l = record {
  within : l.done ≤ length l.bytes;
  failures : g.K.Sink.failures l.sink ≡ g.K.Sink.failures l.initial.sink;
  empty : length l.bytes ≡ 0 → l.sink ≡ l.initial.sink;
  honesty : IsTrue (g.K.Sink.is_honest l.initial.sink) → IsTrue (g.K.Sink.is_honest l.sink);
  bytes : IsTrue (g.K.Sink.is_honest l.initial.sink) → g.K.Sink.held l.sink ≡ g.K.Sink.held l.initial.sink ++ take l.done l.bytes;
}

abbrev pub decreases-loop-done : goal.decreases-loop-done
decreases-loop-done g l = length l.initial.bytes - l.done
