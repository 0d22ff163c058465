-- What was read so far stands at the front of the buffer.
use Rattle.std.proofs.Common.{◌≡◌, ◌-◌, ◌≤◌, ◌++◌, length, take, IsTrue}
use Rattle.edf_fields.proofs.in_out.source.fill.Given as goal

abbrev pub invariant-loop-done : goal.invariant-loop-done
invariant-loop-done g l = record {
  within : l.done ≤ length l.buf;
  failures : g.S.Source.reads l.source ≡ g.S.Source.reads l.initial.source;
  empty : length l.initial.buf ≡ 0 → l.source ≡ l.initial.source;
  honesty : IsTrue (g.S.Source.is_honest l.initial.source) → IsTrue (g.S.Source.is_honest l.source);
  bytes : IsTrue (g.S.Source.is_honest l.initial.source) → g.S.Source.left l.initial.source ≡ take l.done l.buf ++ g.S.Source.left l.source;
}

abbrev pub decreases-loop-done : goal.decreases-loop-done
decreases-loop-done g l = length l.initial.buf - l.done
