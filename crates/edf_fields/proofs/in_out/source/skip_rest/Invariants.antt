-- Each read that gave something took a byte.
use Rattle.std.proofs.Common.{◌≡◌, ◌+◌, ◌≤◌, length, IsTrue}
use Rattle.edf_fields.proofs.in_out.source.skip_rest.Given as goal

abbrev pub invariant-reads : goal.invariant-reads
invariant-reads g l = record {
  room : length l.buf ≡ length l.initial.buf;
  failures : g.S.Source.reads l.source ≡ g.S.Source.reads l.initial.source;
  honesty : IsTrue (g.S.Source.is_honest l.initial.source) → IsTrue (g.S.Source.is_honest l.source);
  shorter : IsTrue (g.S.Source.is_honest l.initial.source) → length (g.S.Source.left l.source) + l.counter ≤ length (g.S.Source.left l.initial.source);
}
