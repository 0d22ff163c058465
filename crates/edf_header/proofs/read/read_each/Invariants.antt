use Rattle.std.proofs.Common.{◌≡◌, IsTrue}
use Rattle.edf_header.proofs.in_columns.ReadColumnsFacts.{HasRead}
use Rattle.edf_header.proofs.read.read_each.Given as goal

abbrev pub invariant-loop-field : goal.invariant-loop-field
invariant-loop-field g l = record {
  honesty : IsTrue (g.S.Source.is_honest l.initial.source) → IsTrue (g.S.Source.is_honest l.source);
  failures : g.S.Source.reads l.source ≡ g.S.Source.reads l.initial.source;
  read : HasRead (IsTrue (g.S.Source.is_honest l.initial.source)) l.fields l.field-index l.signals (g.S.Source.left l.initial.source) (g.S.Source.left l.source) l.columns.items;
}
