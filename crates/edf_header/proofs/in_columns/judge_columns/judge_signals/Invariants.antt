use Rattle.std.proofs.Common.{◌≡◌, ◌-◌, ◌*◌, ◌^◌, ◌≤◌, ◌++◌}
use Rattle.edf_header.specs.Faults.{signals_faults}
use Rattle.edf_fields.specs.Tests.{first}
use Rattle.edf_header.specs.HeadsReading.{signals_from, signals_in}
use Rattle.edf_header.proofs.in_columns.judge_columns.judge_signals.Given as goal

abbrev pub invariant-loop-s : goal.invariant-loop-s
invariant-loop-s l = record {
  passed : first (signals_faults l.columns.bytes l.columns.signals 0 l.columns.signals) ≡ first (signals_faults l.columns.bytes l.columns.signals l.s (l.columns.signals - l.s));
  found : l.found.items ++ signals_from l.columns.bytes l.columns.signals l.s l.offset (l.columns.signals - l.s) ≡ signals_in l.columns.signals l.columns.bytes;
  small : l.offset ≤ 2 * 10 ^ 8 * l.s;
}
