use Rattle.std.proofs.Common.{◌≡◌, ◌+◌, ◌≤◌, drop}
use Rattle.edf_header.specs.Heads.{samples_together}
use Rattle.edf_header.proofs.signals.together.sum_up_to.Given as goal

abbrev pub invariant-loop-signal : goal.invariant-loop-signal
invariant-loop-signal l = record {
  value : l.sum + samples_together (drop l.signal-index l.signals) ≡ samples_together l.signals;
  small : l.sum ≤ l.most;
}
