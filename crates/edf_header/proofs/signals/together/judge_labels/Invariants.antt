use Rattle.std.proofs.Common.{◌≡◌, ◌-◌, length}
use Rattle.edf_header.specs.Faults.{labels_faults}
use Rattle.edf_fields.specs.Tests.{first}
use Rattle.edf_header.proofs.signals.together.judge_labels.Given as goal

abbrev pub invariant-loop-s : goal.invariant-loop-s
invariant-loop-s l = first (labels_faults l.signals 0 (length l.signals)) ≡ first (labels_faults l.signals l.s (length l.signals - l.s))
