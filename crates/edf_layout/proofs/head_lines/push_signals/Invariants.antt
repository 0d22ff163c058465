use Rattle.std.proofs.Common.{◌≡◌, ◌++◌, ◌-◌}
use Rattle.edf_layout.specs.HeadLayouts.{signal_layouts}
use Rattle.edf_layout.specs.HeadTexts.{signal_lines}
use Rattle.edf_layout.proofs.head_lines.push_signals.Given as goal

abbrev pub invariant-loop-signal : goal.invariant-loop-signal
invariant-loop-signal l =
    l.text.items ++ signal_lines l.signal (signal_layouts l.signals.columns.now l.signals.count l.signal (l.signals.count - l.signal))
    ≡ l.initial.text.items ++ signal_lines 0 (signal_layouts l.signals.columns.now l.signals.count 0 l.signals.count)
