use Rattle.std.proofs.Common.{◌≡◌, ◌++◌, ◌-◌, map}
use Rattle.edf_layout.specs.HeadLayouts.{signal_layouts}
use Rattle.edf_layout.specs.OddPlaces.{odd_signals}
use Rattle.edf_layout.proofs.odd_places.push_odd_signals.Given as goal

abbrev pub invariant-loop-signal : goal.invariant-loop-signal
invariant-loop-signal l =
    map (λ v. v.items) l.lines.items ++ odd_signals l.signal (signal_layouts l.signals.columns.now l.signals.count l.signal (l.signals.count - l.signal))
    ≡ map (λ v. v.items) l.initial.lines.items ++ odd_signals 0 (signal_layouts l.signals.columns.now l.signals.count 0 l.signals.count)
