use Rattle.std.proofs.Common.{◌≡◌, drop}
use Rattle.std.specs.List.{list_all}
use Rattle.edf_heads.specs.Comparisons.{is_blank_signal}
use Rattle.edf_heads.proofs.blank.are_blank_signals.Given as goal

abbrev pub invariant-loop-signal : goal.invariant-loop-signal
invariant-loop-signal l = list_all is_blank_signal l.signals ≡ list_all is_blank_signal (drop l.signal-index l.signals)
