use Rattle.std.proofs.Common.{◌≡◌, ◌++◌, drop}
use Rattle.edf_report.specs.ShowTexts.{channels_text}
use Rattle.edf_report.proofs.show.push_channels.Given as goal

abbrev pub invariant-loop-signal : goal.invariant-loop-signal
invariant-loop-signal l = l.text.items ++ channels_text (drop l.signal-index l.signals) ≡ l.initial.text.items ++ channels_text l.signals
