use Rattle.std.proofs.Common.{◌∙◌}
use Rattle.edf_layout.proofs.LineFacts.{lines-step}
use Rattle.edf_layout.proofs.head_lines.push_signals.Goals as goal

pub loop-signal-preserved : goal.loop-signal-preserved
loop-signal-preserved c =
    lines-step c.args.signals.columns.now c.args.signals.count c.loop-signal.signal c.loop-signal.text.items c.push_signal.new.text.items c.loop-signal-test.true c.in_ok-push_signal.ensures
    ∙ c.loop-signal.invariant
