use Rattle.std.proofs.Common.{◌∙◌, map}
use Rattle.edf_layout.proofs.LineFacts.{odd-step}
use Rattle.edf_layout.proofs.odd_places.push_odd_signals.Goals as goal

pub loop-signal-preserved : goal.loop-signal-preserved
loop-signal-preserved c =
    odd-step c.args.signals.columns.now c.args.signals.count c.loop-signal.signal (map (λ v. v.items) c.loop-signal.lines.items) (map (λ v. v.items) c.push_odd_signal.new.lines.items) c.loop-signal-test.true c.in_ok-push_odd_signal.ensures
    ∙ c.loop-signal.invariant
