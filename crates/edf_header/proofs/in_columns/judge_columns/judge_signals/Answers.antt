use Rattle.std.proofs.Common.{◌≡◌, ◌<◌, ◌+◌, ◌-◌, ◌*◌, ◌∙◌, ◌++◌, Some, ap, arith}
use Rattle.std.proofs.lemmas.Result.{err_from_is_err_and}
use Rattle.edf_header.specs.Faults.{signal_faults, signals_faults}
use Rattle.edf_fields.specs.Tests.{first}
use Rattle.edf_header.specs.HeadsReading.{signals_from, signals_in}
use Rattle.edf_header.proofs.FirstFacts.{stops-weaker}
use Rattle.edf_header.proofs.signals.SignalFacts.{signal-passed, signal-found, signal-more}
use Rattle.edf_header.proofs.in_columns.judge_columns.judge_signals.Goals as goal

pub returns-in_err-signal-clause-stop : goal.returns-in_err-signal-clause-stop
returns-in_err-signal-clause-stop c =
    let p = err_from_is_err_and c.from_residual-in_err-signal.result c.from_residual-in_err-signal.ensures.1 in
    let bytes = c.args.columns.now.bytes in
    let n = c.args.columns.now.signals in
    let lt : c.loop-s.s < n = omega (arith, c.loop-s-test.true, c.signals-signals.ensures) in
    rw (p.1, p.2) (stops-weaker (λ f. first (signal_faults bytes n c.loop-s.s) ≡ Some f) (λ f. first (signals_faults bytes n 0 n) ≡ Some f) ⊥ ⊥ (Unit {0}) (Unit {0})
    (λ f q. c.loop-s.invariant.passed ∙ signal-found bytes n c.loop-s.s f lt q) (λ q. q) (λ q. q) _ c.in_err-signal.ensures.stop)

pub loop-s-preserved : goal.loop-s-preserved
loop-s-preserved c =
    let bytes = c.args.columns.now.bytes in
    let n = c.args.columns.now.signals in
    let s = c.loop-s.s in
    let lt : s < n = omega (arith, c.loop-s-test.true, c.signals-signals.ensures) in
    let head = c.in_ok-signal.signal in
    let after = c.loop-s.offset + 2 * c.from-in-loop-s.result in
    let samples : c.from-in-loop-s.result ≡ head.samples = c.from-in-loop-s.ensures ∙ c.samples.ensures in
    let behind : after ≡ c.loop-s.offset + 2 * head.samples = ap (λ k. c.loop-s.offset + 2 * k) samples in
    record {
      passed = c.loop-s.invariant.passed ∙ signal-passed bytes n s lt c.in_ok-signal.ensures.ok.0;
      found =
          ap (λ xs. xs ++ signals_from bytes n (s + 1) after (n - (s + 1))) c.in_ok-push.ensures.items
          ∙ signal-more bytes n s c.loop-s.offset after c.loop-s.found.items (signals_in n bytes) head lt c.in_ok-signal.ensures.ok.1 behind c.loop-s.invariant.found;
      small = omega (arith, c.loop-s.invariant.small, samples, c.in_ok-signal.ensures.ok.2);
    }
