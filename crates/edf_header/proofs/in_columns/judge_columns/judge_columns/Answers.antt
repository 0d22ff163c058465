use Rattle.std.proofs.Common.{◌≡◌, ◌<◌, ◌^◌, ◌∙◌, Some, length, ap, arith}
use Rattle.std.proofs.lemmas.Result.{err_from_is_err_and}
use Rattle.edf_header.specs.Faults.{signals_faults, joint_faults, columns_tests}
use Rattle.edf_fields.specs.Tests.{first}
use Rattle.edf_header.specs.HeadsReading.{signals_in}
use Rattle.edf_header.proofs.FirstFacts.{stops-weaker}
use Rattle.edf_fields.specs.fields.LayoutReading.{columns}
use Rattle.edf_header.proofs.in_columns.ColumnFacts.{columns-adjacent}
use Rattle.edf_header.proofs.signals.SignalFacts.{length-signals}
use Rattle.edf_header.proofs.signals.TogetherFacts.{signals_found, joint-left}
use Rattle.edf_header.proofs.in_columns.WideFacts.{columns-whole}
use Rattle.edf_header.proofs.in_columns.judge_columns.judge_columns.Goals as goal

pub returns-in_err-signals-clause-stop : goal.returns-in_err-signals-clause-stop
returns-in_err-signals-clause-stop c =
    let p = err_from_is_err_and c.from_residual.result c.from_residual.ensures.1 in
    let bytes = c.args.columns.now.bytes in
    let n = c.args.columns.now.signals in
    rw (p.1, p.2) (stops-weaker (λ f. first (signals_faults bytes n 0 n) ≡ Some f) (λ f. first (columns_tests n bytes) ≡ Some f) ⊥ ⊥ (Unit {0}) (Unit {0})
    (λ f q. signals_found n bytes f (columns-whole columns n (length bytes) columns-adjacent c.requires.whole) q) (λ q. q) (λ q. q) _ c.in_err-signals.ensures.stop)

pub judge_together-requires : goal.judge_together-requires
judge_together-requires c =
    let bytes = c.args.columns.now.bytes in
    let n = c.args.columns.now.signals in
    let long : length c.deref.result.now ≡ n = ap length (c.deref.ensures.value ∙ c.in_ok-signals.ensures.ok.1) ∙ length-signals bytes n 0 0 n in
    let few : n < 10 ^ 4 = c.requires.few in
    omega (arith, long, few)

pub returns-in_err-record_bytes-clause-stop : goal.returns-in_err-record_bytes-clause-stop
returns-in_err-record_bytes-clause-stop c =
    let p = err_from_is_err_and c.from_residual-in_err-record_bytes.result c.from_residual-in_err-record_bytes.ensures.1 in
    let bytes = c.args.columns.now.bytes in
    let n = c.args.columns.now.signals in
    let stopped = rw (c.deref.ensures.value, c.in_ok-signals.ensures.ok.1) at c.in_err-record_bytes.ensures.stop in
    rw (p.1, p.2) (stops-weaker (λ f. first (joint_faults (signals_in n bytes)) ≡ Some f) (λ f. first (columns_tests n bytes) ≡ Some f) ⊥ ⊥ (Unit {0}) (Unit {0})
    (λ f q. joint-left n bytes (columns-whole columns n (length bytes) columns-adjacent c.requires.whole) c.in_ok-signals.ensures.ok.0 ∙ q) (λ q. q) (λ q. q) _ stopped)

pub returns-clause-ok : goal.returns-clause-ok
returns-clause-ok c =
    let bytes = c.args.columns.now.bytes in
    let n = c.args.columns.now.signals in
    let passed = rw (c.deref.ensures.value, c.in_ok-signals.ensures.ok.1) at c.in_ok-record_bytes.ensures.ok.0 in
    let size = rw c.deref.ensures.value at c.in_ok-record_bytes.ensures.ok.1 in
    let places = rw c.deref-2.ensures.value at c.in_ok-annotations.ensures in
    record {
      passed = joint-left n bytes (columns-whole columns n (length bytes) columns-adjacent c.requires.whole) c.in_ok-signals.ensures.ok.0 ∙ passed;
      signals_are = c.in_ok-signals.ensures.ok.1;
      record_bytes_are = size;
      small = c.in_ok-record_bytes.ensures.ok.2;
      annotations_are = places;
    }
