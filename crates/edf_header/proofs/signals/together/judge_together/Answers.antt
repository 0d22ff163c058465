use Rattle.std.proofs.Common.{◌≡◌, Some, length}
use Rattle.std.proofs.lemmas.Result.{err_from_is_err_and}
use Rattle.edf_header.specs.Faults.{labels_faults, joint_faults}
use Rattle.edf_fields.specs.Tests.{first}
use Rattle.edf_header.proofs.FirstFacts.{stops-weaker}
use Rattle.edf_header.proofs.signals.TogetherFacts.{labels_found}
use Rattle.edf_header.proofs.signals.together.judge_together.Goals as goal

pub returns-in_err-distinct_labels-clause-stop : goal.returns-in_err-distinct_labels-clause-stop
returns-in_err-distinct_labels-clause-stop c =
    let p = err_from_is_err_and c.from_residual-in_err-distinct_labels.result c.from_residual-in_err-distinct_labels.ensures.1 in
    let signals = c.args.signals.now in
    rw (p.1, p.2) (stops-weaker (λ f. first (labels_faults signals 0 (length signals)) ≡ Some f) (λ f. first (joint_faults signals) ≡ Some f) ⊥ ⊥ (Unit {0}) (Unit {0})
    (λ f q. labels_found signals f c.in_ok-annotation_signal.ensures c.in_ok-ordinary_signal.ensures q) (λ q. q) (λ q. q) _ c.in_err-distinct_labels.ensures.stop)
