-- The stages of the tests of the signals together, and of the columns.
use Rattle.std.proofs.Common.{◌≡◌, ℕ, List, [], ◌∷◌, ◌++◌, length, Some, None, ap, ◌∙◌}
use Rattle.edf_fields.specs.declared.faults.fault.Fault.{Fault}
use Rattle.edf_fields.specs.fields.LayoutReading.{columns}
use Rattle.edf_header.specs.Heads.{SignalHead}
use Rattle.edf_header.specs.HeadsReading.{signals_in}
use Rattle.edf_header.specs.Faults.{no_annotation_signal, no_ordinary_signal, labels_faults, record_too_large, joint_faults, columns_missing, signals_faults, columns_tests}
use Rattle.edf_fields.specs.Tests.{first}
use Rattle.edf_fields.proofs.ForCallers.{first-passed, first-found, alone}

labels-left : (signals : List SignalHead) → no_annotation_signal signals ≡ None → no_ordinary_signal signals ≡ None
    → first (joint_faults signals) ≡ first (labels_faults signals 0 (length signals) ++ (record_too_large signals ∷ []))
labels-left signals a o =
    first-passed (no_annotation_signal signals ∷ no_ordinary_signal signals ∷ []) (labels_faults signals 0 (length signals) ++ (record_too_large signals ∷ []))
    (ap (λ t. first (t ∷ no_ordinary_signal signals ∷ [])) a ∙ ap (λ t. first (t ∷ [])) o)

pub labels_found : (signals : List SignalHead) (f : Fault) → no_annotation_signal signals ≡ None → no_ordinary_signal signals ≡ None
    → first (labels_faults signals 0 (length signals)) ≡ Some f → first (joint_faults signals) ≡ Some f
labels_found signals f a o found = labels-left signals a o ∙ first-found (labels_faults signals 0 (length signals)) (record_too_large signals ∷ []) f found

pub size_left : (signals : List SignalHead) → no_annotation_signal signals ≡ None → no_ordinary_signal signals ≡ None
    → first (labels_faults signals 0 (length signals)) ≡ None → first (joint_faults signals) ≡ record_too_large signals
size_left signals a o passed =
    labels-left signals a o ∙ first-passed (labels_faults signals 0 (length signals)) (record_too_large signals ∷ []) passed ∙ alone (record_too_large signals)

-- the columns: what is missing, then the signals, then the signals together
pub column_found : (n : ℕ) (bytes : List ℕ) (f : Fault) → first (columns_missing columns n (length bytes)) ≡ Some f → first (columns_tests n bytes) ≡ Some f
column_found n bytes f h = first-found (columns_missing columns n (length bytes)) (signals_faults bytes n 0 n ++ joint_faults (signals_in n bytes)) f h

signals-left : (n : ℕ) (bytes : List ℕ) → first (columns_missing columns n (length bytes)) ≡ None → first (columns_tests n bytes) ≡ first (signals_faults bytes n 0 n ++ joint_faults (signals_in n bytes))
signals-left n bytes h = first-passed (columns_missing columns n (length bytes)) (signals_faults bytes n 0 n ++ joint_faults (signals_in n bytes)) h

pub signals_found : (n : ℕ) (bytes : List ℕ) (f : Fault) → first (columns_missing columns n (length bytes)) ≡ None → first (signals_faults bytes n 0 n) ≡ Some f → first (columns_tests n bytes) ≡ Some f
signals_found n bytes f there h = signals-left n bytes there ∙ first-found (signals_faults bytes n 0 n) (joint_faults (signals_in n bytes)) f h

pub joint-left : (n : ℕ) (bytes : List ℕ) → first (columns_missing columns n (length bytes)) ≡ None → first (signals_faults bytes n 0 n) ≡ None → first (columns_tests n bytes) ≡ first (joint_faults (signals_in n bytes))
joint-left n bytes there h = signals-left n bytes there ∙ first-passed (signals_faults bytes n 0 n) (joint_faults (signals_in n bytes)) h
