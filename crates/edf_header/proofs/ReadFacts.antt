-- From the bytes that were read to the whole file.
use Rattle.std.proofs.Common.{◌≡◌, ℕ, ◌+◌, ◌*◌, List, take, drop, length, Some, None, sym, ap, ◌∙◌, arith, ℤ}
use Rattle.std.proofs.lemmas.List.{drop-drop}
use Rattle.edf_fields.specs.declared.faults.fault.Fault.{Fault}
use Rattle.edf_header.specs.declared.fixed_part.fixed.RecordingStart.{RecordingStart}
use Rattle.edf_header.specs.declared.fixed_part.fixed.Extent.{Extent}
use Rattle.edf_header.specs.declared.kind.Kind.{Kind}
use Rattle.edf_fields.specs.texts.Identifications.{Patient, Recording}
use Rattle.edf_fields.specs.texts.Dates.{CivilDay}
use Rattle.edf_fields.specs.Parts.{text_of}
use Rattle.edf_fields.specs.declared.fields.layout.FixedField.TheVariants as fixed
use Rattle.edf_fields.specs.fields.Layout.{fixed_field}
use Rattle.edf_fields.specs.fields.LayoutReading.{fixed_part, columns_part}
use Rattle.edf_header.specs.Faults.{fixed_tests, fixed_fault, columns_tests, header_fault}
use Rattle.edf_fields.specs.Tests.{first}
use Rattle.edf_header.specs.Heads.{SignalHead, Head, header_bytes}
use Rattle.edf_header.specs.HeadsReading.{patient_in, recording_in, signals_of, signals_in, head_in, head_of}
use Rattle.edf_header.specs.Judged.{SaysStart, SaysExtent}
use Rattle.edf_header.specs.Views.{head_view}
use Rattle.edf_fields.proofs.ForCallers.{first-passed, first-found}
use Rattle.edf_header.proofs.signals.SignalFacts.{length-signals}

pub front_found : (b front : List ℕ) (f : Fault) → front ≡ take 256 b → fixed_fault front ≡ Some f → header_fault b ≡ Some f
unfolding fixed_fault header_fault
front_found b front f e h =
    first-found (fixed_tests (fixed_part b)) (columns_tests (signals_of (fixed_part b)) (columns_part (signals_of (fixed_part b)) b)) f
    (ap (λ xs. first (fixed_tests xs)) (sym e) ∙ h)

pub columns-left : (b front bytes : List ℕ) (n : ℕ) → front ≡ take 256 b → signals_of front ≡ n → bytes ≡ take (256 * n) (drop 256 b)
    → fixed_fault front ≡ None → header_fault b ≡ first (columns_tests n bytes)
unfolding fixed_fault header_fault
columns-left b front bytes n e count cols passed =
    let m : signals_of (fixed_part b) ≡ n = ap signals_of (sym e) ∙ count in
    first-passed (fixed_tests (fixed_part b)) (columns_tests (signals_of (fixed_part b)) (columns_part (signals_of (fixed_part b)) b))
    (ap (λ xs. first (fixed_tests xs)) (sym e) ∙ passed)
    ∙ ap (λ k. first (columns_tests k (columns_part k b))) m
    ∙ ap (λ xs. first (columns_tests n xs)) (sym cols)

-- what the code holds is what its bytes say
pub view-is : (front bytes : List ℕ) (start : RecordingStart) (extent : Extent) (signals : List SignalHead)
    → SaysStart front start → SaysExtent front extent → signals ≡ signals_in extent.signals bytes
    → head_view front start extent signals ≡ head_in front bytes
view-is front bytes start extent signals s x e =
    let patient : Patient = patient_in (fixed_field front fixed.Patient) in
    let recording : Recording = recording_in (fixed_field front fixed.Recording) in
    let free : List ℕ = text_of (drop 5 (fixed_field front fixed.Reserved)) in
    let made : CivilDay → ℕ → Kind → ℕ → ℤ → List SignalHead → Head =
    λ d c k r t l. record { patient = patient; recording = recording; day = d; clock = c; kind = k; free = free; records = r; duration = t; signals = l } in
    let h : Head = head_in front bytes in
    ap (λ d. made d start.clock extent.kind extent.records extent.duration_ps signals) (sym s.day)
    ∙ ap (λ c. made h.day c extent.kind extent.records extent.duration_ps signals) (sym s.clock)
    ∙ ap (λ k. made h.day h.clock k extent.records extent.duration_ps signals) (sym x.kind)
    ∙ ap (λ r. made h.day h.clock h.kind r extent.duration_ps signals) (sym x.records)
    ∙ ap (λ t. made h.day h.clock h.kind h.records t signals) (sym x.duration)
    ∙ ap (λ l. made h.day h.clock h.kind h.records h.duration l) (e ∙ ap (λ n. signals_in n bytes) (sym x.signals))

pub head-is : (b front bytes : List ℕ) (n : ℕ) → front ≡ take 256 b → signals_of front ≡ n → bytes ≡ take (256 * n) (drop 256 b) → head_in front bytes ≡ head_of b
unfolding head_of
head-is b front bytes n e count cols =
    let m : signals_of (fixed_part b) ≡ n = ap signals_of (sym e) ∙ count in
    ap (λ xs. head_in front xs) cols
    ∙ ap (λ xs. head_in xs (columns_part n b)) e
    ∙ ap (λ k. head_in (fixed_part b) (columns_part k b)) (sym m)

pub rest-is : (b front bytes rest : List ℕ) (n : ℕ) → signals_of front ≡ n → rest ≡ drop (256 * n) (drop 256 b) → rest ≡ drop (header_bytes (head_in front bytes)) b
rest-is b front bytes rest n count e =
    let long : length (signals_in (signals_of front) bytes) ≡ n = length-signals bytes (signals_of front) 0 0 (signals_of front) ∙ count in
    let size : 256 + 256 * n ≡ 256 * (length (signals_in (signals_of front) bytes) + 1) = omega (arith, long) in
    e ∙ drop-drop (256 * n) 256 b ∙ ap (λ k. drop k b) size
