-- What is written of a header, by what stopped its reading, or didn't.
use Rattle.std.proofs.Common.{◌≡◌, ℕ, List, length, Some, Result, Ok, Err, IfOk, sym, ap, ◌∙◌}
use Rattle.edf_fields.specs.fields.LayoutReading.{fixed_part, columns_part}
use Rattle.edf_header.specs.Faults.{header_fault}
use Rattle.edf_header.specs.Heads.{Head}
use Rattle.edf_header.specs.HeadsReading.{head_of}
use Rattle.edf_header.specs.Stops.{Stops}
use Rattle.edf_header.specs.declared.stop.Stop.{Stop}
use Rattle.edf_header.specs.declared.stop.Stop.TheVariants as reads
use Rattle.edf_report.specs.Reports.{IsFaultReport, text_or_fault}
use Rattle.edf_report.specs.declared.report.Report.{Report}
use Rattle.edf_stop.specs.declared.stops.ReportStop.{ReportStop}
use Rattle.edf_verdict.specs.declared.outcome.Outcome.{Outcome}
use Rattle.edf_layout.specs.HeadFiles.{IsHeadFile}
use Rattle.edf_layout.specs.HeadLayouts.{HeadLayout, layout_in, head_layout_of}
use Rattle.edf_layout.specs.HeadReports.{plain_outcome, places_of, layout_report, outcome_by, head_layout_text, head_layout_outcome}

-- the lines of a header that was read are the text on its file
pub laid-out : (file left front columns : List ℕ) (h : Head) (text : List ℕ) (outcome : Outcome) → IsHeadFile file left front columns h
    → text ≡ layout_report (layout_in front (length h.signals) columns) h → outcome ≡ plain_outcome (length (places_of (layout_in front (length h.signals) columns) h))
    → (text ≡ head_layout_text file) × (outcome ≡ head_layout_outcome file)
unfolding head_layout_text head_layout_outcome head_layout_of
laid-out file left front columns h text outcome is said ended =
    let g = head_of file in
    let layout : layout_in front (length h.signals) columns ≡ layout_in (fixed_part file) (length g.signals) (columns_part (length g.signals) file) =
    ap (λ f. layout_in f (length h.signals) columns) is.front_is
    ∙ ap (λ xs. layout_in (fixed_part file) (length h.signals) xs) is.columns_are
    ∙ ap (λ (k : Head). layout_in (fixed_part file) (length k.signals) (columns_part (length k.signals) file)) is.header in
    let l : HeadLayout = layout_in (fixed_part file) (length g.signals) (columns_part (length g.signals) file) in (
      said
          ∙ ap (λ (k : HeadLayout). layout_report k h) layout
          ∙ ap (λ (k : Head). layout_report l k) is.header
          ∙ ap (text_or_fault (layout_report l g)) (sym is.faultless),
      ended
          ∙ ap (λ (k : HeadLayout). plain_outcome (length (places_of k h))) layout
          ∙ ap (λ (k : Head). plain_outcome (length (places_of l k))) is.header
          ∙ ap (λ fault. outcome_by fault (length (places_of l g))) (sym is.faultless),
    )

-- the fault that stopped the reading is the one whose line is written
pub fault-reported : (honest : Type 0) (file : List ℕ) (rises same : Type 0) (stop : Stop) (r : Result Report ReportStop)
    → IfOk r (λ report. IsFaultReport stop report.text.items report.outcome)
    → Stops (λ f. honest → header_fault file ≡ Some f) rises same stop
    → IfOk r (λ report. honest → (report.text.items ≡ head_layout_text file) × (report.outcome ≡ head_layout_outcome file))
unfolding head_layout_text head_layout_outcome
fault-reported honest file rises same stop (Err e) is said = tt
fault-reported honest file rises same reads.OutOfMemory (Ok report) is said = absurd is
fault-reported honest file rises same reads.ReadFailed (Ok report) is said = absurd is
fault-reported honest file rises same (reads.Fault f) (Ok report) is said = λ h.
    let g = head_of file in (
      is.0 ∙ ap (text_or_fault (layout_report (head_layout_of file g) g)) (sym (said.0 h)),
      is.1 ∙ ap (λ fault. outcome_by fault (length (places_of (head_layout_of file g) g))) (sym (said.0 h)),
    )
