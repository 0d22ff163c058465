-- Fronts of a text that were written.
use Rattle.std.proofs.Common.{arith, ◌≡◌, ℕ, ◌+◌, ◌*◌, ◌≤◌, List, ◌++◌, length, take, Option, Some, None, Result, Ok, Err, IfOk, refl, sym, ap, ◌∙◌, append_assoc, length-append}
use Rattle.std.proofs.Math.Seq.{take-append-add}
use Rattle.std.proofs.lemmas.List.{append-nil, take_at, take-append-le}
use Rattle.edf_fields.specs.in_out.Sinks.{HoldsPrefix}
use Rattle.edf_fields.specs.declared.faults.fault.Fault.{Fault}
use Rattle.edf_header.specs.declared.stop.Stop.{Stop}
use Rattle.edf_header.specs.declared.stop.Stop.TheVariants as reads
use Rattle.edf_header.specs.Faults.{header_fault}
use Rattle.edf_header.specs.Heads.{Head, samples_together}
use Rattle.edf_header.specs.HeadsReading.{head_of}
use Rattle.edf_header.specs.Stops.{Stops}
use Rattle.edf_stream.specs.declared.whole.conform.Summary.{Summary}
use Rattle.edf_stream.specs.Faults.{file_fault}
use Rattle.edf_stream.specs.Summaries.{IsSummed}
use Rattle.edf_header.specs.signals.Channels.{channels_among}
use Rattle.edf_verdict.specs.declared.outcome.Outcome.TheVariants as outcomes
use Rattle.edf_report.specs.declared.report.Report.{Report}
use Rattle.edf_stop.specs.declared.stops.ReportStop.{ReportStop}
use Rattle.edf_report.specs.ConformTexts.{counts_line, file_counts, conform_text}
use Rattle.edf_report.specs.Reports.{IsFaultReport, text_or_fault, outcome_of_fault}
use Rattle.edf_report.specs.ShowTexts.{head_text, show_text}

-- where nothing was written
pub nothing : (old text : List ℕ) → HoldsPrefix old old text
nothing old text = (0, (let low : 0 ≤ length text = omega arith in low), sym (append-nil old))

-- where a front was written
pub front : (old text rest : List ℕ) → HoldsPrefix old (old ++ text) (text ++ rest)
front old text rest =
    (length text, (let low : length text ≤ length (text ++ rest) = omega (arith, length-append text rest) in low), ap (λ xs. old ++ xs) (sym (take_at text rest (length text) refl)))

-- where a front of the next piece was written behind it
pub further : (old new text piece rest : List ℕ) → HoldsPrefix (old ++ text) new piece → HoldsPrefix old new (text ++ (piece ++ rest))
further old new text piece rest held =
    let n = held.0 in
    let within : n ≤ length piece = held.1 in
    let size : length (text ++ (piece ++ rest)) ≡ length text + (length piece + length rest) = length-append text (piece ++ rest) ∙ ap (λ k. length text + k) (length-append piece rest) in
    let both : take (length text + n) (text ++ (piece ++ rest)) ≡ text ++ take n piece =
    take-append-add text (piece ++ rest) n ∙ ap (λ xs. text ++ xs) (take-append-le n piece rest within) in
    (length text + n, (let low : length text + n ≤ length (text ++ (piece ++ rest)) = omega (arith, within, size) in low), held.2 ∙ append_assoc old text (take n piece) ∙ ap (λ xs. old ++ xs) (sym both))

-- a fault that stopped the reading is the one that the report names
pub fault_reported : (honest : Type 0) (good : List ℕ) (fault : Option Fault) (rises same : Type 0) (stop : Stop) (r : Result Report ReportStop)
    → IfOk r (λ report. IsFaultReport stop report.text.items report.outcome)
    → Stops (λ f. honest → fault ≡ Some f) rises same stop
    → IfOk r (λ report. honest → (report.text.items ≡ text_or_fault good fault) × (report.outcome ≡ outcome_of_fault fault))
fault_reported honest good fault rises same stop (Err e) is said = tt
fault_reported honest good fault rises same reads.OutOfMemory (Ok report) is said = absurd is
fault_reported honest good fault rises same reads.ReadFailed (Ok report) is said = absurd is
fault_reported honest good fault rises same (reads.Fault f) (Ok report) is said = λ h.
    (is.0 ∙ ap (text_or_fault good) (sym (said.0 h)), is.1 ∙ ap outcome_of_fault (sym (said.0 h)))

-- the line of how much a file holds is the text on it
pub counted : (file left : List ℕ) (summary : Summary) (line : List ℕ) → line ≡ counts_line summary.records summary.channels summary.samples summary.annotations
    → IsSummed file left summary → (line ≡ conform_text file) × (outcomes.Yes ≡ outcome_of_fault (file_fault file))
unfolding conform_text
counted file left summary line is summed =
    let h = head_of file in
    let holds = summed.holds in (
      is
          ∙ ap (λ n. counts_line n summary.channels summary.samples summary.annotations) holds.records
          ∙ ap (λ n. counts_line h.records n summary.samples summary.annotations) holds.channels
          ∙ ap (λ n. counts_line h.records (length (channels_among h.signals)) n summary.annotations) holds.samples
          ∙ ap (counts_line h.records (length (channels_among h.signals)) (h.records * samples_together (channels_among h.signals))) holds.annotations
          ∙ ap (text_or_fault (file_counts file h)) (sym summed.faultless),
      ap outcome_of_fault (sym summed.faultless),
    )

-- the lines of a header are the text on its file
pub shown : (file : List ℕ) (h : Head) (text : List ℕ) → text ≡ head_text h → h ≡ head_of file → header_fault file ≡ None
    → (text ≡ show_text file) × (outcomes.Yes ≡ outcome_of_fault (header_fault file))
unfolding show_text
shown file h text is head none =
    (is ∙ ap head_text head ∙ ap (text_or_fault (head_text (head_of file))) (sym none), ap outcome_of_fault (sym none))
