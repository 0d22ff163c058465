-- What a report on one file writes.
use Rattle.std.specs.Prelude.{◌≡◌, ◌≢◌, ℕ, IsTrue, List, [], ◌∷◌, ◌++◌, Option, None, Some, codes}
use Rattle.edf_fields.specs.declared.faults.fault.Fault.{Fault}
use Rattle.edf_fields.specs.declared.in_out.sink.Sink.{Ghosts as SinkGhosts}
use Rattle.edf_fields.specs.declared.in_out.source.Source.{Ghosts}
use Rattle.edf_fields.specs.in_out.Sinks.{HoldsPrefix}
use Rattle.edf_fields.specs.in_out.Sources.{Fails, Rises}
use Rattle.edf_stop.specs.Stops.{ReportStops}
use Rattle.edf_stop.specs.declared.stops.ReportStop.{ReportStop}
use Rattle.edf_header.specs.declared.stop.Stop.{Stop}
use Rattle.edf_header.specs.declared.stop.Stop.TheVariants as reads
use Rattle.edf_fields.specs.FaultTexts.{fault_text}
use Rattle.edf_report.specs.declared.report.Report.{Report}
use Rattle.edf_verdict.specs.declared.outcome.Outcome.{Outcome}
use Rattle.edf_verdict.specs.declared.outcome.Outcome.TheVariants as outcomes

-- the line of a fault
abbrev pub fault_line : Fault → List ℕ
fault_line fault = codes "FAULT " ++ (fault_text fault ++ (10 ∷ []))

-- what is written in the end: this text, or the line of the fault where there is one
abbrev pub text_or_fault : List ℕ → Option Fault → List ℕ
text_or_fault text None = text
text_or_fault text (Some fault) = fault_line fault

-- Yes exactly where there is no fault
abbrev pub outcome_of_fault : Option Fault → Outcome
outcome_of_fault None = outcomes.Yes
outcome_of_fault (Some fault) = outcomes.No

-- the text stands behind what was held, and the outcome is that of the fault
abbrev pub IsReported : List ℕ → Option Fault → List ℕ → List ℕ → Outcome → Type 0
IsReported text fault old new outcome = (new ≡ old ++ text) × (outcome ≡ outcome_of_fault fault)

-- a fault stopped the reading of a file
abbrev pub IsFault : Stop → Type 0
IsFault reads.OutOfMemory = ⊥
IsFault reads.ReadFailed = ⊥
IsFault (reads.Fault fault) = Unit {0}

-- the text and the outcome of a fault that stopped the reading of a file
abbrev pub IsFaultReport : Stop → List ℕ → Outcome → Type 0
IsFaultReport reads.OutOfMemory text outcome = ⊥
IsFaultReport reads.ReadFailed text outcome = ⊥
IsFaultReport (reads.Fault fault) text outcome = (text ≡ fault_line fault) × (outcome ≡ outcomes.No)

-- what is written of this stop: the line of its fault, if it is one
abbrev pub stop_line : Stop → List ℕ
stop_line reads.OutOfMemory = []
stop_line reads.ReadFailed = []
stop_line (reads.Fault fault) = fault_line fault

-- the line of the fault stands behind what was held, and the outcome is No
abbrev pub IsStopWritten : Stop → List ℕ → List ℕ → Outcome → Type 0
IsStopWritten reads.OutOfMemory old new outcome = ⊥
IsStopWritten reads.ReadFailed old new outcome = ⊥
IsStopWritten (reads.Fault fault) old new outcome = (new ≡ old ++ fault_line fault) × (outcome ≡ outcomes.No)

-- ---- the same of a source and a sink, before and behind

-- this is the text of what an honest source has left, and the outcome is that of its fault
abbrev pub IsReportBy : {S : Type 0} → Ghosts S → S → (List ℕ → List ℕ) → (List ℕ → Option Fault) → List ℕ → Outcome → Type 0
IsReportBy source s text_of fault_of text outcome = IsTrue (source.is_honest s) → (text ≡ text_of (source.left s)) × (outcome ≡ outcome_of_fault (fault_of (source.left s)))

-- an honest sink holds what it held, and behind it a beginning of this text
abbrev pub HoldsPart : {K : Type 0} → SinkGhosts K → K → K → List ℕ → Type 0
HoldsPart sink k k' text = IsTrue (sink.is_honest k) → HoldsPrefix (sink.held k) (sink.held k') text

-- an honest sink holds the report behind what it held, and the outcome is the report's
abbrev pub IsPut : {K : Type 0} → SinkGhosts K → Report → K → K → Outcome → Type 0
IsPut sink report k k' outcome = (outcome ≡ report.outcome) × (IsTrue (sink.is_honest k) → sink.held k' ≡ sink.held k ++ report.text.items)

-- an honest sink holds the line of the fault behind what it held
abbrev pub IsStopPut : {K : Type 0} → SinkGhosts K → Stop → K → K → Outcome → Type 0
IsStopPut sink stop k k' outcome = IsTrue (sink.is_honest k) → IsStopWritten stop (sink.held k) (sink.held k') outcome

-- why that isn't written: reading failed before, or a write to the sink did, or memory ran out
abbrev pub StopsPutting : {K : Type 0} → Stop → SinkGhosts K → K → K → ReportStop → Type 0
StopsPutting stop sink k k' = ReportStops (stop ≡ reads.ReadFailed) (Rises (sink.failures k) (sink.failures k')) (stop ≢ reads.ReadFailed)

-- why nothing is reported: a read of the source failed, or memory ran out
abbrev pub StopsReading : {S : Type 0} → Ghosts S → S → S → ReportStop → Type 0
StopsReading source s s' stop = ReportStops (Fails (source.reads s) (source.reads s')) ⊥ (source.reads s' ≡ source.reads s) stop

-- or a write to the sink failed
abbrev pub StopsReport : {S K : Type 0} → Ghosts S → S → S → SinkGhosts K → K → K → ReportStop → Type 0
StopsReport source s s' sink k k' stop = ReportStops (Fails (source.reads s) (source.reads s')) (Rises (sink.failures k) (sink.failures k')) (source.reads s' ≡ source.reads s) stop
