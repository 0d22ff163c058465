-- What is written of a file, by what stopped its reading, or didn't.
use Rattle.std.proofs.Common.{◌≡◌, ℕ, List, None, Some, Result, Ok, Err, IfOk}
use Rattle.edf_fields.specs.declared.faults.fault.Fault.{Fault}
use Rattle.edf_header.specs.Heads.{Head}
use Rattle.edf_header.specs.Stops.{Stops}
use Rattle.edf_header.specs.declared.stop.Stop.{Stop}
use Rattle.edf_header.specs.declared.stop.Stop.TheVariants as reads
use Rattle.edf_report.specs.Reports.{IsFaultReport, fault_line}
use Rattle.edf_report.specs.declared.report.Report.{Report}
use Rattle.edf_stop.specs.declared.stops.ReportStop.{ReportStop}
use Rattle.edf_stream.specs.Conforming.{Conforms}
use Rattle.edf_stream.specs.Faults.{file_fault}
use Rattle.edf_stream.proofs.ForCallers.{conforming_is_faultless}
use Rattle.edf_verdict.specs.declared.outcome.Outcome.{Outcome}
use Rattle.edf_verdict.specs.declared.outcome.Outcome.TheVariants.{No}
use Rattle.edf_read.specs.ReadTexts.{IsReadText}

-- a file that conforms has no fault
pub faultless : (file : List ℕ) (h : Head) → Conforms file h → file_fault file ≡ None
faultless file h conforms = (conforming_is_faultless file).1 (h, conforms)

fault_is : (file text : List ℕ) (outcome : Outcome) (fault : Fault) → file_fault file ≡ Some fault → text ≡ fault_line fault → outcome ≡ No → IsReadText file text outcome
fault_is file text outcome fault there line is_no = rw is_no (fault, there, line)

-- the fault that stopped the reading is the one whose line is written
pub fault_read : (honest : Type 0) (file : List ℕ) (rises same : Type 0) (stop : Stop) (r : Result Report ReportStop)
    → IfOk r (λ report. IsFaultReport stop report.text.items report.outcome)
    → Stops (λ f. honest → file_fault file ≡ Some f) rises same stop
    → IfOk r (λ report. honest → IsReadText file report.text.items report.outcome)
fault_read honest file rises same stop (Err e) is said = tt
fault_read honest file rises same reads.OutOfMemory (Ok report) is said = absurd is
fault_read honest file rises same reads.ReadFailed (Ok report) is said = absurd is
fault_read honest file rises same (reads.Fault f) (Ok report) is said = λ h. fault_is file report.text.items report.outcome f (said.0 h) is.0 is.1
