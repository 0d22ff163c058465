-- The first fault of a file that is read.
use Rattle.std.proofs.Common.{◌≡◌, ℕ, List, Some, Result, Ok, Err, IfOk}
use Rattle.edf_fields.specs.declared.faults.fault.Fault.{Fault}
use Rattle.edf_header.specs.Faults.{header_fault}
use Rattle.edf_stream.specs.Faults.{body_fault, file_fault}
use Rattle.edf_stream.specs.records.Readers.{Reader, StandsIn}
use Rattle.edf_stream.proofs.ForCallers.{fault_is_of_body, header_first}

-- a file in which a reader stands has the first fault of its data records
pub fault_is : (r : Reader) (left file : List ℕ) → StandsIn r left file → file_fault file ≡ body_fault file r.head
fault_is r left file s = fault_is_of_body file r.head (s.passed).head (s.passed).header

pub header_fault_first : (file : List ℕ) (fault : Fault) → header_fault file ≡ Some fault → file_fault file ≡ Some fault
header_fault_first = header_first

-- what holds of a value where it comes, and what follows from it
pub if-ok : {X E : Type 0} (r : Result X E) (P Q : X → Type 0) → ((x : X) → P x → Q x) → IfOk r P → IfOk r Q
if-ok (Ok x) P Q f h = f x h
if-ok (Err e) P Q f h = h
