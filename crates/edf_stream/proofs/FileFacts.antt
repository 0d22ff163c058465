-- From the faults of a file's parts to that of the file.
use Rattle.std.proofs.Common.{◌≡◌, ℕ, List, [], ◌∷◌, Some, ap, ◌∙◌, sym}
use Rattle.edf_fields.proofs.ForCallers.{first-passed, first-found, alone}
use Rattle.edf_fields.specs.declared.faults.fault.Fault.{Fault}
use Rattle.edf_header.specs.Faults.{header_fault}
use Rattle.edf_header.specs.Heads.{Head}
use Rattle.edf_header.specs.HeadsReading.{head_of}
use Rattle.edf_stream.specs.Faults.{body_fault, file_fault}
use Rattle.edf_stream.specs.records.Readers.{HasPassed}

-- the fault of the header is that of the file
pub header_first : (file : List ℕ) (f : Fault) → header_fault file ≡ Some f → file_fault file ≡ Some f
unfolding file_fault
header_first file f h = first-found (header_fault file ∷ []) (body_fault file (head_of file) ∷ []) f (alone (header_fault file) ∙ h)

-- behind a header without a fault it is that of the data records
pub file_is : (file : List ℕ) (h : Head) (k : ℕ) → HasPassed file h k → file_fault file ≡ body_fault file h
unfolding file_fault
file_is file h k passed =
    first-passed (header_fault file ∷ []) (body_fault file (head_of file) ∷ []) (alone (header_fault file) ∙ passed.header)
    ∙ alone (body_fault file (head_of file)) ∙ ap (body_fault file) (sym passed.head)
