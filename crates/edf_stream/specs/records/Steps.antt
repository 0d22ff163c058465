-- One step of a reader, as the functions that take it promise it.
use Rattle.std.specs.Prelude.{◌≡◌, ℕ, ℤ, ◌+◌, Bool, true, false, List, [], Option, None, Some}
use Rattle.edf_fields.specs.Tests.{first}
use Rattle.edf_header.specs.Heads.{Head}
use Rattle.edf_stream.specs.declared.times.start.Progress.{Progress}
use Rattle.edf_stream.specs.records.Records.{record_at}
use Rattle.edf_stream.specs.Faults.{records_tests, body_fault}
use Rattle.edf_stream.specs.Conforming.{Conforms}
use Rattle.edf_stream.specs.records.Readers.{HasPassed, StandsAt}

-- data record k was read into the buffer, and passes its tests
pub record IsRead (file : List ℕ) (h : Head) (k : ℕ) (ended : ℤ) (notes : ℕ) (left buffer : List ℕ) : Type 0 where
  pub passes : first (records_tests file h k 1) ≡ None
  pub is : buffer ≡ record_at file h k
  pub stands : StandsAt file h (k + 1) ended notes left

-- how far the records were followed where there was one more; none where there was none
abbrev pub followed : Bool → Progress → Option Progress
followed true after = Some after
followed false after = None

-- behind the first k data records, of which `before` tells, either the file conforms and ends, or record k is read and stands in the buffer
abbrev pub GoesOn : List ℕ → Head → ℕ → Progress → Option Progress → List ℕ → List ℕ → Type 0
GoesOn file h k before None left buffer =
    StandsAt file h k before.ended_ps before.notes left × (k ≡ h.records) × (body_fault file h ≡ None) × Conforms file h × (left ≡ [])
GoesOn file h k before (Some after) left buffer =
    HasPassed file h (k + 1) × StandsAt file h (k + 1) after.ended_ps after.notes left × (buffer ≡ record_at file h k)
