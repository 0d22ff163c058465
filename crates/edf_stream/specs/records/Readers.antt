-- A reader of a file, data record by data record, as its callers see it.
use Rattle.std.specs.Prelude.{◌≡◌, ℕ, ℤ, ◌≤◌, nat_lt, if◌then◌else◌, Bool, true, false, List, [], length, drop, None, Result, Ok, Err}
use Rattle.edf_fields.specs.Tests.{first}
use Rattle.edf_fields.specs.declared.faults.fault.Fault.{Fault}
use Rattle.edf_fields.specs.declared.faults.fault.Place.{Place}
use Rattle.edf_fields.specs.declared.faults.fault.Place.TheVariants.{AtRecord, AtEnd}
use Rattle.edf_header.specs.declared.stop.Stop.{Stop}
use Rattle.edf_header.specs.declared.stop.Stop.TheVariants as stops
use Rattle.edf_header.specs.Conforming.{HeaderConforms}
use Rattle.edf_header.specs.Faults.{header_fault}
use Rattle.edf_header.specs.Heads.{Head}
use Rattle.edf_header.specs.HeadsReading.{head_of}
use Rattle.edf_stream.specs.declared.records.status.Status.{Status}
use Rattle.edf_stream.specs.declared.records.status.Status.TheVariants.{Begun, Current, Ended, Stopped}
use Rattle.edf_stream.specs.records.Records.{record_at}
use Rattle.edf_stream.specs.records.RecordsReading.{record_place}
use Rattle.edf_stream.specs.times.StartsReading.{end_before}
use Rattle.edf_stream.specs.annotation.NotesReading.{notes_before}
use Rattle.edf_stream.specs.Faults.{records_tests, body_fault}
use Rattle.edf_stream.specs.Conforming.{Conforms}

-- the header; how many data records were read, where the last of them ends, and how many annotations they have; the
-- buffer of one data record; and what the last call of `next` answered
pub record Reader : Type 0 where
  pub head : Head
  pub read : ℕ
  pub ended : ℤ
  pub notes : ℕ
  pub current : List ℕ
  pub status : Status

-- the header was read, and `next` wasn't called yet
abbrev pub HasBegun : Reader → Type 0
HasBegun r = (r.status ≡ Begun) × (r.read ≡ 0)

-- the next call goes on
abbrev pub IsOpen : Status → Type 0
IsOpen Begun = Unit {0}
IsOpen Current = Unit {0}
IsOpen Ended = ⊥
IsOpen (Stopped stop) = ⊥

-- the buffer holds a data record
abbrev pub is_current : Status → Bool
is_current Begun = false
is_current Current = true
is_current Ended = false
is_current (Stopped stop) = false

-- what is kept of an answer
abbrev pub status_after : Result Bool Stop → Status
status_after (Ok true) = Current
status_after (Ok false) = Ended
status_after (Err stop) = Stopped stop

-- h is the header of the file, which has no fault, and the first k data records pass their tests
pub record HasPassed (file : List ℕ) (h : Head) (k : ℕ) : Type 0 where
  pub head : h ≡ head_of file
  pub header : header_fault file ≡ None
  pub in_order : HeaderConforms file h
  pub within : k ≤ h.records
  pub records : first (records_tests file h 0 k) ≡ None

-- what is left is the file from data record k on; the records before it end at `ended`, and have so many annotations
pub record StandsAt (file : List ℕ) (h : Head) (k : ℕ) (ended : ℤ) (notes : ℕ) (left : List ℕ) : Type 0 where
  pub end_is : ended ≡ end_before file h k
  pub notes_are : notes ≡ notes_before file h k
  pub whole : record_place h k ≤ length file
  pub rest : left ≡ drop (record_place h k) file

-- the reader has read the file up to data record r.read, and the source has left the rest of it
pub record StandsIn (r : Reader) (left file : List ℕ) : Type 0 where
  pub passed : HasPassed file r.head r.read
  pub stands : StandsAt file r.head r.read r.ended r.notes left

-- one data record more, which is current; or the end of a file that conforms
abbrev pub Comes : Bool → Reader → Reader → List ℕ → List ℕ → Type 0
Comes true old new left file = StandsIn new left file × (new.current ≡ record_at file old.head old.read)
Comes false old new left file =
    StandsIn new left file × (new.read ≡ (old.head).records) × (body_fault file old.head ≡ None) × Conforms file old.head × (left ≡ []) × (old.read ≡ (old.head).records)

-- where the next call finds a fault, if it finds one: in data record k, or behind the last one
abbrev pub place_behind : Head → ℕ → Place
place_behind h k = if nat_lt k h.records then AtRecord k else AtEnd

-- a fault stands at this place
abbrev pub StopsAt : Place → Stop → Type 0
StopsAt place stops.OutOfMemory = Unit {0}
StopsAt place stops.ReadFailed = Unit {0}
StopsAt place (stops.Fault fault) = fault.place ≡ place

-- why reading a data record stopped, which takes no memory: of a fault this is said, and of a failed read that
abbrev pub StopsReading : (Fault → Type 0) → Type 0 → Stop → Type 0
StopsReading faults failed stops.OutOfMemory = ⊥
StopsReading faults failed stops.ReadFailed = failed
StopsReading faults failed (stops.Fault fault) = faults fault
