-- The tests that the data records of a file have to pass, in their written order, and the first that fails.
use Rattle.std.specs.Prelude.{ℕ, zero, suc, ℤ, pos, ◌+◌, ◌^◌, nat_le, int_le, int_lt, Bool, ◌&&◌, List, [], ◌∷◌, ◌++◌, length, map, Option, Some, None, Result, Ok, Err}
use Rattle.std.specs.Ordering.{int_eq}
use Rattle.edf_fields.specs.declared.faults.cause.TalCause.{TalCause}
use Rattle.edf_fields.specs.Tests.{first}
use Rattle.edf_fields.specs.declared.faults.fault.Fault.{Fault}
use Rattle.edf_fields.specs.declared.faults.fault.Place.{Place}
use Rattle.edf_fields.specs.declared.faults.fault.Place.TheVariants.{AtField, AtSignal, AtRecord, AtEnd}
use Rattle.edf_fields.specs.declared.faults.fault.Cause.{Cause}
use Rattle.edf_fields.specs.declared.faults.fault.Cause.TheVariants.{BadTal, NoTimekeeping, BadFirstStart, NotContiguous, Overlap, TooManyAnnotations, TrailingBytes}
use Rattle.edf_header.specs.declared.kind.Kind.{Kind}
use Rattle.edf_header.specs.declared.kind.Kind.TheVariants.{Contiguous, Interrupted}
use Rattle.edf_header.specs.Faults.{fault, fault_unless, truncated, header_fault}
use Rattle.edf_header.specs.Heads.{Head}
use Rattle.edf_header.specs.HeadsReading.{head_of}
use Rattle.edf_tal.specs.declared.start.StartCause.{StartCause}
use Rattle.edf_tal.specs.Reading.{Item, items_of}
use Rattle.edf_stream.specs.records.Records.{record_at, annotation_lanes}
use Rattle.edf_stream.specs.records.RecordsReading.{record_place}
use Rattle.edf_stream.specs.annotation.NotesReading.{notes_in, notes_before}
use Rattle.edf_stream.specs.times.StartsReading.{said_start, start_in, end_before}

-- the cause among the items of a lane; there is one at most, and it is the last item
abbrev pub cause_of : List Item → Option TalCause
cause_of [] = None
cause_of (Ok tal ∷ items) = cause_of items
cause_of (Err cause ∷ items) = Some cause

-- why the first of these lanes that is no list of TALs is none
abbrev pub cause_of_lanes : List (List ℕ) → Option TalCause
cause_of_lanes lanes = first (map (λ lane. cause_of (items_of lane)) lanes)

-- each of these lanes is a list of TALs. EDF+ (2003), "Time-stamped Annotations Lists (TALs) in an 'EDF Annotations' signal"
unfoldable pub lanes_fault : ℕ → Option TalCause → Option Fault
lanes_fault k None = None
lanes_fault k (Some cause) = fault (AtRecord k) (BadTal cause)

-- the data record says when it starts. EDF+ (2003), "Time keeping of data records"
unfoldable pub time_fault : ℕ → Result ℤ StartCause → Option Fault
time_fault k (Ok start) = None
time_fault k (Err cause) = fault (AtRecord k) NoTimekeeping

-- data record k may start here, where the one before it ends there: the first one in the first second, each
-- other one just there where the file is contiguous, and there or later where it is interrupted
abbrev pub may_start : Kind → ℕ → ℤ → ℤ → Bool
may_start kind zero ended start = int_le (pos 0) start && int_lt start (pos (10 ^ 12))
may_start Contiguous (suc k) ended start = int_eq start ended
may_start Interrupted (suc k) ended start = int_le ended start

-- what it is called where it may not
abbrev pub start_cause : Kind → ℕ → Cause
start_cause kind zero = BadFirstStart
start_cause Contiguous (suc k) = NotContiguous
start_cause Interrupted (suc k) = Overlap

-- data record k starts where it may. EDF+ (2003), "Time keeping of data records"; that a contiguous file has no
-- rounded starts is this project's profile
unfoldable pub start_fault : Kind → ℕ → ℤ → ℤ → Option Fault
start_fault kind k ended start = fault_unless (may_start kind k ended start) (AtRecord k) (start_cause kind k)

-- there are 1,000,000 annotations at the most up to the end of data record k (this project's profile)
unfoldable pub notes_fault : ℕ → ℕ → Option Fault
notes_fault k notes = fault_unless (nat_le notes 1000000) (AtRecord k) TooManyAnnotations

-- the first tests of the bytes of data record k: their annotation lanes are lists of TALs, and say when it starts
abbrev pub timed_faults : Head → ℕ → List ℕ → List (Option Fault)
timed_faults h k bytes = lanes_fault k (cause_of_lanes (annotation_lanes h.signals bytes)) ∷ time_fault k (said_start h bytes) ∷ []

-- the tests of the bytes of data record k, where the records before it end at `ended` and have so many annotations
abbrev pub record_faults : Head → ℕ → ℤ → ℕ → List ℕ → List (Option Fault)
record_faults h k ended notes bytes =
    lanes_fault k (cause_of_lanes (annotation_lanes h.signals bytes))
    ∷ time_fault k (said_start h bytes)
    ∷ start_fault h.kind k ended (start_in h bytes)
    ∷ notes_fault k (notes + length (notes_in h bytes))
    ∷ []

-- the first fault of these bytes as data record k
unfoldable pub record_fault : Head → ℕ → ℤ → ℕ → List ℕ → Option Fault
record_fault h k ended notes bytes = first (record_faults h k ended notes bytes)

-- the tests of the m data records from record k on: each is there, and has no fault
abbrev pub records_tests : List ℕ → Head → ℕ → ℕ → List (Option Fault)
records_tests file h k zero = []
records_tests file h k (suc m) =
    truncated (AtRecord k) (record_place h (k + 1)) (length file)
    ∷ record_fault h k (end_before file h k) (notes_before file h k) (record_at file h k)
    ∷ records_tests file h (k + 1) m

-- no byte stands behind the last data record
unfoldable pub trailing_fault : List ℕ → Head → Option Fault
trailing_fault file h = fault_unless (nat_le (length file) (record_place h h.records)) AtEnd TrailingBytes

-- the first fault of what stands behind the header
unfoldable pub body_fault : List ℕ → Head → Option Fault
body_fault file h = first (records_tests file h 0 h.records ++ trailing_fault file h ∷ [])

-- how many data records stand before this place
abbrev pub records_before_place : Head → Place → ℕ
records_before_place h (AtField field) = 0
records_before_place h (AtSignal signal field) = 0
records_before_place h (AtRecord k) = k
records_before_place h AtEnd = h.records

-- the first fault of a file: of its header, else of its data records one after the other, else a byte behind them
unfoldable pub file_fault : List ℕ → Option Fault
file_fault file = first (header_fault file ∷ body_fault file (head_of file) ∷ [])

-- how many data records stand before the first fault of a file with this header: none before a fault of the header, and all
-- where there is no fault
abbrev pub records_before : Head → Option Fault → ℕ
records_before h None = h.records
records_before h (Some fault) = records_before_place h fault.place
