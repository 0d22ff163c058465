-- Where data records start, as it is read, in picoseconds after the start of the file. EDF+ (2003), "Time keeping
-- of data records".
use Rattle.std.specs.Prelude.{ℕ, zero, suc, ℤ, pos, ◌+ℤ◌, List, [], ◌∷◌, Result, Ok, Err}
use Rattle.edf_header.specs.Heads.{Head}
use Rattle.edf_tal.specs.declared.start.StartCause.{StartCause}
use Rattle.edf_tal.specs.declared.start.StartCause.TheVariants.{NoTimekeeping}
use Rattle.edf_tal.specs.Reading.{items_of}
use Rattle.edf_tal.specs.Views.{start_of}
use Rattle.edf_stream.specs.records.Records.{annotation_lanes, record_at}

-- the start that the first of these lanes says, or why it says none
abbrev pub start_by_lanes : List (List ℕ) → Result ℤ StartCause
start_by_lanes [] = Err NoTimekeeping
start_by_lanes (lane ∷ lanes) = start_of (items_of lane)

-- the start that the data record of these bytes says: that of the lane of its first annotation signal
unfoldable pub said_start : Head → List ℕ → Result ℤ StartCause
said_start h bytes = start_by_lanes (annotation_lanes h.signals bytes)

-- the start, or 0 where none is said
abbrev pub or_zero : Result ℤ StartCause → ℤ
or_zero (Ok start) = start
or_zero (Err cause) = pos 0

-- where the data record of these bytes starts; 0 where it doesn't say it
abbrev pub start_in : Head → List ℕ → ℤ
start_in h bytes = or_zero (said_start h bytes)

-- where data record k starts
abbrev pub start_at : List ℕ → Head → ℕ → ℤ
start_at file h k = start_in h (record_at file h k)

-- where data record k ends
abbrev pub end_at : List ℕ → Head → ℕ → ℤ
end_at file h k = start_at file h k +ℤ h.duration

-- where the data record before record k ends; 0 where there is none
abbrev pub end_before : List ℕ → Head → ℕ → ℤ
end_before file h zero = pos 0
end_before file h (suc k) = end_at file h k
