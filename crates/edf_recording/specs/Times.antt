-- When a file was recorded (EDF, "Header record": startdate and starttime; EDF+, "Time keeping of data records").
use Rattle.std.specs.Prelude.{ℕ, ℤ, ◌+ℤ◌, List}
use Rattle.edf_header.specs.Heads.{Head}
use Rattle.edf_stream.specs.times.Starts.{file_start}
use Rattle.edf_stream.specs.times.StartsReading.{start_at, end_before}

-- where the first data record of the file starts, in picoseconds after 1970-01-01 00:00:00 (civil time, without a time zone)
abbrev pub begin_of : List ℕ → Head → ℤ
begin_of file h = file_start h +ℤ start_at file h 0

-- where its last data record ends
abbrev pub end_of : List ℕ → Head → ℤ
end_of file h = file_start h +ℤ end_before file h h.records
