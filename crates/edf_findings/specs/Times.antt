-- Which data record of a file is at hand, and when, on the clock of the original.
use Rattle.std.specs.Prelude.{◌==◌, ◌&&◌, ℕ, ℤ, ◌+ℤ◌, not, Bool, if◌then◌else◌, Option, None, Some}
use Rattle.edf_findings.specs.declared.record_time.RecordTime.{RecordTime}
use Rattle.edf_findings.specs.declared.stand.Stand.{Stand}
use Rattle.edf_pace.specs.walk.Shown.{begins_at}
use Rattle.edf_stream.specs.records.Readers.{Reader, is_current}
use Rattle.edf_stream.specs.times.Starts.{file_start}

-- a data record is at hand, and another one than that behind which so many were read
abbrev pub is_another : ℕ → Reader → Bool
is_another read r = is_current r.status && not (read == r.read)

-- what the times of a file are moved by, from the second on at which it starts
abbrev pub offset_of : Stand → ℤ
offset_of stand = file_start (stand.reader).now.head +ℤ (stand.by).ps

-- from when to when the data record at hand lasts
abbrev pub time_at_hand : Stand → Option RecordTime
time_at_hand stand =
    if is_current (stand.reader).now.status
    then Some (record { from_ps = begins_at (stand.reader).now (stand.by).ps; to_ps = begins_at (stand.reader).now (stand.by).ps +ℤ ((stand.reader).now.head).duration })
    else None

-- the time of a data record and of those in front of it
abbrev pub joined : Option RecordTime → RecordTime → RecordTime
joined None time = time
joined (Some front) time = record { from_ps = front.from_ps; to_ps = time.to_ps }
