-- The samples of a file, each at its exact instant. EDF (1992), "Data record"; EDF+ (2003), "Time keeping
-- of data records". Times are picoseconds after 1970-01-01 00:00:00, civil time.
use Rattle.std.specs.Prelude.{◌≡◌, ℕ, ℤ, pos, ◌<◌, ◌+ℤ◌, ◌*ℤ◌, List}
use Rattle.edf_header.specs.signals.Channels.{IsChannelOf}
use Rattle.edf_header.specs.Heads.{Head, SignalHead}
use Rattle.edf_stream.specs.declared.times.instant.Instant.{Instant}
use Rattle.edf_stream.specs.annotation.Notes.{NoteValue, SaysRecord}
use Rattle.edf_stream.specs.records.Records.{record_at, lane_of}
use Rattle.edf_stream.specs.times.Starts.{file_start}
use Rattle.edf_stream.specs.samples.Values.{digital_value}

-- a sample: the label of its channel, its instant and its digital value
pub record SampleValue : Type 0 where
  pub label : List ℕ
  pub instant : Instant
  pub value : ℤ

-- the file has this sample: it stands at some place of a channel's lane in some data record. With den samples in a lane, its
-- instant is the start of the data record and `place` times the duration of a data record over den; it counts from 1970-01-01
-- 00:00:00 on, civil time (EDF, "Data record"; EDF+, "Time keeping of data records"). `start` and `notes` are what the data record
-- says, and den isn't 0 (`IsSoundSignal`)
pub record IsSample (file : List ℕ) (h : Head) (x : SampleValue) : Type 0 where
  pub signal : SignalHead
  pub data_record : ℕ
  pub place : ℕ
  pub start : ℤ
  pub notes : List NoteValue
  pub channel : IsChannelOf h x.label signal
  pub count : (x.instant).den ≡ signal.samples
  pub in_file : data_record < h.records
  pub in_lane : place < (x.instant).den
  pub says : SaysRecord h (record_at file h data_record) start notes
  pub instant : (x.instant).num ≡ (pos (x.instant).den *ℤ (file_start h +ℤ start)) +ℤ (pos place *ℤ h.duration)
  pub value_is : x.value ≡ digital_value (lane_of signal (record_at file h data_record)) place
