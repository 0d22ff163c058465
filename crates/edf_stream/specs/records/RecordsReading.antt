-- Where data records begin; a lane of a data record, and how many bytes it has.
use Rattle.std.specs.Prelude.{ℕ, ◌+◌, ◌*◌, List, slice_get, []}
use Rattle.std.specs.Option.{option_map_or}
use Rattle.edf_header.specs.Heads.{Head, header_bytes, record_bytes, SignalHead}
use Rattle.edf_stream.specs.records.Records.{record_at, lane_of}

-- where data record k begins in the file, and where the one before it ends
abbrev pub record_place : Head → ℕ → ℕ
record_place h k = header_bytes h + k * record_bytes h

-- the lane of number s of these signals
abbrev pub numbered_lane : List SignalHead → List ℕ → ℕ → List ℕ
numbered_lane signals bytes s = option_map_or (λ signal. lane_of signal bytes) (slice_get signals s) []

-- how many samples signal s has in a data record
abbrev pub samples_at : Head → ℕ → ℕ
samples_at h s = option_map_or (λ signal. signal.samples) (slice_get h.signals s) 0

-- the lane of signal s in data record k
abbrev pub lane_at : List ℕ → Head → ℕ → ℕ → List ℕ
lane_at file h k s = numbered_lane h.signals (record_at file h k) s

-- the lane of signal s in the bytes of a data record
abbrev pub lane_in : Head → List ℕ → ℕ → List ℕ
lane_in h bytes s = numbered_lane h.signals bytes s

-- how many bytes the lane of signal s has: two for each sample
abbrev pub lane_bytes : Head → ℕ → ℕ
lane_bytes h s = 2 * samples_at h s
