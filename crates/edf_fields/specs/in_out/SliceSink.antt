-- What a sink over bytes in memory holds, and how much it can hold.
use Rattle.std.specs.Prelude.{ℕ, Bool, true, List, length, take}
use Rattle.edf_fields.specs.declared.in_out.sink.SliceSink.{SliceSink}

-- the bytes that the sink holds
abbrev pub bytes_of : SliceSink → List ℕ
bytes_of sink = take sink.used sink.room.now

-- how often a write failed, up to `u64::MAX`
abbrev pub failures_of : SliceSink → ℕ
failures_of sink = sink.failed

-- what the sink holds is always known
abbrev pub is_known : SliceSink → Bool
is_known sink = true

-- the most bytes that the sink can hold
abbrev pub room_of : SliceSink → ℕ
room_of sink = length sink.room.now
