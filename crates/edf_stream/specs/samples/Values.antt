-- The digital values of a lane. EDF (1992), "Data record": each sample is a 2-byte integer in two's
-- complement, the low byte first.
use Rattle.std.specs.Prelude.{ℕ, ℤ, ◌+◌, ◌*◌, pos, ◌-ℤ◌, nat_lt, if◌then◌else◌, List, slice_index}

-- the number that two bytes give, the low one first, in two's complement (EDF, "Data record")
abbrev pub digital : ℕ → ℕ → ℤ
digital low high = if nat_lt high 128 then pos (low + 256 * high) else (pos (low + 256 * high) -ℤ pos 65536)

-- the digital value of the sample at a place of a lane
abbrev pub digital_value : List ℕ → ℕ → ℤ
digital_value lane i = digital (slice_index lane (2 * i)) (slice_index lane (2 * i + 1))
