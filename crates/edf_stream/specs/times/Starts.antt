-- Where a file starts. EDF (1992), "Header record".
use Rattle.std.specs.Prelude.{ℤ, pos, ◌+ℤ◌, ◌*ℤ◌, ◌^◌}
use Rattle.edf_header.specs.Heads.{Head, day_number}

-- the start of the file in picoseconds after 1970-01-01 00:00:00 (civil time, without a time zone)
abbrev pub file_start : Head → ℤ
file_start h = ((pos 86400 *ℤ day_number h.day) +ℤ pos h.clock) *ℤ pos (10 ^ 12)
