-- Instants as exact fractions of a picosecond.
use Rattle.std.specs.Prelude.{◌≡◌, pos, ◌*ℤ◌}
use Rattle.edf_stream.specs.declared.times.instant.Instant.{Instant}

-- both are one instant
abbrev pub IsSame : Instant → Instant → Type 0
IsSame p q = p.num *ℤ pos q.den ≡ q.num *ℤ pos p.den
