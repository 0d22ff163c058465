-- Instants, beside what `edf_stream` says of them.
use Rattle.std.specs.Prelude.{ℤ, pos, ◌+ℤ◌, ◌*ℤ◌}
use Rattle.edf_stream.specs.declared.times.instant.Instant.{Instant}

-- an instant later by so many picoseconds
abbrev pub later : ℤ → Instant → Instant
later ps at = record { num = at.num +ℤ (pos at.den *ℤ ps); den = at.den }
