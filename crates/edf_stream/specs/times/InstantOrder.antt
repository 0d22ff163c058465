-- The order and the size of instants.
use Rattle.std.specs.Prelude.{◌<◌, ◌≤◌, ℤ, pos, ◌*ℤ◌, ◌+ℤ◌, ◌<ℤ◌, ◌≤ℤ◌, ◌^◌, unsigned_abs}
use Rattle.edf_stream.specs.declared.times.instant.Instant.{Instant}

-- the first instant is the later one, or they are the same
abbrev pub IsNotBefore : Instant → Instant → Type 0
IsNotBefore p q = (q.num *ℤ pos p.den) ≤ℤ (p.num *ℤ pos q.den)

-- an instant whose products with the denominator of another such instant fit 128 bits; a data record has 8,388,608 samples at most
abbrev pub IsSmall : Instant → Type 0
IsSmall p = (unsigned_abs p.num < 2 ^ 103) × (0 < p.den) × (p.den ≤ 2 ^ 23)

-- the whole second of an instant: it isn't behind the instant, and the next one is
pub record IsSecondOf (at : Instant) (second : ℤ) : Type 0 where
  pub reached : (pos at.den *ℤ (second *ℤ pos (10 ^ 12))) ≤ℤ at.num
  pub next_is_later : at.num <ℤ (pos at.den *ℤ ((second +ℤ pos 1) *ℤ pos (10 ^ 12)))
