-- The order of instants, and the picosecond of one.
use Rattle.std.specs.Prelude.{ℤ, pos, ◌*ℤ◌, ◌<ℤ◌, Bool, int_lt, ◌<◌, ◌≤◌, ◌^◌, unsigned_abs}
use Rattle.edf_samples.specs.Words.{Instant}
use Rattle.std.specs.Int.{int_div_euclid}

-- the first instant is the earlier one
abbrev pub IsBefore : Instant → Instant → Type 0
IsBefore p q = (p.num *ℤ pos q.den) <ℤ (q.num *ℤ pos p.den)

-- `IsBefore` as a test
abbrev pub is_before : Instant → Instant → Bool
is_before p q = int_lt (p.num *ℤ pos q.den) (q.num *ℤ pos p.den)

-- an instant whose products with the denominator of another such instant fit 128 bits, as those of files once they are moved
abbrev pub IsModest : Instant → Type 0
IsModest p = (unsigned_abs p.num < 2 ^ 104) × (0 < p.den) × (p.den ≤ 2 ^ 23)

-- the whole picoseconds of an instant, rounded down
abbrev pub floor_of : Instant → ℤ
floor_of at = int_div_euclid at.num (pos at.den)
