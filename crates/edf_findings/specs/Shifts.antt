-- By how much an export starts elsewhere than claimed.
use Rattle.std.specs.Prelude.{◌≡◌, ◌≢◌, ◌≤◌, ◌^◌, ℤ, pos, ◌*ℤ◌, ◌+ℤ◌, ◌-ℤ◌, unsigned_abs, List, length}
use Rattle.std.specs.List.{All}
use Rattle.std.specs.Int.{saturate_signed, w128}
use Rattle.edf_findings.specs.declared.starts.Starts.{Starts}

-- the number of 128 bits with a sign that is nearest to this one
abbrev pub nearest : ℤ → ℤ
nearest z = saturate_signed w128 z

-- a claim can say so many seconds, which are so many picoseconds
pub record IsShift (ps seconds : ℤ) : Type 0 where
  pub whole : ps ≡ seconds *ℤ pos (10 ^ 12)
  pub small : unsigned_abs seconds ≤ 10 ^ 10

-- by how much the export starts later than claimed
abbrev pub later_of : Starts → ℤ
later_of starts = nearest (starts.exported_ps -ℤ starts.claimed_ps)

-- the shift with which it would start as claimed
abbrev pub fitting_of : Starts → ℤ
fitting_of starts = nearest (starts.shift_ps +ℤ later_of starts)

-- a claim can say so many seconds, and they aren't the claimed shift
abbrev pub IsOtherShift : Starts → ℤ → Type 0
IsOtherShift starts seconds = (seconds *ℤ pos (10 ^ 12) ≢ starts.shift_ps) × (unsigned_abs seconds ≤ 10 ^ 10)

-- these are at most three other shifts, in seconds
pub record AreTries (starts : Starts) (tries : List ℤ) : Type 0 where
  pub few : length tries ≤ 3
  pub each : All (IsOtherShift starts) tries
