-- By how many days an export was moved.
use Rattle.std.specs.Prelude.{◌≡◌, ℤ, pos, ◌*ℤ◌, ◌-ℤ◌, ◌≤ℤ◌, Bool, true, false}

-- moved back by so many days, the time from one instant to another lies between these
abbrev pub LiesWithin : ℤ → ℤ → ℤ → ℤ → ℤ → Type 0
LiesWithin begin end from to days = (begin ≤ℤ (from -ℤ (days *ℤ pos 86400000000000000))) × ((to -ℤ (days *ℤ pos 86400000000000000)) ≤ℤ end)

-- the shift in seconds is told: by so many days; or it isn't, and no number of days puts the time where it belongs
abbrev pub IsShift : ℤ → ℤ → ℤ → ℤ → Bool → ℤ → Type 0
IsShift begin end from to true seconds = (days : ℤ) × LiesWithin begin end from to days × (seconds ≡ days *ℤ pos 86400)
IsShift begin end from to false seconds = (days : ℤ) → LiesWithin begin end from to days → ⊥
