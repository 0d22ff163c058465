-- Claims that say something else than another one in one place, and in all else what it says.
use Rattle.std.specs.Prelude.{◌≡◌, ◌+ℤ◌, ℕ, ℤ, pos, List, if◌then◌else◌, map}
use Rattle.std.specs.Ordering.{int_eq}
use Rattle.edf_claim.specs.Claims.{SaysClaimText}
use Rattle.edf_claim.specs.KeepsReading.{KeepsInstant}
use Rattle.edf_claim.specs.ClaimValues.{ClaimValue}
use Rattle.edf_claim.specs.declared.kept.interval.Interval.{Interval}

-- both claims hide the same subfields, and remove and blank the same texts
abbrev pub HideAlike : ClaimValue → ClaimValue → Type 0
HideAlike claim other = (other.anonymous ≡ claim.anonymous) × (other.remove ≡ claim.remove)
    × (other.remove_prefix ≡ claim.remove_prefix) × (other.blank ≡ claim.blank)

-- and keep the same of the same channels
abbrev pub KeepAlike : ClaimValue → ClaimValue → Type 0
KeepAlike claim other = (other.channels ≡ claim.channels) × (other.keep ≡ claim.keep) × HideAlike claim other

-- the interval, longer by another one if that begins where it ends
abbrev pub extended_by : Interval → Interval → Interval
extended_by more interval =
    if int_eq interval.to_ps more.from_ps then record { from_ps = interval.from_ps; to_ps = more.to_ps } else interval

-- the second claim is the first with channels of these labels, in this order
abbrev pub IsRenamed : ClaimValue → ClaimValue → List (List ℕ) → Type 0
IsRenamed claim other labels = (other.channels ≡ labels) × (other.shift ≡ claim.shift) × (other.keep ≡ claim.keep)
    × HideAlike claim other

-- the second claim is the first with each interval longer by this one that ends where this begins
abbrev pub IsExtended : ClaimValue → ClaimValue → Interval → Type 0
IsExtended claim other more = (other.keep ≡ map (extended_by more) claim.keep) × (other.channels ≡ claim.channels)
    × (other.shift ≡ claim.shift) × HideAlike claim other

-- the text says this claim with this shift, in seconds
abbrev pub IsShiftedTo : ClaimValue → ℤ → List ℕ → Type 0
IsShiftedTo claim seconds text = (other : ClaimValue) × SaysClaimText text other × (other.shift ≡ seconds) × KeepAlike claim other

-- the text says this claim with channels of these labels, in this order
abbrev pub IsRenamedTo : ClaimValue → List (List ℕ) → List ℕ → Type 0
IsRenamedTo claim labels text = (other : ClaimValue) × SaysClaimText text other × IsRenamed claim other labels

-- the picosecond that begins at a time
abbrev pub picosecond : ℤ → Interval
picosecond at_ps = record { from_ps = at_ps; to_ps = at_ps +ℤ pos 1 }

-- the text says this claim, in which what ends where this interval begins is longer by that, and which keeps what stands there
abbrev pub IsExtendedBy : ClaimValue → Interval → List ℕ → Type 0
IsExtendedBy claim more text = (other : ClaimValue) × SaysClaimText text other × IsExtended claim other more
    × KeepsInstant other more.from_ps 1

-- the first text says a claim, and the second the same with this shift, in seconds
abbrev pub SaysShifted : List ℕ → ℤ → List ℕ → Type 0
SaysShifted claimed seconds text = (claim : ClaimValue) × SaysClaimText claimed claim × IsShiftedTo claim seconds text

-- the first text says a claim, and the second the same of channels with these labels, in this order
abbrev pub SaysRenamed : List ℕ → List (List ℕ) → List ℕ → Type 0
SaysRenamed claimed labels text = (claim : ClaimValue) × SaysClaimText claimed claim × IsRenamedTo claim labels text

-- the first text says a claim, and the second the same in which what ends at this time, in picoseconds after the second at which the original
-- starts, ends a picosecond later; and it keeps what stands at this time
abbrev pub SaysExtended : List ℕ → ℤ → List ℕ → Type 0
SaysExtended claimed at_ps text = (claim : ClaimValue) × SaysClaimText claimed claim × IsExtendedBy claim (picosecond at_ps) text
