-- Why there is no claim under which several exports could be checked.
use Rattle.std.specs.Prelude.{◌≢◌, ℕ, List}
use Rattle.edf_claim.specs.Faults.{FirstClaimFault}
use Rattle.edf_claim.specs.declared.stop.ClaimStop.TheVariants as claims
use Rattle.edf_stop.specs.declared.parts_stops.PartsRunStop.{PartsRunStop}
use Rattle.edf_stop.specs.declared.parts_stops.PartsRunStop.TheVariants.{OutOfMemory, ReadFailed, Claim, WriteFailed}

-- memory ran out, or this is the first fault of the text
abbrev pub ClaimStops : List ℕ → PartsRunStop → Type 0
ClaimStops text OutOfMemory = Unit {0}
ClaimStops text (ReadFailed side) = ⊥
ClaimStops text (Claim cause) = (cause ≢ claims.OutOfMemory) × FirstClaimFault text cause
ClaimStops text WriteFailed = ⊥
