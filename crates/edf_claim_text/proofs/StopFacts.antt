-- For what a claim that is refused stops its printing.
use Rattle.std.proofs.Common.{◌≢◌, ℕ, List}
use Rattle.edf_claim.specs.Faults.{FirstClaimFault}
use Rattle.edf_claim.specs.declared.stop.ClaimStop.{ClaimStop}
use Rattle.edf_claim.specs.declared.stop.ClaimStop.TheVariants as claims
use Rattle.edf_stop.specs.Stops.{stop_of_claim}
use Rattle.edf_claim_text.specs.Printed.{PrintStops}

pub refused_stops : (text : List ℕ) (written : Type 0) (stop : ClaimStop) → (stop ≢ claims.OutOfMemory → FirstClaimFault text stop)
    → PrintStops (λ cause. (cause ≢ claims.OutOfMemory) × FirstClaimFault text cause) written (stop_of_claim stop)
refused_stops text written claims.OutOfMemory fault = tt
refused_stops text written cause fault = let other : cause ≢ claims.OutOfMemory = λ same. cc in (other, fault other)
