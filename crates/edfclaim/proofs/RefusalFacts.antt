-- For what a receipt of several exports is refused, a draft for several, and a claim that is printed.
use Rattle.std.proofs.Common.{ℕ, List, inl, inr, refl}
use Rattle.edf_check.specs.Runs.{PartsRunStops}
use Rattle.edf_claim.specs.declared.stop.ClaimStop.{ClaimStop}
use Rattle.edf_claim_text.specs.Printed.{PrintStops}
use Rattle.edf_refusal.specs.Refusals.{refusal_of_parts_run, refusal_of_run}
use Rattle.edf_stop.specs.declared.stops.RunStop.{RunStop}
use Rattle.edf_stop.specs.declared.stops.RunStop.TheVariants as runs
use Rattle.edf_stop.specs.declared.parts_stops.PartSide.TheVariants as sides
use Rattle.edf_stop.specs.declared.parts_stops.PartsRunStop.{PartsRunStop}
use Rattle.edf_stop.specs.declared.parts_stops.PartsRunStop.TheVariants as stops
use Rattle.edf_fields.specs.in_out.Sources.{Reads}
use Rattle.edfclaim.specs.Opening.{ClaimIsRefused, PartsAreRefused, PartsDraftIsRefused}

pub parts_refused : (exports : ℕ) (stop : PartsRunStop) → PartsAreRefused exports (refusal_of_parts_run stop)
parts_refused exports stops.OutOfMemory = tt
parts_refused exports (stops.ReadFailed sides.Original) = λ same. cc
parts_refused exports (stops.ReadFailed (sides.Part part)) = λ same. cc
parts_refused exports (stops.Claim cause) = tt
parts_refused exports stops.WriteFailed = tt

pub draft_parts_refused : (exports : ℕ) (original written none : Type 0) (olds news : List Reads) (stop : PartsRunStop)
    → PartsRunStops (λ cause. ⊥) original written none olds news stop → PartsDraftIsRefused exports (refusal_of_parts_run stop)
draft_parts_refused exports original written none olds news stops.OutOfMemory is = tt
draft_parts_refused exports original written none olds news (stops.ReadFailed sides.Original) is = inl refl
draft_parts_refused exports original written none olds news (stops.ReadFailed (sides.Part part)) is = inr refl
draft_parts_refused exports original written none olds news (stops.Claim cause) is = absurd is
draft_parts_refused exports original written none olds news stops.WriteFailed is = tt

pub claim_refused : (refused : ClaimStop → Type 0) (written : Type 0) (stop : RunStop) → PrintStops refused written stop → ClaimIsRefused (refusal_of_run stop)
claim_refused refused written runs.OutOfMemory is = tt
claim_refused refused written (runs.ReadFailed side) is = absurd is
claim_refused refused written (runs.Claim cause) is = tt
claim_refused refused written runs.WriteFailed is = tt
