-- Texts that say a claim which was changed in one place.
use Rattle.std.proofs.Common.{◌≡◌, ℕ, ℤ, List, subst}
use Rattle.edf_claim.specs.Claims.{SaysClaimText}
use Rattle.edf_claim.specs.KeepsReading.{KeepsInstant}
use Rattle.edf_claim.specs.ClaimValues.{ClaimValue}
use Rattle.edf_claim.specs.declared.kept.interval.Interval.{Interval}
use Rattle.edf_trial.specs.Changes.{IsExtended, IsExtendedBy, IsShiftedTo, picosecond, SaysExtended, SaysShifted}

-- of the claim that was read, by a number of seconds that is the one that was asked for, in a text that is the one that is given
pub said_shifted : (claimed : List ℕ) → (read : List ℕ) → (text : List ℕ) → (claim : ClaimValue) → (seconds : ℤ) → (asked : ℤ)
    → SaysClaimText claimed claim → IsShiftedTo claim seconds read → read ≡ text → seconds ≡ asked → SaysShifted claimed asked text
said_shifted claimed read text claim seconds asked says shifted given same =
    let here = subst (λ t. IsShiftedTo claim seconds t) given shifted in
    (claim, says, subst (λ s. IsShiftedTo claim s text) same here)

-- that keeps what stands where the interval begins
pub said_kept : (text : List ℕ) → (claim : ClaimValue) → (other : ClaimValue) → (more : Interval) → (at_ps : ℤ)
    → SaysClaimText text other → IsExtended claim other more → KeepsInstant other at_ps 1 → at_ps ≡ more.from_ps
    → IsExtendedBy claim more text
said_kept text claim other more at_ps says longer keeps same = (other, says, longer, subst (λ t. KeepsInstant other t 1) same keeps)

-- of the claim that was read, by the picosecond that begins at the time that was asked for, in a text that is the one that is given
pub said_extended : (claimed : List ℕ) → (read : List ℕ) → (text : List ℕ) → (claim : ClaimValue) → (more : Interval) → (at_ps : ℤ) → (asked : ℤ)
    → SaysClaimText claimed claim → IsExtendedBy claim more read → read ≡ text → more ≡ picosecond at_ps → at_ps ≡ asked
    → SaysExtended claimed asked text
said_extended claimed read text claim more at_ps asked says longer given is same =
    let here = subst (λ t. IsExtendedBy claim more t) given longer in
    let there = subst (λ m. IsExtendedBy claim m text) is here in
    (claim, says, subst (λ t. IsExtendedBy claim (picosecond t) text) same there)
