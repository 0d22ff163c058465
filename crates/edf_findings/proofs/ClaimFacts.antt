-- The claim that is asked for is the one that its text says.
use Rattle.std.proofs.Common.{◌≡◌, ℕ, List}
use Rattle.std.proofs.Math.Logic.{∥∥₁_elim}
use Rattle.std.proofs.Props.{props}
use Rattle.edf_claim.proofs.ForCallers.{text_says_one}
use Rattle.edf_claim.specs.Claims.{SaysClaimAtAnyLength, SaysClaimText}
use Rattle.edf_claim.specs.ClaimValues.{ClaimValue}

at_any_length : (text : List ℕ) (c : ClaimValue) → SaysClaimText text c → SaysClaimAtAnyLength text c
at_any_length text c says = record { utf8 = says.utf8; entries = says.entries; parsed = says.parsed; says = says.says }

pub one_claim : (text : List ℕ) (c d : ClaimValue) → SaysClaimText text c → ∥ SaysClaimText text d ∥₁ → c ≡ d
one_claim text c d first second =
    ∥∥₁_elim second (Prim.hlevel props) (λ says. text_says_one text c d (at_any_length text c first) (at_any_length text d says))
