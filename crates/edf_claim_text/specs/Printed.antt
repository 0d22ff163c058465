-- What is printed of a claim.
use Rattle.std.specs.Prelude.{◌≡◌, ℕ, ◌-◌, nat_le, if◌then◌else◌, List, [], ◌∷◌, ◌++◌, length, codes}
use Rattle.std.specs.Fmt.{decimal}
use Rattle.edf_claim.specs.Claims.{SaysClaimAtAnyLength, SaysClaimText}
use Rattle.edf_claim.specs.ClaimValues.{ClaimValue}
use Rattle.edf_claim.specs.declared.stop.ClaimStop.{ClaimStop}
use Rattle.edf_claim_text.specs.PlainTexts.{plain_text}
use Rattle.edf_fields.specs.in_out.Sinks.{HoldsPrefix}
use Rattle.edf_stop.specs.declared.stops.RunStop.{RunStop}
use Rattle.edf_stop.specs.declared.stops.RunStop.TheVariants.{OutOfMemory, ReadFailed, Claim, WriteFailed}
use Rattle.edf_verdict.specs.declared.outcome.Outcome.{Outcome}
use Rattle.edf_verdict.specs.declared.outcome.Outcome.TheVariants.{Yes, No}

-- the comment of a text that has so many bytes more than a claim may have
unfoldable pub excess_line : ℕ → List ℕ
excess_line excess = codes "# too long for a claim; bytes that are too many: " ++ (decimal excess ++ (10 ∷ []))

-- what stands behind a text of so many bytes: nothing, or that comment where it is longer than a claim may be
abbrev pub length_comment : ℕ → List ℕ
length_comment bytes = if nat_le bytes 65536 then [] else excess_line (bytes - 65536)

-- with Yes the text says the claim, and with No it doesn't
abbrev pub IsSaidWith : Outcome → ClaimValue → List ℕ → Type 0
IsSaidWith Yes claim text = SaysClaimAtAnyLength text claim
IsSaidWith No claim text = ¬ SaysClaimAtAnyLength text claim

-- what is printed of a claim: its plainest form, and behind it, where that is longer than a claim may be, by how much
abbrev pub printed_text : ClaimValue → List ℕ
printed_text claim = plain_text claim ++ length_comment (length (plain_text claim))

-- it is what is printed of the claim; with Yes its plainest form says the claim, and with No it doesn't
pub record IsPrinted (claim : ClaimValue) (text : List ℕ) (outcome : Outcome) : Type 0 where
  pub said : IsSaidWith outcome claim (plain_text claim)
  pub is : text ≡ printed_text claim

-- behind what was held stands what is printed of the claim that a text says, and nothing else
pub record IsClaimWritten (claim_text old new : List ℕ) (outcome : Outcome) : Type 0 where
  pub claim : ClaimValue
  pub says : SaysClaimText claim_text claim
  pub text : List ℕ
  pub printed : IsPrinted claim text outcome
  pub written : new ≡ old ++ text

-- behind what was held stands a front of that
pub record IsPartWritten (claim_text old new : List ℕ) : Type 0 where
  pub claim : ClaimValue
  pub says : SaysClaimText claim_text claim
  pub text : List ℕ
  pub outcome : Outcome
  pub printed : IsPrinted claim text outcome
  pub part : HoldsPrefix old new text

-- why a claim isn't printed, or only in part: of a refused one this is said, and of a failed write that
abbrev pub PrintStops : (ClaimStop → Type 0) → Type 0 → RunStop → Type 0
PrintStops refused written OutOfMemory = Unit {0}
PrintStops refused written (ReadFailed side) = ⊥
PrintStops refused written (Claim cause) = refused cause
PrintStops refused written WriteFailed = written
