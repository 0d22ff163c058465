-- From the table of a text to the text.
use Rattle.std.proofs.Common.{◌≡◌, ◌≢◌, ℕ, ◌≤◌, List, length, Some, None, Result, Ok, Err, inr, sym, subst}
use Rattle.std.specs.Prelude.{IsUtf8, IfOk, IfErr, OnOk}
use Rattle.toml.specs.Data.{Members}
use Rattle.toml.specs.Parse.{parse_document}
use Rattle.edf_claim.specs.Claims.{SaysClaimText}
use Rattle.edf_claim.specs.ClaimValues.{ClaimValue}
use Rattle.edf_claim.specs.Faults.{FirstClaimFault}
use Rattle.edf_claim.specs.Reading.{claim_fault, terms_of}
use Rattle.edf_claim.specs.declared.stop.ClaimStop.{ClaimStop}
use Rattle.edf_claim.specs.declared.stop.ClaimStop.TheVariants as stops
use Rattle.edf_claim.proofs.ReadingFacts.{table-says}
use Rattle.edf_claim.proofs.SaidFacts.{fault-said}

pub claim-said : (r : Result ClaimValue ClaimStop) (text : List ℕ) (m : Members) → length text ≤ 65536 → IsUtf8 text → parse_document text ≡ Some m
    → OnOk r (claim_fault m ≡ None) → IfOk r (λ c. c ≡ terms_of m) → IfOk r (SaysClaimText text)
claim-said (Ok c) text m short utf8 parsed passed value =
    subst (λ (t : ClaimValue). SaysClaimText text t) (sym value) (record { short = short; utf8 = utf8; entries = m; parsed = parsed; says = table-says m passed })
claim-said (Err e) text m short utf8 parsed passed value = tt

pub claim-refused : (r : Result ClaimValue ClaimStop) (text : List ℕ) (m : Members) → length text ≤ 65536 → IsUtf8 text → parse_document text ≡ Some m
    → IfErr r (λ e. e ≢ stops.OutOfMemory → claim_fault m ≡ Some e) → IfErr r (λ e. e ≢ stops.OutOfMemory → FirstClaimFault text e)
claim-refused (Ok c) text m short utf8 parsed h = tt
claim-refused (Err e) text m short utf8 parsed h = λ ne. inr (inr (short, utf8, m, parsed, (fault-said m e).0 (h ne)))
