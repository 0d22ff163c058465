-- Texts that say a claim, however long they are.
use Rattle.std.proofs.Common.{◌≡◌, ◌≢◌, ◌≤◌, ℕ, List, length, Option, None, Some, Result, Ok, Err, IfOk, IfErr, OnOk, sym, ap, ◌∙◌, subst}
use Rattle.std.specs.Prelude.{IsUtf8}
use Rattle.toml.specs.Data.{Members}
use Rattle.toml.specs.Parse.{parse_document}
use Rattle.edf_claim.specs.Claims.{SaysClaim, SaysClaimAtAnyLength, SaysClaimText}
use Rattle.edf_claim.specs.Reading.{claim_fault, terms_of}
use Rattle.edf_claim.specs.ClaimValues.{ClaimValue}
use Rattle.edf_claim.specs.declared.stop.ClaimStop.{ClaimStop}
use Rattle.edf_claim.specs.declared.stop.ClaimStop.TheVariants as stops
use Rattle.edf_claim.proofs.ReadingFacts.{table-says}
use Rattle.edf_claim.proofs.SaidFacts.{one-claim, said-passes}

value_or : {X : Type 0} → X → Option X → X
value_or x None = x
value_or x (Some y) = y

some_same : {X : Type 0} (x y : X) → Some x ≡ Some y → x ≡ y
unfolding value_or
some_same x y same = ap (λ o. value_or x o) same

none_some : {X A : Type 0} (x : X) → None ≡ Some x → A
none_some x same = absurd cc

-- a text says one claim at the most
pub text_says_one : (text : List ℕ) (c d : ClaimValue) → SaysClaimAtAnyLength text c → SaysClaimAtAnyLength text d → c ≡ d
text_says_one text c d first second =
    let same : second.entries ≡ first.entries = some_same second.entries first.entries (sym second.parsed ∙ first.parsed) in
    one-claim first.entries c d first.says (subst (λ m. SaysClaim m d) same second.says)

-- one that isn't too long is a claim
pub short_says : (text : List ℕ) (c : ClaimValue) → length text ≤ 65536 → SaysClaimAtAnyLength text c → SaysClaimText text c
short_says text c short says = record { short = short; utf8 = says.utf8; entries = says.entries; parsed = says.parsed; says = says.says }

pub read_says : (r : Result ClaimValue ClaimStop) (text : List ℕ) (m : Members) → IsUtf8 text → parse_document text ≡ Some m
    → OnOk r (claim_fault m ≡ None) → IfOk r (λ c. c ≡ terms_of m) → IfOk r (SaysClaimAtAnyLength text)
read_says (Ok c) text m utf8 parsed passed value =
    subst (λ (t : ClaimValue). SaysClaimAtAnyLength text t) (sym value) (record { utf8 = utf8; entries = m; parsed = parsed; says = table-says m passed })
read_says (Err e) text m utf8 parsed passed value = tt

fault_says_none : (text : List ℕ) (m : Members) (stop : ClaimStop) (c : ClaimValue) → parse_document text ≡ Some m → claim_fault m ≡ Some stop → SaysClaimAtAnyLength text c → ⊥
fault_says_none text m stop c parsed fault says =
    let same : says.entries ≡ m = some_same says.entries m (sym says.parsed ∙ parsed) in
    none_some stop (sym (said-passes m c (subst (λ t. SaysClaim t c) same says.says)).0 ∙ fault)

pub refused_says_none : (r : Result ClaimValue ClaimStop) (text : List ℕ) (m : Members) → parse_document text ≡ Some m
    → IfErr r (λ e. e ≢ stops.OutOfMemory → claim_fault m ≡ Some e) → IfErr r (λ e. e ≢ stops.OutOfMemory → (c : ClaimValue) → SaysClaimAtAnyLength text c → ⊥)
refused_says_none (Ok c) text m parsed fault = tt
refused_says_none (Err e) text m parsed fault = λ ne c. fault_says_none text m e c parsed (fault ne)
