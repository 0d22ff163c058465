-- Why a text says no claim.
use Rattle.std.specs.Prelude.{◌≡◌, ℕ, ◌<◌, ◌≤◌, ◌⊎◌, ◌↔◌, List, length, Some, None, IsUtf8}
use Rattle.edf_claim.specs.declared.stop.ClaimStop.{ClaimStop}
use Rattle.edf_claim.specs.declared.stop.ClaimStop.TheVariants as stops
use Rattle.edf_claim.specs.Claims.{HasFormat, HasKeysOfFormat, SaysChannels, SaysKeep, SaysAnonymous, SaysShift, SaysRemove, SaysRemovePrefix, SaysBlank, SaysClaim}
use Rattle.edf_claim.specs.ClaimValues.{ClaimValue}
use Rattle.edf_claim.specs.Reading.{claim_fault, terms_of}
use Rattle.toml.specs.Data.{Members}
use Rattle.toml.specs.Parse.{parse_document}

-- there is something of which this holds
abbrev pub ThereIs : {X : Type 0} → (X → Type 0) → Type 0
ThereIs {X} holds = (x : X) × holds x

-- the test fails, and the stop is its cause; or the table passes it, and the stop is that of a later test
abbrev pub FailsOr : ClaimStop → Type 0 → ClaimStop → Type 0 → Type 0
FailsOr cause test stop later = ((stop ≡ cause) × (test → ⊥)) ⊎ (test × later)

-- the cause of the first test that the table fails
abbrev pub FirstTableFault : Members → ClaimStop → Type 0
FirstTableFault entries stop =
    FailsOr stops.BadFormat (HasFormat entries) stop (
    FailsOr stops.UnknownKey (HasKeysOfFormat entries) stop (
    FailsOr stops.BadChannels (ThereIs (SaysChannels entries)) stop (
    FailsOr stops.BadKeep (ThereIs (SaysKeep entries)) stop (
    FailsOr stops.BadAnonymous (ThereIs (SaysAnonymous entries)) stop (
    FailsOr stops.BadShift (ThereIs (SaysShift entries)) stop (
    FailsOr stops.BadRemove (ThereIs (SaysRemove entries)) stop (
    FailsOr stops.BadRemovePrefix (ThereIs (SaysRemovePrefix entries)) stop (
    FailsOr stops.BadBlank (ThereIs (SaysBlank entries)) stop ⊥))))))))

-- the text is TOML within its limit, and its table has this first fault
abbrev pub TableFails : List ℕ → ClaimStop → Type 0
TableFails text stop = (length text ≤ 65536) × IsUtf8 text × (entries : Members) × (parse_document text ≡ Some entries) × FirstTableFault entries stop

-- the first cause why the text says no claim: it is too long; else it isn't UTF-8, or no TOML; else its table fails a test
abbrev pub FirstClaimFault : List ℕ → ClaimStop → Type 0
FirstClaimFault text stop =
    ((stop ≡ stops.TooLong) × (65536 < length text))
    ⊎ ((stop ≡ stops.NotToml) × (length text ≤ 65536) × (IsUtf8 text → parse_document text ≡ None))
    ⊎ TableFails text stop

-- a table says a claim exactly where its list of tests has no fault, and the claim is the one that is read of it
abbrev pub SaysClaimOrFault : Type 0
SaysClaimOrFault = (entries : Members) (c : ClaimValue) → SaysClaim entries c ↔ ((claim_fault entries ≡ None) × (c ≡ terms_of entries))

-- the fault of the list of tests is the first test that fails
abbrev pub FaultIsFirst : Type 0
FaultIsFirst = (entries : Members) (stop : ClaimStop) → FirstTableFault entries stop ↔ (claim_fault entries ≡ Some stop)
