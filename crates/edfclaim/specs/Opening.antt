-- For what a command on files is refused, beside what is said where a call is made.
use Rattle.std.specs.Prelude.{◌≡◌, ◌≢◌, ◌⊎◌, ℕ, ◌<◌}
use Rattle.edf_refusal.specs.declared.refusals.Refusal.{Refusal}
use Rattle.edf_refusal.specs.declared.refusals.Refusal.TheVariants as refusals
use Rattle.edf_refusal.specs.declared.refusals.Role.{Role}
use Rattle.edf_refusal.specs.declared.refusals.Role.TheVariants as roles

-- the file of this role can't be opened, or memory ran out
abbrev pub OpeningStops : Role → Refusal → Type 0
OpeningStops role refusals.Memory = Unit {0}
OpeningStops role (refusals.CannotOpen other) = other ≡ role
OpeningStops role refusal = ⊥

-- the claim can't be opened, a read of it failed, or memory ran out
abbrev pub ClaimTextStops : Refusal → Type 0
ClaimTextStops refusals.Memory = Unit {0}
ClaimTextStops (refusals.CannotOpen role) = role ≡ roles.Claim
ClaimTextStops (refusals.Reading role) = role ≡ roles.Claim
ClaimTextStops refusal = ⊥

-- the only file of a report can't be opened, or a read of it failed; or memory ran out, or a write failed
abbrev pub ReportIsRefused : Refusal → Type 0
ReportIsRefused refusals.Memory = Unit {0}
ReportIsRefused (refusals.CannotOpen role) = role ≡ roles.File
ReportIsRefused (refusals.Reading role) = role ≡ roles.File
ReportIsRefused (refusals.Claim cause) = ⊥
ReportIsRefused refusals.Writing = Unit {0}
ReportIsRefused refusals.TooManyExports = ⊥

-- the claim can't be opened, a read of it failed, or it is refused; or memory ran out, or a write failed
abbrev pub ClaimIsRefused : Refusal → Type 0
ClaimIsRefused refusals.Memory = Unit {0}
ClaimIsRefused (refusals.CannotOpen role) = role ≡ roles.Claim
ClaimIsRefused (refusals.Reading role) = role ≡ roles.Claim
ClaimIsRefused (refusals.Claim cause) = Unit {0}
ClaimIsRefused refusals.Writing = Unit {0}
ClaimIsRefused refusals.TooManyExports = ⊥

-- of the three files of a check one can't be opened, or a read of it failed; or the claim is refused, memory ran out, or a write failed
abbrev pub CheckIsRefused : Refusal → Type 0
CheckIsRefused refusals.Memory = Unit {0}
CheckIsRefused (refusals.CannotOpen role) = role ≢ roles.File
CheckIsRefused (refusals.Reading role) = role ≢ roles.File
CheckIsRefused (refusals.Claim cause) = Unit {0}
CheckIsRefused refusals.Writing = Unit {0}
CheckIsRefused refusals.TooManyExports = ⊥

-- of the two files of a draft one can't be opened, or a read of it failed; or memory ran out, or a write failed
abbrev pub DraftIsRefused : Refusal → Type 0
DraftIsRefused refusals.Memory = Unit {0}
DraftIsRefused (refusals.CannotOpen role) = (role ≡ roles.Original) ⊎ (role ≡ roles.Export)
DraftIsRefused (refusals.Reading role) = (role ≡ roles.Original) ⊎ (role ≡ roles.Export)
DraftIsRefused (refusals.Claim cause) = ⊥
DraftIsRefused refusals.Writing = Unit {0}
DraftIsRefused refusals.TooManyExports = ⊥

-- a draft for so many exports is refused as one for a single export is, or there are more than 64 of them
abbrev pub PartsDraftIsRefused : ℕ → Refusal → Type 0
PartsDraftIsRefused exports refusals.TooManyExports = 64 < exports
PartsDraftIsRefused exports refusal = DraftIsRefused refusal

-- a check of so many exports is refused as one of a single export is, or there are more than 64 of them
abbrev pub PartsAreRefused : ℕ → Refusal → Type 0
PartsAreRefused exports refusals.TooManyExports = 64 < exports
PartsAreRefused exports refusal = CheckIsRefused refusal
