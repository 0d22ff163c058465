-- Why a command is refused, and the line that says so.
use Rattle.std.specs.Prelude.{ℕ, List, ◌++◌, codes}
use Rattle.edf_stop.specs.declared.parts_stops.PartSide.TheVariants as part_sides
use Rattle.edf_stop.specs.declared.parts_stops.PartsRunStop.{PartsRunStop}
use Rattle.edf_stop.specs.declared.parts_stops.PartsRunStop.TheVariants as parts_runs
use Rattle.edf_stop.specs.declared.stops.RunStop.{RunStop}
use Rattle.edf_stop.specs.declared.stops.RunStop.TheVariants as runs
use Rattle.edf_stop.specs.declared.sides.Side.TheVariants as sides
use Rattle.edf_claim.specs.declared.stop.ClaimStop.{ClaimStop}
use Rattle.edf_claim.specs.declared.stop.ClaimStop.TheVariants as claims
use Rattle.edf_refusal.specs.declared.refusals.Refusal.{Refusal}
use Rattle.edf_refusal.specs.declared.refusals.Refusal.TheVariants as refusals
use Rattle.edf_refusal.specs.declared.refusals.Role.{Role}
use Rattle.edf_refusal.specs.declared.refusals.Role.TheVariants as roles
use Rattle.edf_stop.specs.declared.stops.ReportStop.{ReportStop}
use Rattle.edf_stop.specs.declared.stops.ReportStop.TheVariants as reports

-- the word for a file
abbrev pub role_word : Role → List ℕ
role_word roles.Claim = codes "claim"
role_word roles.Original = codes "original"
role_word roles.Export = codes "export"
role_word roles.File = codes "file"

-- the name of a claim's fault
abbrev pub stop_word : ClaimStop → List ℕ
stop_word claims.OutOfMemory = codes "OutOfMemory"
stop_word claims.TooLong = codes "TooLong"
stop_word claims.NotToml = codes "NotToml"
stop_word claims.BadFormat = codes "BadFormat"
stop_word claims.UnknownKey = codes "UnknownKey"
stop_word claims.BadChannels = codes "BadChannels"
stop_word claims.BadKeep = codes "BadKeep"
stop_word claims.BadAnonymous = codes "BadAnonymous"
stop_word claims.BadShift = codes "BadShift"
stop_word claims.BadRemove = codes "BadRemove"
stop_word claims.BadRemovePrefix = codes "BadRemovePrefix"
stop_word claims.BadBlank = codes "BadBlank"

abbrev pub memory_text : List ℕ
memory_text = codes "edfclaim: out of memory"

abbrev pub opening_text : Role → List ℕ
opening_text role = codes "edfclaim: cannot open " ++ role_word role

abbrev pub reading_text : Role → List ℕ
reading_text role = codes "edfclaim: reading " ++ (role_word role ++ codes " failed")

-- want of memory says nothing of the claim
abbrev pub claim_text : ClaimStop → List ℕ
claim_text claims.OutOfMemory = memory_text
claim_text stop = codes "edfclaim: claim refused: " ++ stop_word stop

-- the line of a refusal, without its newline
abbrev pub refusal_text : Refusal → List ℕ
refusal_text (refusals.CannotOpen role) = opening_text role
refusal_text (refusals.Reading role) = reading_text role
refusal_text (refusals.Claim stop) = claim_text stop
refusal_text refusals.Memory = memory_text
refusal_text refusals.Writing = codes "edfclaim: writing failed"
refusal_text refusals.TooManyExports = codes "edfclaim: too many exports"

-- how a check that stopped is refused
abbrev pub refusal_of_run : RunStop → Refusal
refusal_of_run runs.OutOfMemory = refusals.Memory
refusal_of_run (runs.ReadFailed sides.Original) = refusals.Reading roles.Original
refusal_of_run (runs.ReadFailed sides.Export) = refusals.Reading roles.Export
refusal_of_run (runs.Claim cause) = refusals.Claim cause
refusal_of_run runs.WriteFailed = refusals.Writing

-- the same of several exports, each of which is an export
abbrev pub refusal_of_parts_run : PartsRunStop → Refusal
refusal_of_parts_run parts_runs.OutOfMemory = refusals.Memory
refusal_of_parts_run (parts_runs.ReadFailed part_sides.Original) = refusals.Reading roles.Original
refusal_of_parts_run (parts_runs.ReadFailed (part_sides.Part part)) = refusals.Reading roles.Export
refusal_of_parts_run (parts_runs.Claim cause) = refusals.Claim cause
refusal_of_parts_run parts_runs.WriteFailed = refusals.Writing

-- how a report on one file that stopped is refused
abbrev pub refusal_of_report : ReportStop → Refusal
refusal_of_report reports.OutOfMemory = refusals.Memory
refusal_of_report reports.ReadFailed = refusals.Reading roles.File
refusal_of_report reports.WriteFailed = refusals.Writing

-- a claim isn't read where a read failed, and then the first is said, or for want of memory, and then the second: that none failed
abbrev pub ClaimReadStops : Type 0 → Type 0 → Refusal → Type 0
ClaimReadStops failed none refusals.Memory = none
ClaimReadStops failed none (refusals.Reading roles.Claim) = failed
ClaimReadStops failed none refusal = ⊥
