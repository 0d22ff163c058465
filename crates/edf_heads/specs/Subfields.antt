-- The subfields of the patient and of the recording.
use Rattle.std.specs.Prelude.{◌≡◌, ℕ, ◌↔◌, List, codes}
use Rattle.std.specs.List.{All}
use Rattle.edf_fields.specs.Lists.{Has}
use Rattle.edf_header.specs.Heads.{Head}
use Rattle.edf_claim.specs.ClaimValues.{ClaimValue}
use Rattle.edf_fields.specs.declared.fields.which.Which.{Which}
use Rattle.edf_fields.specs.declared.fields.which.Which.TheVariants.{Code, Sex, Birthdate, Name, PatientExtras, Date, Administration, Technician, Equipment, RecordingExtras}

-- the text is `X`, which stands for what isn't told
abbrev pub IsX : List ℕ → Type 0
IsX text = text ≡ codes "X"

-- the first statement holds where the claim makes the subfield anonymous, and the second one where it doesn't
pub record ByClaim (claim : ClaimValue) (which : Which) (Anonymous Kept : Type 0) : Type 0 where
  pub claimed : Has claim.anonymous which → Anonymous
  pub unclaimed : (Has claim.anonymous which → ⊥) → Kept

-- the export's text is `X` where the subfield is claimed anonymous, and else the original's
abbrev pub IsXOrElse : ClaimValue → Which → List ℕ → List ℕ → Type 0
IsXOrElse claim which exported original = ByClaim claim which (IsX exported) (exported ≡ original)

-- in the export this subfield is as the claim says (what a claim makes anonymous, and that all else stays, is this project's profile);
-- of additional ones that are anonymous each is `X`, however many there are; a date that isn't is `X` exactly where the original's is:
-- which day it is follows from the samples that are kept
abbrev pub IsAsClaimed : Head → Head → ClaimValue → Which → Type 0
IsAsClaimed original export claim Code = IsXOrElse claim Code export.patient.code original.patient.code
IsAsClaimed original export claim Sex = IsXOrElse claim Sex export.patient.sex original.patient.sex
IsAsClaimed original export claim Birthdate = IsXOrElse claim Birthdate export.patient.birthdate original.patient.birthdate
IsAsClaimed original export claim Name = IsXOrElse claim Name export.patient.name original.patient.name
IsAsClaimed original export claim PatientExtras =
    ByClaim claim PatientExtras (All IsX export.patient.extras) (export.patient.extras ≡ original.patient.extras)
IsAsClaimed original export claim Date =
    ByClaim claim Date (IsX export.recording.date) (IsX export.recording.date ↔ IsX original.recording.date)
IsAsClaimed original export claim Administration = IsXOrElse claim Administration export.recording.admin original.recording.admin
IsAsClaimed original export claim Technician = IsXOrElse claim Technician export.recording.technician original.recording.technician
IsAsClaimed original export claim Equipment = IsXOrElse claim Equipment export.recording.equipment original.recording.equipment
IsAsClaimed original export claim RecordingExtras =
    ByClaim claim RecordingExtras (All IsX export.recording.extras) (export.recording.extras ≡ original.recording.extras)
