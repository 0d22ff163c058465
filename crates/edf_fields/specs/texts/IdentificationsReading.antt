-- The two identification fields, as they are read.
use Rattle.std.specs.Prelude.{◌≡◌, ℕ, Bool, not, Option, None, nat_le, ◌||◌, ◌==◌, List, [], ◌∷◌, ◌↔◌, length, slice_index, slice_get, unwrap_or, is_some, codes}
use Rattle.std.specs.List.{list_all}
use Rattle.std.specs.Str.{bytes_eq}
use Rattle.edf_fields.specs.texts.DatesReading.{dashed_day_of}
use Rattle.edf_fields.specs.Parts.{text_of}
use Rattle.edf_fields.specs.texts.PrintableReading.{is_printable}
use Rattle.edf_fields.specs.texts.SubfieldsReading.{subfields_of, subfields_left}
use Rattle.edf_fields.specs.Tests.{first, unless}
use Rattle.edf_fields.specs.declared.faults.cause.FieldCause.{FieldCause}
use Rattle.edf_fields.specs.declared.faults.cause.FieldCause.TheVariants.{NotPrintable, LeadingSpace, TooFewSubfields, BadSex, BadDate, NoStartdateWord}
use Rattle.edf_fields.specs.declared.texts.identification.PatientId.{PatientId}
use Rattle.edf_fields.specs.declared.texts.identification.RecordingId.{RecordingId}
use Rattle.edf_fields.specs.texts.Identifications.{Patient, SaysPatient, Recording, SaysRecording}

-- the sex is F, M or X
abbrev pub is_sex : List ℕ → Bool
is_sex s = bytes_eq s (codes "F") || (bytes_eq s (codes "M") || bytes_eq s (codes "X"))

-- `IsDateOrX` as a test
abbrev pub is_date_or_x : List ℕ → Bool
is_date_or_x s = bytes_eq s (codes "X") || is_some (dashed_day_of s)

-- the k-th subfield, from 0 on
abbrev pub subfield : List (List ℕ) → ℕ → List ℕ
subfield xs k = unwrap_or (slice_get xs k) []

-- the cause that both fields can have first
unfoldable pub field_cause : List ℕ → Option FieldCause
field_cause field =
    first (
    unless (list_all is_printable field) NotPrintable
    ∷ unless (not (slice_index field 0 == 32)) LeadingSpace
    ∷ []
    )

-- why a field says no patient: the first cause in this order
unfoldable pub patient_cause : List ℕ → Option FieldCause
patient_cause field =
    let xs = subfields_of (text_of field) in
    first (
    field_cause field
    ∷ unless (nat_le 4 (length xs)) TooFewSubfields
    ∷ unless (is_sex (subfield xs 1)) BadSex
    ∷ unless (is_date_or_x (subfield xs 2)) BadDate
    ∷ []
    )

-- why a field says no recording: the first cause in this order
unfoldable pub recording_cause : List ℕ → Option FieldCause
recording_cause field =
    let xs = subfields_of (text_of field) in
    first (
    field_cause field
    ∷ unless (nat_le 5 (length xs)) TooFewSubfields
    ∷ unless (is_date_or_x (subfield xs 1)) BadDate
    ∷ unless (bytes_eq (subfield xs 0) (codes "Startdate")) NoStartdateWord
    ∷ []
    )

-- the patient that was read
abbrev pub patient_of : PatientId → Patient
patient_of id = record { code = id.code.now; sex = id.sex.now; birthdate = id.birthdate.now; name = id.name.now; extras = subfields_left id.extras }

-- the recording that was read
abbrev pub recording_of : RecordingId → Recording
recording_of id = record { date = id.date.now; admin = id.admin.now; technician = id.technician.now; equipment = id.equipment.now; extras = subfields_left id.extras }

-- a field says at most one patient
abbrev pub SaysOnePatient : Type 0
SaysOnePatient = (field : List ℕ) (p q : Patient) → SaysPatient field p → SaysPatient field q → p ≡ q

-- a field says at most one recording
abbrev pub SaysOneRecording : Type 0
SaysOneRecording =
    (field : List ℕ) (p q : Recording) → SaysRecording field p → SaysRecording field q → p ≡ q

-- a field says a patient exactly where no cause applies
abbrev pub SaysPatientOrCause : Type 0
SaysPatientOrCause = (field : List ℕ) → (patient_cause field ≡ None) ↔ ((p : Patient) × SaysPatient field p)

-- a field says a recording exactly where no cause applies
abbrev pub SaysRecordingOrCause : Type 0
SaysRecordingOrCause = (field : List ℕ) → (recording_cause field ≡ None) ↔ ((r : Recording) × SaysRecording field r)
