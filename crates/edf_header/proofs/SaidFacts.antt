-- What an identification field says, as a function of its bytes.
use Rattle.std.proofs.Common.{◌≡◌, ℕ, List, ◌∷◌, drop, sym, ap, codes}
use Rattle.edf_fields.specs.Parts.{text_of}
use Rattle.edf_fields.specs.texts.Identifications.{Patient, Recording, SaysPatient, SaysRecording}
use Rattle.edf_fields.specs.texts.IdentificationsReading.{subfield}
use Rattle.edf_fields.proofs.ForCallers.{joined_found}
use Rattle.edf_header.specs.HeadsReading.{patient_in, recording_in}

abbrev patient_at : List (List ℕ) → Patient
patient_at xs = record { code = subfield xs 0; sex = subfield xs 1; birthdate = subfield xs 2; name = subfield xs 3; extras = drop 4 xs }

abbrev recording_at : List (List ℕ) → Recording
recording_at xs = record { date = subfield xs 1; admin = subfield xs 2; technician = subfield xs 3; equipment = subfield xs 4; extras = drop 5 xs }

pub patient_is : (field : List ℕ) (p : Patient) → SaysPatient field p → p ≡ patient_in field
patient_is field p says =
    sym (ap patient_at (joined_found (p.code ∷ p.sex ∷ p.birthdate ∷ p.name ∷ p.extras) (text_of field) says.lists.subfields))

pub recording_is : (field : List ℕ) (r : Recording) → SaysRecording field r → r ≡ recording_in field
recording_is field r says =
    sym (ap recording_at (joined_found (codes "Startdate" ∷ r.date ∷ r.admin ∷ r.technician ∷ r.equipment ∷ r.extras) (text_of field) says.lists.subfields))

pub recording_date_is : (field : List ℕ) (r : Recording) → SaysRecording field r → r.date ≡ (recording_in field).date
recording_date_is field r says = ap (λ r. r.date) (recording_is field r says)
