-- What the two identification fields of a header say (EDF+, "Additional specifications in EDF+").
use Rattle.std.specs.Prelude.{◌≡◌, ◌≢◌, ℕ, ℤ, List, ◌∷◌, ◌⊎◌, slice_index, codes}
use Rattle.edf_fields.specs.texts.Dates.{NamesDashedDay}
use Rattle.edf_fields.specs.Parts.{text_of}
use Rattle.edf_fields.specs.texts.Printable.{IsPrintable}
use Rattle.edf_fields.specs.texts.Subfields.{HasSubfields}

-- a field of printable ASCII has these subfields, and behind them spaces alone (EDF, "Header record"); that none stands before
-- them is this project's profile
pub record ListsSubfields (field : List ℕ) (xs : List (List ℕ)) : Type 0 where
  pub printable : IsPrintable field
  pub begins : slice_index field 0 ≢ 32
  pub subfields : HasSubfields (text_of field) xs

-- an existing day dd-MMM-yyyy, or X
abbrev pub IsDateOrX : List ℕ → Type 0
IsDateOrX s = (s ≡ codes "X") ⊎ ((n : ℤ) × NamesDashedDay s n)

-- the subfields of a patient
pub record Patient : Type 0 where
  pub code : List ℕ
  pub sex : List ℕ
  pub birthdate : List ℕ
  pub name : List ℕ
  pub extras : List (List ℕ)

-- the field says this patient: the code, the sex (F, M or X), the birthdate, the name and any additional subfields (EDF+,
-- "Additional specifications in EDF+")
pub record SaysPatient (field : List ℕ) (patient : Patient) : Type 0 where
  pub lists : ListsSubfields field (patient.code ∷ patient.sex ∷ patient.birthdate ∷ patient.name ∷ patient.extras)
  pub sex : (patient.sex ≡ codes "F") ⊎ (patient.sex ≡ codes "M") ⊎ (patient.sex ≡ codes "X")
  pub birthdate : IsDateOrX patient.birthdate

-- the subfields of a recording, behind the word `Startdate`
pub record Recording : Type 0 where
  pub date : List ℕ
  pub admin : List ℕ
  pub technician : List ℕ
  pub equipment : List ℕ
  pub extras : List (List ℕ)

-- the field says this recording: the word `Startdate`, the date, the administration code, the technician, the equipment and any additional
-- subfields (EDF+, "Additional specifications in EDF+")
pub record SaysRecording (field : List ℕ) (recording : Recording) : Type 0 where
  pub lists : ListsSubfields field (codes "Startdate" ∷ recording.date ∷ recording.admin ∷ recording.technician ∷ recording.equipment ∷ recording.extras)
  pub date : IsDateOrX recording.date
