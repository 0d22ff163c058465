-- The names that a claim gives the subfields of the identification fields (this project's profile).
use Rattle.std.specs.Prelude.{ℕ, List, codes}
use Rattle.edf_fields.specs.declared.fields.which.Which.{Which}
use Rattle.edf_fields.specs.declared.fields.which.Which.TheVariants.{Code, Sex, Birthdate, Name, PatientExtras, Date, Administration, Technician, Equipment, RecordingExtras}

-- the name of each subfield, as a claim writes it
abbrev pub name_of : Which → List ℕ
name_of Code = codes "code"
name_of Sex = codes "sex"
name_of Birthdate = codes "birthdate"
name_of Name = codes "name"
name_of PatientExtras = codes "patient-extras"
name_of Date = codes "date"
name_of Administration = codes "administration"
name_of Technician = codes "technician"
name_of Equipment = codes "equipment"
name_of RecordingExtras = codes "recording-extras"
