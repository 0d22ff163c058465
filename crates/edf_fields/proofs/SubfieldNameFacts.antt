-- The names of the subfields are distinct.
use Rattle.std.proofs.Common.{◌≡◌, Some, refl, sym, ap, ◌∙◌}
use Rattle.edf_fields.specs.declared.fields.which.Which.{Which}
use Rattle.edf_fields.specs.declared.fields.which.Which.TheVariants.{Code, Sex, Birthdate, Name, PatientExtras, Date, Administration, Technician, Equipment, RecordingExtras}
use Rattle.edf_fields.specs.fields.SubfieldNames.{name_of}
use Rattle.edf_fields.specs.fields.SubfieldNamesReading.{all_subfields, which_of}

-- each name is that of its subfield
pub which-read : (w : Which) → which_of (name_of w) ≡ Some w
unfolding which_of all_subfields
which-read Code = refl
which-read Sex = refl
which-read Birthdate = refl
which-read Name = refl
which-read PatientExtras = refl
which-read Date = refl
which-read Administration = refl
which-read Technician = refl
which-read Equipment = refl
which-read RecordingExtras = refl

pub same-name : (v w : Which) → name_of v ≡ name_of w → v ≡ w
same-name v w e = let h : Some v ≡ Some w = sym (which-read v) ∙ ap which_of e ∙ which-read w in cc
