-- The subfields of the identification fields in their order, and the one that has a name.
use Rattle.std.specs.Prelude.{ℕ, if◌then◌else◌, List, [], ◌∷◌, Option, Some, None}
use Rattle.std.specs.Str.{bytes_eq}
use Rattle.edf_fields.specs.fields.SubfieldNames.{name_of}
use Rattle.edf_fields.specs.declared.fields.which.Which.{Which}
use Rattle.edf_fields.specs.declared.fields.which.Which.TheVariants.{Code, Sex, Birthdate, Name, PatientExtras, Date, Administration, Technician, Equipment, RecordingExtras}

-- the subfields in their written order
unfoldable pub all_subfields : List Which
all_subfields = Code ∷ Sex ∷ Birthdate ∷ Name ∷ PatientExtras ∷ Date ∷ Administration ∷ Technician ∷ Equipment ∷ RecordingExtras ∷ []

-- the first of these subfields that has this name
abbrev pub named_in : List Which → List ℕ → Option Which
named_in [] name = None
named_in (which ∷ more) name = if bytes_eq (name_of which) name then Some which else named_in more name

-- the subfield of this name
unfoldable pub which_of : List ℕ → Option Which
which_of name = named_in all_subfields name
