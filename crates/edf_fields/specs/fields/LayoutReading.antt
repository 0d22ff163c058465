-- The fields of a header, where they stand, their order, and their names.
use Rattle.std.specs.Prelude.{◌≡◌, ℕ, ◌+◌, List, [], ◌∷◌, codes, ◌*◌}
use Rattle.edf_fields.specs.Parts.{part}
use Rattle.edf_fields.specs.declared.fields.layout.FixedField.{FixedField}
use Rattle.edf_fields.specs.declared.fields.layout.FixedField.TheVariants as fixed
use Rattle.edf_fields.specs.declared.fields.layout.SignalField.{SignalField}
use Rattle.edf_fields.specs.declared.fields.layout.SignalField.TheVariants as signal
use Rattle.edf_fields.specs.fields.Layout.{fixed_extent, column_extent}

-- the fixed part of a file: its first 256 bytes, or all that there are
abbrev pub fixed_part : List ℕ → List ℕ
fixed_part file = part file 0 256

-- the columns of n signals, one behind the other: 256 bytes for each signal, or all that there are
abbrev pub columns_part : ℕ → List ℕ → List ℕ
columns_part n file = part file 256 (256 * n)

-- the bytes of a field of signal s, in the columns of n signals
abbrev pub column_field : List ℕ → ℕ → ℕ → SignalField → List ℕ
column_field bytes n s field = part bytes ((column_extent field).0 * n + (column_extent field).1 * s) (column_extent field).1

-- where a field of the fixed part begins
abbrev pub fixed_from : FixedField → ℕ
fixed_from field = (fixed_extent field).0

-- how many bytes a field of the fixed part has
abbrev pub fixed_bytes : FixedField → ℕ
fixed_bytes field = (fixed_extent field).1

-- how many bytes of each signal stand in the columns before this one
abbrev pub column_before : SignalField → ℕ
column_before field = (column_extent field).0

-- how many bytes of each signal stand in this column
abbrev pub column_width : SignalField → ℕ
column_width field = (column_extent field).1

-- the fields of the fixed part, in file order
abbrev pub fixed_fields : List FixedField
fixed_fields =
    fixed.Version ∷ fixed.Patient ∷ fixed.Recording ∷ fixed.Startdate ∷ fixed.Starttime
    ∷ fixed.HeaderBytes ∷ fixed.Reserved ∷ fixed.Records ∷ fixed.Duration ∷ fixed.Signals ∷ []

-- the columns, in file order
unfoldable pub columns : List SignalField
columns =
    signal.Label ∷ signal.Transducer ∷ signal.Dimension ∷ signal.PhysicalMinimum ∷ signal.PhysicalMaximum
    ∷ signal.DigitalMinimum ∷ signal.DigitalMaximum ∷ signal.Prefilter ∷ signal.Samples ∷ signal.Reserved ∷ []

-- how many bytes of each signal stand before the first of these columns
abbrev pub next_before : List SignalField → ℕ
next_before [] = 256
next_before (field ∷ fields) = column_before field

-- each of these columns ends where the next one begins, the last one with the header
abbrev pub AreAdjacent : List SignalField → Type 0
AreAdjacent [] = Unit {0}
AreAdjacent (field ∷ fields) = (column_before field + column_width field ≡ next_before fields) × AreAdjacent fields

-- the name of a field of the fixed part
abbrev pub fixed_field_name : FixedField → List ℕ
fixed_field_name fixed.Version = codes "version"
fixed_field_name fixed.Patient = codes "patient"
fixed_field_name fixed.Recording = codes "recording"
fixed_field_name fixed.Startdate = codes "startdate"
fixed_field_name fixed.Starttime = codes "starttime"
fixed_field_name fixed.HeaderBytes = codes "header-bytes"
fixed_field_name fixed.Reserved = codes "reserved"
fixed_field_name fixed.Records = codes "records"
fixed_field_name fixed.Duration = codes "duration"
fixed_field_name fixed.Signals = codes "signals"

-- the name of a field of a signal
abbrev pub signal_field_name : SignalField → List ℕ
signal_field_name signal.Label = codes "label"
signal_field_name signal.Transducer = codes "transducer"
signal_field_name signal.Dimension = codes "dimension"
signal_field_name signal.PhysicalMinimum = codes "physical-minimum"
signal_field_name signal.PhysicalMaximum = codes "physical-maximum"
signal_field_name signal.DigitalMinimum = codes "digital-minimum"
signal_field_name signal.DigitalMaximum = codes "digital-maximum"
signal_field_name signal.Prefilter = codes "prefilter"
signal_field_name signal.Samples = codes "samples"
signal_field_name signal.Reserved = codes "reserved"
