-- The layout of a header: EDF (1992), "Header record".
use Rattle.std.specs.Prelude.{ℕ, ◌+◌, ◌*◌, List}
use Rattle.edf_fields.specs.Parts.{part}
use Rattle.edf_fields.specs.declared.fields.layout.FixedField.{FixedField}
use Rattle.edf_fields.specs.declared.fields.layout.FixedField.TheVariants as fixed
use Rattle.edf_fields.specs.declared.fields.layout.SignalField.{SignalField}
use Rattle.edf_fields.specs.declared.fields.layout.SignalField.TheVariants as signal

-- where a field of the fixed part begins, and how many bytes it has (EDF, "Header record")
abbrev pub fixed_extent : FixedField → ℕ × ℕ
fixed_extent fixed.Version = (0, 8)
fixed_extent fixed.Patient = (8, 80)
fixed_extent fixed.Recording = (88, 80)
fixed_extent fixed.Startdate = (168, 8)
fixed_extent fixed.Starttime = (176, 8)
fixed_extent fixed.HeaderBytes = (184, 8)
fixed_extent fixed.Reserved = (192, 44)
fixed_extent fixed.Records = (236, 8)
fixed_extent fixed.Duration = (244, 8)
fixed_extent fixed.Signals = (252, 4)

-- the bytes of a field of the fixed part, the first 256 bytes of a file
abbrev pub fixed_field : List ℕ → FixedField → List ℕ
fixed_field file field = part file (fixed_extent field).0 (fixed_extent field).1

-- how many bytes of each signal stand in the columns before this one, and how many in it
abbrev pub column_extent : SignalField → ℕ × ℕ
column_extent signal.Label = (0, 16)
column_extent signal.Transducer = (16, 80)
column_extent signal.Dimension = (96, 8)
column_extent signal.PhysicalMinimum = (104, 8)
column_extent signal.PhysicalMaximum = (112, 8)
column_extent signal.DigitalMinimum = (120, 8)
column_extent signal.DigitalMaximum = (128, 8)
column_extent signal.Prefilter = (136, 80)
column_extent signal.Samples = (216, 8)
column_extent signal.Reserved = (224, 32)

-- the bytes of a field of signal s of n; the columns stand behind the fixed part
abbrev pub signal_field : List ℕ → ℕ → ℕ → SignalField → List ℕ
signal_field file n s field = part file (256 + (column_extent field).0 * n + (column_extent field).1 * s) (column_extent field).1
