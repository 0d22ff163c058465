-- The header of a file, as it is read.
use Rattle.std.specs.Prelude.{◌≡◌, ℕ, zero, suc, ℤ, pos, negsuc, int_le, ◌+◌, ◌*◌, List, [], ◌∷◌, drop, take, Option, Some, None, unwrap_or, codes, if◌then◌else◌, ◌*ℤ◌, ◌+ℤ◌}
use Rattle.std.specs.Str.{bytes_eq}
use Rattle.edf_fields.specs.Parts.{text_of}
use Rattle.edf_fields.specs.texts.NumbersReading.{whole_number_of, header_number_of}
use Rattle.edf_fields.specs.texts.Dates.{CivilDay}
use Rattle.edf_fields.specs.texts.DatesReading.{dotted_day_of, day_month_of, dashed_day_of, clock_time_of}
use Rattle.edf_fields.specs.texts.SubfieldsReading.{subfields_of}
use Rattle.edf_fields.specs.texts.Identifications.{Patient, Recording}
use Rattle.edf_fields.specs.texts.IdentificationsReading.{subfield}
use Rattle.edf_header.specs.declared.kind.Kind.{Kind}
use Rattle.edf_header.specs.declared.kind.Kind.TheVariants.{Contiguous, Interrupted}
use Rattle.edf_fields.specs.declared.fields.layout.FixedField.TheVariants as fixed
use Rattle.edf_fields.specs.declared.fields.layout.SignalField.TheVariants as signal
use Rattle.edf_header.specs.signals.Calibrations.{CalibrationValue}
use Rattle.edf_fields.specs.fields.Layout.{fixed_field}
use Rattle.edf_fields.specs.fields.LayoutReading.{fixed_part, columns_part, column_field}
use Rattle.edf_header.specs.Heads.{SignalHead, Head, HasHead, day_number}

-- a number that counts something, or 0 where none is spelled, or one below 0
abbrev pub count_of : Option ℤ → ℕ
count_of None = 0
count_of (Some (pos n)) = n
count_of (Some (negsuc n)) = 0

-- the day of a startdate without a year: the recording date, after 2084
abbrev pub late_day : Option CivilDay → Option CivilDay
late_day None = None
late_day (Some recorded) = if int_le (pos 2085) recorded.year then Some recorded else None

-- the day of a startdate: the recording date where it has no year, and else its own
abbrev pub day_by : Option (ℕ × ℕ) → Option CivilDay → Option CivilDay → Option CivilDay
day_by None dotted recorded = dotted
day_by (Some said) dotted recorded = late_day recorded

-- the day of a startdate, or none; whether the recording date has the same day and month is another test
abbrev pub startdate_of : List ℕ → List ℕ → Option CivilDay
startdate_of text recorded = day_by (day_month_of text) (dotted_day_of text) (dashed_day_of recorded)

-- the day that counts where a text names none: 1970-01-01
abbrev pub first_day : CivilDay
first_day = record { year = pos 1970; month = 1; day = 1 }

-- the patient of a field that says one
abbrev pub patient_in : List ℕ → Patient
patient_in field =
    let xs = subfields_of (text_of field) in
    record { code = subfield xs 0; sex = subfield xs 1; birthdate = subfield xs 2; name = subfield xs 3; extras = drop 4 xs }

-- the recording of a field that says one
abbrev pub recording_in : List ℕ → Recording
recording_in field =
    let xs = subfields_of (text_of field) in
    record { date = subfield xs 1; admin = subfield xs 2; technician = subfield xs 3; equipment = subfield xs 4; extras = drop 5 xs }

-- the kind of a file that is an EDF+ file
abbrev pub kind_of : List ℕ → Kind
kind_of field = if bytes_eq (take 5 field) (codes "EDF+C") then Contiguous else Interrupted

-- how many signals the fixed part announces
abbrev pub signals_of : List ℕ → ℕ
signals_of front = count_of (whole_number_of (fixed_field front fixed.Signals))

-- the calibration that signal s of n has; where a number isn't spelled it counts as 0
abbrev pub line_of : List ℕ → ℕ → ℕ → CalibrationValue
line_of bytes n s = record {
  physical_minimum = unwrap_or (header_number_of (column_field bytes n s signal.PhysicalMinimum)) (pos 0);
  physical_maximum = unwrap_or (header_number_of (column_field bytes n s signal.PhysicalMaximum)) (pos 0);
  digital_minimum = unwrap_or (whole_number_of (column_field bytes n s signal.DigitalMinimum)) (pos 0);
  digital_maximum = unwrap_or (whole_number_of (column_field bytes n s signal.DigitalMaximum)) (pos 0);
}

-- signal s of n, with so many bytes before it in a data record
abbrev pub signal_of : List ℕ → ℕ → ℕ → ℕ → SignalHead
signal_of bytes n s before = record {
  label = text_of (column_field bytes n s signal.Label);
  transducer = text_of (column_field bytes n s signal.Transducer);
  dimension = text_of (column_field bytes n s signal.Dimension);
  prefilter = text_of (column_field bytes n s signal.Prefilter);
  reserved = text_of (column_field bytes n s signal.Reserved);
  calibration = line_of bytes n s;
  samples = count_of (whole_number_of (column_field bytes n s signal.Samples));
  offset = before;
}

-- the m signals from signal s on, of n, the first of them with so many bytes before it
abbrev pub signals_from : List ℕ → ℕ → ℕ → ℕ → ℕ → List SignalHead
signals_from bytes n s before zero = []
signals_from bytes n s before (suc m) =
    signal_of bytes n s before
    ∷ signals_from bytes n (s + 1) (before + 2 * (signal_of bytes n s before).samples) m

-- the signals of the columns of n signals
abbrev pub signals_in : ℕ → List ℕ → List SignalHead
signals_in n bytes = signals_from bytes n 0 0 n

-- the header that the fixed part and the columns say; where a number isn't spelled it counts as 0, and where no day is named it is 1970-01-01
abbrev pub head_in : List ℕ → List ℕ → Head
head_in front bytes = record {
  patient = patient_in (fixed_field front fixed.Patient);
  recording = recording_in (fixed_field front fixed.Recording);
  day = unwrap_or (startdate_of (text_of (fixed_field front fixed.Startdate)) (recording_in (fixed_field front fixed.Recording)).date) first_day;
  clock = unwrap_or (clock_time_of (text_of (fixed_field front fixed.Starttime))) 0;
  kind = kind_of (fixed_field front fixed.Reserved);
  free = text_of (drop 5 (fixed_field front fixed.Reserved));
  records = count_of (whole_number_of (fixed_field front fixed.Records));
  duration = unwrap_or (header_number_of (fixed_field front fixed.Duration)) (pos 0) *ℤ pos 100000;
  signals = signals_in (signals_of front) bytes;
}

-- the second at which the recording starts, 0 for 1970-01-01 00:00:00 (civil time, without a time zone)
abbrev pub start_second : Head → ℤ
start_second h = (pos 86400 *ℤ day_number h.day) +ℤ pos h.clock

-- the header of a file
unfoldable pub head_of : List ℕ → Head
head_of file = head_in (fixed_part file) (columns_part (signals_of (fixed_part file)) file)

-- proved: a file has at most one header
abbrev pub HasOneHead : Type 0
HasOneHead = (file : List ℕ) (h g : Head) → HasHead file h → HasHead file g → h ≡ g
