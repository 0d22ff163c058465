-- The tests that a header has to pass, in their written order, and the first that fails. A test is asked only where those before it pass.
use Rattle.std.specs.Prelude.{ℕ, zero, suc, ℤ, pos, neg_ℤ, ◌+◌, ◌*◌, ◌==◌, nat_le, int_le, int_lt, ◌&&◌, ◌||◌, not, List, [], ◌∷◌, ◌++◌, length, take, Bool, true, false, Option, Some, None, unwrap_or, codes}
use Rattle.std.specs.List.{list_any, list_all}
use Rattle.std.specs.Ordering.{int_eq}
use Rattle.std.specs.Str.{bytes_eq}
use Rattle.edf_fields.specs.declared.faults.cause.FieldCause.{FieldCause}
use Rattle.edf_fields.specs.Parts.{text_of}
use Rattle.edf_fields.specs.texts.NumbersReading.{whole_number_of, header_number_of}
use Rattle.edf_fields.specs.texts.Dates.{CivilDay}
use Rattle.edf_fields.specs.texts.DatesReading.{dotted_day_of, day_month_of, dashed_day_of, clock_time_of}
use Rattle.edf_fields.specs.texts.IdentificationsReading.{patient_cause, recording_cause}
use Rattle.edf_fields.specs.texts.PrintableReading.{is_printable}
use Rattle.edf_fields.specs.Tests.{first, unless}
use Rattle.edf_fields.specs.declared.faults.fault.Fault.{Fault}
use Rattle.edf_fields.specs.declared.faults.fault.Place.{Place}
use Rattle.edf_fields.specs.declared.faults.fault.Place.TheVariants.{AtField, AtSignal}
use Rattle.edf_fields.specs.declared.faults.fault.Cause.{Cause}
use Rattle.edf_fields.specs.declared.faults.fault.Cause.TheVariants.{Truncated, NotPrintable, BadVersion, BadSubfields, BadStart, StartdateDiffers, BadHeaderSize, NotEdfPlus, BadNumber, BadRange, BadAnnotationSignal, NoAnnotationSignal, NoOrdinarySignal, DuplicateLabel, RecordTooLarge}
use Rattle.edf_fields.specs.declared.fields.layout.FixedField.{FixedField}
use Rattle.edf_fields.specs.declared.fields.layout.FixedField.TheVariants as fixed
use Rattle.edf_fields.specs.declared.fields.layout.SignalField.{SignalField}
use Rattle.edf_fields.specs.declared.fields.layout.SignalField.TheVariants as signal
use Rattle.edf_header.specs.signals.Calibrations.{CalibrationValue}
use Rattle.edf_header.specs.signals.ChannelsReading.{is_repeated}
use Rattle.edf_fields.specs.fields.Layout.{fixed_field}
use Rattle.edf_fields.specs.fields.LayoutReading.{fixed_fields, columns, fixed_from, fixed_bytes, column_before, column_width, fixed_part, columns_part, column_field}
use Rattle.edf_header.specs.Heads.{SignalHead, day_number, is_annotations, samples_together}
use Rattle.edf_header.specs.HeadsReading.{startdate_of, recording_in, signals_of, line_of, signals_in}

-- a test that found this
abbrev pub fault : Place → Cause → Option Fault
fault place cause = Some (record { place = place; cause = cause })

-- a test that finds this cause at this place where the answer is no
abbrev pub fault_unless : Bool → Place → Cause → Option Fault
fault_unless passes place cause = unless passes (record { place = place; cause = cause })

-- there are bytes up to this end
unfoldable pub truncated : Place → ℕ → ℕ → Option Fault
truncated place end len = fault_unless (nat_le end len) place Truncated

-- each byte is printable ASCII, 32 to 126 (EDF, "Header record"; EDF+, "Additional specifications in EDF+")
unfoldable pub not_printable : Place → List ℕ → Option Fault
not_printable place field = fault_unless (list_all is_printable field) place NotPrintable

-- a number is spelled
abbrev pub no_number : Place → Option ℤ → Option Fault
no_number place None = fault place BadNumber
no_number place (Some v) = None

-- a number is spelled, and it is from the first to the second of these
abbrev pub not_within : Place → ℤ → ℤ → Option ℤ → Option Fault
not_within place low high None = fault place BadNumber
not_within place low high (Some v) = fault_unless (int_le low v && int_le v high) place BadRange

-- a number is spelled, and it is at least 1
abbrev pub not_positive : Place → Option ℤ → Option Fault
not_positive place None = fault place BadNumber
not_positive place (Some v) = fault_unless (int_le (pos 1) v) place BadRange

-- something is named
abbrev pub not_named : {X : Type 0} → Place → Cause → Option X → Option Fault
not_named place cause None = fault place cause
not_named place cause (Some x) = None

-- the identification is read
abbrev pub not_read : Place → Option FieldCause → Option Fault
not_read place None = None
not_read place (Some cause) = fault place (BadSubfields cause)

-- the version is 0
unfoldable pub version_fault : List ℕ → Option Fault
version_fault field =
    first (not_printable (AtField fixed.Version) field
    ∷ fault_unless (bytes_eq (text_of field) (codes "0")) (AtField fixed.Version) BadVersion
    ∷ [])

-- the field says a patient
unfoldable pub patient_fault : List ℕ → Option Fault
patient_fault field =
    first (not_printable (AtField fixed.Patient) field ∷ not_read (AtField fixed.Patient) (patient_cause field) ∷ [])

-- the field says a recording
unfoldable pub recording_fault : List ℕ → Option Fault
recording_fault field =
    first (not_printable (AtField fixed.Recording) field ∷ not_read (AtField fixed.Recording) (recording_cause field) ∷ [])

-- no day, or this one (EDF+, "Additional specifications in EDF+": the startdate in the recording identification is that of the header)
abbrev pub is_same_day : Option CivilDay → Option CivilDay → Bool
is_same_day None day = true
is_same_day (Some recorded) None = false
is_same_day (Some recorded) (Some day) = int_eq (day_number recorded) (day_number day)

-- there is a day, and it has this day of the month and this month
abbrev pub has_day_month : ℕ × ℕ → Option CivilDay → Bool
has_day_month said None = false
has_day_month said (Some day) = (day.day == said.0) && (day.month == said.1)

-- the startdate says the same as the recording date: the day of the month and the month, where it has no year, and else the day
abbrev pub is_same_start : Option (ℕ × ℕ) → Option CivilDay → Option CivilDay → Bool
is_same_start None dotted recorded = is_same_day recorded dotted
is_same_start (Some said) dotted recorded = has_day_month said recorded

-- the tests of a startdate that says this day, and of whether the recording date says the same
abbrev pub start_tests : Option CivilDay → Bool → List (Option Fault)
start_tests day same =
    not_named (AtField fixed.Startdate) BadStart day ∷ fault_unless same (AtField fixed.Startdate) StartdateDiffers ∷ []

-- the startdate says a day, and the recording date, where it isn't X, the same one
unfoldable pub startdate_fault : List ℕ → List ℕ → Option Fault
startdate_fault recorded field =
    let text = text_of field in
    first (not_printable (AtField fixed.Startdate) field
    ∷ start_tests (startdate_of text recorded) (is_same_start (day_month_of text) (dotted_day_of text) (dashed_day_of recorded)))

-- the starttime names a time of the day
unfoldable pub starttime_fault : List ℕ → Option Fault
starttime_fault field =
    first (not_printable (AtField fixed.Starttime) field
    ∷ not_named (AtField fixed.Starttime) BadStart (clock_time_of (text_of field))
    ∷ [])

-- the size of the header is a whole number
unfoldable pub header_bytes_fault : List ℕ → Option Fault
header_bytes_fault field =
    first (not_printable (AtField fixed.HeaderBytes) field ∷ no_number (AtField fixed.HeaderBytes) (whole_number_of field) ∷ [])

-- the file is an EDF+ file, contiguous or interrupted (EDF+, "The EDF+ header")
unfoldable pub reserved_fault : List ℕ → Option Fault
reserved_fault field =
    first (not_printable (AtField fixed.Reserved) field
    ∷ fault_unless (bytes_eq (take 5 field) (codes "EDF+C") || bytes_eq (take 5 field) (codes "EDF+D")) (AtField fixed.Reserved) NotEdfPlus
    ∷ [])

-- there is a data record
unfoldable pub records_fault : List ℕ → Option Fault
records_fault field =
    first (not_printable (AtField fixed.Records) field ∷ not_positive (AtField fixed.Records) (whole_number_of field) ∷ [])

-- a data record lasts
unfoldable pub duration_fault : List ℕ → Option Fault
duration_fault field =
    first (not_printable (AtField fixed.Duration) field ∷ not_positive (AtField fixed.Duration) (header_number_of field) ∷ [])

-- there is a signal
unfoldable pub signals_fault : List ℕ → Option Fault
signals_fault field =
    first (not_printable (AtField fixed.Signals) field ∷ not_positive (AtField fixed.Signals) (whole_number_of field) ∷ [])

-- the header has 256 bytes, and 256 more for each signal
unfoldable pub header_size_fault : ℕ → List ℕ → Option Fault
header_size_fault signals field =
    fault_unless (int_eq (unwrap_or (whole_number_of field) (pos 0)) (pos (256 * (signals + 1)))) (AtField fixed.HeaderBytes) BadHeaderSize

-- no byte of a field of the fixed part is missing
abbrev pub fixed_missing : List FixedField → ℕ → List (Option Fault)
fixed_missing [] len = []
fixed_missing (field ∷ fields) len = truncated (AtField field) (fixed_from field + fixed_bytes field) len ∷ fixed_missing fields len

-- the tests of the fields that say who and what was recorded, and when
abbrev pub start_faults : List ℕ → List (Option Fault)
start_faults front =
    version_fault (fixed_field front fixed.Version)
    ∷ patient_fault (fixed_field front fixed.Patient)
    ∷ recording_fault (fixed_field front fixed.Recording)
    ∷ startdate_fault (recording_in (fixed_field front fixed.Recording)).date (fixed_field front fixed.Startdate)
    ∷ starttime_fault (fixed_field front fixed.Starttime)
    ∷ []

-- the tests of the fields that say how the file goes on
abbrev pub extent_faults : List ℕ → List (Option Fault)
extent_faults front =
    header_bytes_fault (fixed_field front fixed.HeaderBytes)
    ∷ reserved_fault (fixed_field front fixed.Reserved)
    ∷ records_fault (fixed_field front fixed.Records)
    ∷ duration_fault (fixed_field front fixed.Duration)
    ∷ signals_fault (fixed_field front fixed.Signals)
    ∷ header_size_fault (signals_of front) (fixed_field front fixed.HeaderBytes)
    ∷ []

-- no byte of this field is missing, of the m signals from signal s on, of n
abbrev pub column_missing : SignalField → ℕ → ℕ → ℕ → ℕ → List (Option Fault)
column_missing field n s zero len = []
column_missing field n s (suc m) len =
    truncated (AtSignal s field) (column_before field * n + column_width field * (s + 1)) len
    ∷ column_missing field n (s + 1) m len

-- no byte of these columns is missing, of n signals
abbrev pub columns_missing : List SignalField → ℕ → ℕ → List (Option Fault)
columns_missing [] n len = []
columns_missing (field ∷ fields) n len = column_missing field n 0 n len ++ columns_missing fields n len

-- a text of signal s
unfoldable pub text_fault : ℕ → SignalField → List ℕ → Option Fault
text_fault s field bytes = not_printable (AtSignal s field) bytes

-- a physical extreme of signal s
unfoldable pub physical_fault : ℕ → SignalField → List ℕ → Option Fault
physical_fault s field bytes =
    first (not_printable (AtSignal s field) bytes ∷ no_number (AtSignal s field) (header_number_of bytes) ∷ [])

-- a digital extreme of signal s: what two bytes hold
unfoldable pub digital_fault : ℕ → SignalField → List ℕ → Option Fault
digital_fault s field bytes =
    first (not_printable (AtSignal s field) bytes
    ∷ not_within (AtSignal s field) (neg_ℤ (pos 32768)) (pos 32767) (whole_number_of bytes)
    ∷ [])

-- signal s has a sample in a data record
unfoldable pub samples_fault : ℕ → List ℕ → Option Fault
samples_fault s bytes =
    first (not_printable (AtSignal s signal.Samples) bytes ∷ not_positive (AtSignal s signal.Samples) (whole_number_of bytes) ∷ [])

-- the digital extremes of signal s are in order
unfoldable pub digital_order_fault : ℕ → CalibrationValue → Option Fault
digital_order_fault s line = fault_unless (int_lt line.digital_minimum line.digital_maximum) (AtSignal s signal.DigitalMaximum) BadRange

-- the physical extremes of signal s differ
unfoldable pub physical_differ_fault : ℕ → CalibrationValue → Option Fault
physical_differ_fault s line =
    fault_unless (not (int_eq line.physical_minimum line.physical_maximum)) (AtSignal s signal.PhysicalMaximum) BadRange

-- an annotation signal has all that two bytes can hold as its digital extremes (EDF+, "The 'EDF Annotations' signal")
unfoldable pub annotation_fault : ℕ → List ℕ → CalibrationValue → Option Fault
annotation_fault s label line =
    fault_unless (not (is_annotations (text_of label)) || (int_eq line.digital_minimum (neg_ℤ (pos 32768)) && int_eq line.digital_maximum (pos 32767)))
    (AtSignal s signal.Label) BadAnnotationSignal

-- the tests of the first three fields of signal s of n
abbrev pub naming_faults : List ℕ → ℕ → ℕ → List (Option Fault)
naming_faults bytes n s =
    text_fault s signal.Label (column_field bytes n s signal.Label)
    ∷ text_fault s signal.Transducer (column_field bytes n s signal.Transducer)
    ∷ text_fault s signal.Dimension (column_field bytes n s signal.Dimension)
    ∷ []

-- the tests of its four extremes
abbrev pub extreme_faults : List ℕ → ℕ → ℕ → List (Option Fault)
extreme_faults bytes n s =
    physical_fault s signal.PhysicalMinimum (column_field bytes n s signal.PhysicalMinimum)
    ∷ physical_fault s signal.PhysicalMaximum (column_field bytes n s signal.PhysicalMaximum)
    ∷ digital_fault s signal.DigitalMinimum (column_field bytes n s signal.DigitalMinimum)
    ∷ digital_fault s signal.DigitalMaximum (column_field bytes n s signal.DigitalMaximum)
    ∷ []

-- the tests of its last three fields
abbrev pub sampling_faults : List ℕ → ℕ → ℕ → List (Option Fault)
sampling_faults bytes n s =
    text_fault s signal.Prefilter (column_field bytes n s signal.Prefilter)
    ∷ samples_fault s (column_field bytes n s signal.Samples)
    ∷ text_fault s signal.Reserved (column_field bytes n s signal.Reserved)
    ∷ []

-- the tests of what its fields say together
abbrev pub agreement_faults : ℕ → List ℕ → CalibrationValue → List (Option Fault)
agreement_faults s label line =
    digital_order_fault s line
    ∷ physical_differ_fault s line
    ∷ annotation_fault s label line
    ∷ []

-- the tests of signal s of n: its fields in the order of the columns, then what they say together
abbrev pub signal_faults : List ℕ → ℕ → ℕ → List (Option Fault)
signal_faults bytes n s =
    naming_faults bytes n s
    ++ (extreme_faults bytes n s
    ++ (sampling_faults bytes n s
    ++ agreement_faults s (column_field bytes n s signal.Label) (line_of bytes n s)))

-- the tests of the m signals from signal s on, of n
abbrev pub signals_faults : List ℕ → ℕ → ℕ → ℕ → List (Option Fault)
signals_faults bytes n s zero = []
signals_faults bytes n s (suc m) = signal_faults bytes n s ++ signals_faults bytes n (s + 1) m

-- a signal holds annotations
unfoldable pub no_annotation_signal : List SignalHead → Option Fault
no_annotation_signal signals =
    fault_unless (list_any (λ head. is_annotations head.label) signals) (AtField fixed.Signals) NoAnnotationSignal

-- a signal is a channel
unfoldable pub no_ordinary_signal : List SignalHead → Option Fault
no_ordinary_signal signals =
    fault_unless (not (list_all (λ head. is_annotations head.label) signals)) (AtField fixed.Signals) NoOrdinarySignal

-- no earlier channel has the label of signal s (this project's profile: a claim names channels by their labels)
unfoldable pub label_fault : List SignalHead → ℕ → Option Fault
label_fault signals s = fault_unless (not (is_repeated signals s)) (AtSignal s signal.Label) DuplicateLabel

-- the tests of the labels of the m signals from signal s on
abbrev pub labels_faults : List SignalHead → ℕ → ℕ → List (Option Fault)
labels_faults signals s zero = []
labels_faults signals s (suc m) = label_fault signals s ∷ labels_faults signals (s + 1) m

-- a data record has 16,777,216 bytes at the most, two for each sample (this project's profile)
unfoldable pub record_too_large : List SignalHead → Option Fault
record_too_large signals = fault_unless (nat_le (samples_together signals) 8388608) (AtField fixed.Signals) RecordTooLarge

-- the tests of the signals together
abbrev pub joint_faults : List SignalHead → List (Option Fault)
joint_faults signals =
    no_annotation_signal signals
    ∷ no_ordinary_signal signals
    ∷ (labels_faults signals 0 (length signals) ++ (record_too_large signals ∷ []))

-- the tests of the fixed part, or of as much of it as there is
abbrev pub fixed_tests : List ℕ → List (Option Fault)
fixed_tests front = fixed_missing fixed_fields (length front) ++ (start_faults front ++ extent_faults front)

-- the first fault of the fixed part, or of as much of it as there is
unfoldable pub fixed_fault : List ℕ → Option Fault
fixed_fault front = first (fixed_tests front)

-- the tests of the columns of n signals, or of as much of them as there is
abbrev pub columns_tests : ℕ → List ℕ → List (Option Fault)
columns_tests n bytes =
    columns_missing columns n (length bytes)
    ++ (signals_faults bytes n 0 n ++ joint_faults (signals_in n bytes))

-- the tests of the header of a file, in their order
abbrev pub header_tests : List ℕ → List (Option Fault)
header_tests file =
    fixed_tests (fixed_part file)
    ++ columns_tests (signals_of (fixed_part file)) (columns_part (signals_of (fixed_part file)) file)

-- the first fault of the header of a file, or none where it passes every test
unfoldable pub header_fault : List ℕ → Option Fault
header_fault file = first (header_tests file)
