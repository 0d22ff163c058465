-- What a header says (EDF, "Header record"; EDF+, "The EDF+ header").
use Rattle.std.specs.Prelude.{◌≡◌, ℕ, ℤ, pos, ◌+◌, ◌*◌, ◌+ℤ◌, ◌*ℤ◌, ◌≤ℤ◌, ◌⊎◌, Bool, List, [], ◌∷◌, length, drop, take, Some, slice_get, codes}
use Rattle.edf_fields.specs.declared.fields.layout.SignalField.{SignalField}
use Rattle.std.specs.Str.{bytes_eq}
use Rattle.jiff.specs.Types.{Date}
use Rattle.jiff.specs.Words.{epoch_day}
use Rattle.jiff_core.specs.Calendar.{days_from_civil}
use Rattle.edf_fields.specs.Parts.{text_of}
use Rattle.edf_fields.specs.texts.Numbers.{SpellsWhole, SpellsDecimal}
use Rattle.edf_fields.specs.texts.Dates.{CivilDay, civil_day, NamesDottedDay, NamesDayMonth, NamesDashedDay, NamesClockTime}
use Rattle.edf_fields.specs.texts.Identifications.{Patient, Recording, SaysPatient, SaysRecording}
use Rattle.edf_header.specs.declared.kind.Kind.{Kind}
use Rattle.edf_header.specs.declared.kind.Kind.TheVariants.{Contiguous, Interrupted}
use Rattle.edf_fields.specs.declared.fields.layout.FixedField.TheVariants as fixed
use Rattle.edf_fields.specs.declared.fields.layout.SignalField.TheVariants as signal
use Rattle.edf_header.specs.signals.Calibrations.{CalibrationValue}
use Rattle.edf_fields.specs.fields.Layout.{fixed_field, signal_field}

-- one signal: the texts of its fields, its calibration, how many samples it has in a data record, and how many bytes stand before them there
pub record SignalHead : Type 0 where
  pub label : List ℕ
  pub transducer : List ℕ
  pub dimension : List ℕ
  pub prefilter : List ℕ
  pub reserved : List ℕ
  pub calibration : CalibrationValue
  pub samples : ℕ
  pub offset : ℕ

-- a header: the clock counts the seconds of the day, the free text stands behind `EDF+C` or `EDF+D`, and the duration, in
-- picoseconds, is that of a data record
pub record Head : Type 0 where
  pub patient : Patient
  pub recording : Recording
  pub day : CivilDay
  pub clock : ℕ
  pub kind : Kind
  pub free : List ℕ
  pub records : ℕ
  pub duration : ℤ
  pub signals : List SignalHead

-- the number of a day, 0 for 1970-01-01
abbrev pub day_number : CivilDay → ℤ
day_number day = days_from_civil day.year day.month day.day

-- the startdate says this day of the calendar: by itself where it has a year, and else with the recording date, after 2084 (EDF+, "Additional specifications in EDF+")
abbrev pub NamesStartdate : List ℕ → List ℕ → CivilDay → Type 0
NamesStartdate text recorded day =
    (date : Date) × (civil_day date ≡ day)
    × (NamesDottedDay text (epoch_day date)
    ⊎ (NamesDayMonth text day.day day.month × NamesDashedDay recorded (epoch_day date) × (pos 2085 ≤ℤ day.year)))

-- the word with which the reserved field of a file of this kind begins (EDF+, "The EDF+ header")
abbrev pub kind_word : Kind → List ℕ
kind_word Contiguous = codes "EDF+C"
kind_word Interrupted = codes "EDF+D"

-- the bytes of the fields of a signal say these texts and numbers
pub record HasSignal (field : SignalField → List ℕ) (head : SignalHead) : Type 0 where
  pub label : head.label ≡ text_of (field signal.Label)
  pub transducer : head.transducer ≡ text_of (field signal.Transducer)
  pub dimension : head.dimension ≡ text_of (field signal.Dimension)
  pub physical_minimum : SpellsDecimal 7 (text_of (field signal.PhysicalMinimum)) head.calibration.physical_minimum
  pub physical_maximum : SpellsDecimal 7 (text_of (field signal.PhysicalMaximum)) head.calibration.physical_maximum
  pub digital_minimum : SpellsWhole (text_of (field signal.DigitalMinimum)) head.calibration.digital_minimum
  pub digital_maximum : SpellsWhole (text_of (field signal.DigitalMaximum)) head.calibration.digital_maximum
  pub prefilter : head.prefilter ≡ text_of (field signal.Prefilter)
  pub samples : SpellsWhole (text_of (field signal.Samples)) (pos head.samples)
  pub reserved : head.reserved ≡ text_of (field signal.Reserved)

-- the first of these signals has so many bytes before it in a data record, and each other one also those of the signals before it, two a sample
abbrev pub AreSideBySide : ℕ → List SignalHead → Type 0
AreSideBySide before [] = Unit {0}
AreSideBySide before (head ∷ heads) = (head.offset ≡ before) × AreSideBySide (before + 2 * head.samples) heads

-- the fields of the file, at their places in the two tables of the layout, say what the header says (EDF, "Header record"; EDF+, "The
-- EDF+ header"; the version and the size of the header say nothing more)
pub record HasHead (file : List ℕ) (h : Head) : Type 0 where
  pub patient : SaysPatient (fixed_field file fixed.Patient) h.patient
  pub recording : SaysRecording (fixed_field file fixed.Recording) h.recording
  pub day : NamesStartdate (text_of (fixed_field file fixed.Startdate)) h.recording.date h.day
  pub clock : NamesClockTime (text_of (fixed_field file fixed.Starttime)) h.clock
  pub kind : take 5 (fixed_field file fixed.Reserved) ≡ kind_word h.kind
  pub free : h.free ≡ text_of (drop 5 (fixed_field file fixed.Reserved))
  pub records : SpellsWhole (text_of (fixed_field file fixed.Records)) (pos h.records)
  pub duration : SpellsDecimal 12 (text_of (fixed_field file fixed.Duration)) h.duration
  pub count : SpellsWhole (text_of (fixed_field file fixed.Signals)) (pos (length h.signals))
  pub signals : (s : ℕ) (head : SignalHead) → slice_get h.signals s ≡ Some head → HasSignal (signal_field file (length h.signals) s) head
  pub offsets : AreSideBySide 0 h.signals

-- the label says that the signal holds annotations (EDF+, "The 'EDF Annotations' signal")
abbrev pub is_annotations : List ℕ → Bool
is_annotations label = bytes_eq label (codes "EDF Annotations")

-- how many samples the signals have together in a data record
abbrev pub samples_together : List SignalHead → ℕ
samples_together [] = 0
samples_together (head ∷ heads) = head.samples + samples_together heads

-- how many bytes the header has
abbrev pub header_bytes : Head → ℕ
header_bytes h = 256 * (length h.signals + 1)

-- how many bytes a data record has
abbrev pub record_bytes : Head → ℕ
record_bytes h = 2 * samples_together h.signals
