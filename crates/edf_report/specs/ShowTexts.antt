-- What `show` writes of a file: its header, line by line.
use Rattle.std.specs.Prelude.{◌≡◌, ℕ, ℤ, ◌/◌, ◌%◌, IsTrue, List, [], ◌∷◌, ◌++◌, drop, codes}
use Rattle.std.specs.Fmt.{decimal, signed_decimal}
use Rattle.std.specs.List.{flat_map}
use Rattle.edf_fields.specs.declared.in_out.source.Source.{Ghosts}
use Rattle.edf_fields.specs.texts.Dates.{CivilDay}
use Rattle.edf_fields.specs.texts.Identifications.{Patient, Recording}
use Rattle.edf_header.specs.signals.Calibrations.{CalibrationValue}
use Rattle.edf_header.specs.Faults.{header_fault}
use Rattle.edf_header.specs.Heads.{SignalHead, Head, header_bytes, kind_word}
use Rattle.edf_header.specs.HeadsReading.{head_of}
use Rattle.edf_header.specs.signals.Channels.{channels_among}
use Rattle.edf_verdict.specs.declared.outcome.Outcome.{Outcome}
use Rattle.edf_verdict.specs.declared.outcome.Outcome.TheVariants as outcomes
use Rattle.edf_verdict.specs.Quotes.{with_quoted}
use Rattle.edf_report.specs.Reports.{text_or_fault}

-- a line: a word, a space and a text
unfoldable pub word_line : List ℕ → List ℕ → List ℕ
word_line word text = word ++ (32 ∷ (text ++ (10 ∷ [])))

-- the last two digits of a number
abbrev pub two_digits : ℕ → List ℕ
two_digits n = decimal (n / 10 % 10) ++ decimal (n % 10)

-- a day as yyyy-mm-dd; the years of the profile have four digits
unfoldable pub day_text : CivilDay → List ℕ
day_text day = signed_decimal day.year ++ (codes "-" ++ (two_digits day.month ++ (codes "-" ++ two_digits day.day)))

-- so many seconds of the day as hh:mm:ss
unfoldable pub clock_text : ℕ → List ℕ
clock_text clock = two_digits (clock / 3600) ++ (codes ":" ++ (two_digits (clock / 60 % 60) ++ (codes ":" ++ two_digits (clock % 60))))

-- when the recording starts: the day, a space and the time of the day
unfoldable pub start_text : Head → List ℕ
start_text h = day_text h.day ++ (codes " " ++ clock_text h.clock)

-- a duration in picoseconds
abbrev pub duration_text : ℤ → List ℕ
duration_text ps = signed_decimal ps ++ codes " ps"

-- kind, start, number of data records, and duration of each in picoseconds
unfoldable pub course_text : Head → List ℕ
course_text h =
    word_line (codes "kind") (kind_word h.kind)
    ++ (word_line (codes "start") (start_text h)
    ++ (word_line (codes "records") (decimal h.records)
    ++ word_line (codes "duration") (duration_text h.duration)))

-- a line for each additional subfield
abbrev pub extras_text : List ℕ → List (List ℕ) → List ℕ
extras_text word extras = flat_map (word_line word) extras

-- the subfields of the patient
unfoldable pub patient_text : Patient → List ℕ
patient_text patient =
    word_line (codes "code") patient.code
    ++ (word_line (codes "sex") patient.sex
    ++ (word_line (codes "birthdate") patient.birthdate
    ++ (word_line (codes "name") patient.name
    ++ extras_text (codes "patient-extra") patient.extras)))

-- the subfields of the recording
unfoldable pub recording_text : Recording → List ℕ
recording_text recording =
    word_line (codes "date") recording.date
    ++ (word_line (codes "administration") recording.admin
    ++ (word_line (codes "technician") recording.technician
    ++ (word_line (codes "equipment") recording.equipment
    ++ extras_text (codes "recording-extra") recording.extras)))

-- the number of samples in a data record, and the extremes: physical ones in units of 10^-7 of the dimension
unfoldable pub numbers_text : ℕ → CalibrationValue → List ℕ
numbers_text samples line =
    codes " samples " ++ (decimal samples
    ++ (codes " physical " ++ (signed_decimal line.physical_minimum ++ (codes " " ++ (signed_decimal line.physical_maximum
    ++ (codes " digital " ++ (signed_decimal line.digital_minimum ++ (codes " " ++ signed_decimal line.digital_maximum))))))))

-- the texts of a channel beside its label
unfoldable pub texts_text : SignalHead → List ℕ
texts_text signal =
    with_quoted (codes " dimension ") signal.dimension
    ++ (with_quoted (codes " transducer ") signal.transducer
    ++ with_quoted (codes " prefilter ") signal.prefilter)

-- a channel
unfoldable pub channel_line : SignalHead → List ℕ
channel_line signal = with_quoted (codes "channel ") signal.label ++ (numbers_text signal.samples signal.calibration ++ (texts_text signal ++ (10 ∷ [])))

-- the channels in the order of the file; signals that hold annotations have no line
abbrev pub channels_text : List SignalHead → List ℕ
channels_text signals = flat_map channel_line (channels_among signals)

-- a header
unfoldable pub head_text : Head → List ℕ
head_text h = course_text h ++ (patient_text h.patient ++ (recording_text h.recording ++ channels_text h.signals))

-- the lines of a header, or the line of its first fault
unfoldable pub show_text : List ℕ → List ℕ
show_text file = text_or_fault (head_text (head_of file)) (header_fault file)

-- with a Yes, all bytes behind the header are left
abbrev pub IsLeftBehind : List ℕ → List ℕ → Outcome → Type 0
IsLeftBehind file left outcomes.Yes = left ≡ drop (header_bytes (head_of file)) file
IsLeftBehind file left outcomes.No = Unit {0}

-- the same of an honest source, before and behind
abbrev pub LeavesBehind : {S : Type 0} → Ghosts S → S → S → Outcome → Type 0
LeavesBehind source s s' outcome = IsTrue (source.is_honest s) → IsLeftBehind (source.left s) (source.left s') outcome
