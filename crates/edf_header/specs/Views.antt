-- What the code's values say, in the words of the definitions.
use Rattle.std.specs.Prelude.{◌≡◌, ◌≤◌, None, List, ℕ, length, drop}
use Rattle.jiff.specs.Words.{epoch_day}
use Rattle.edf_fields.specs.texts.Dates.{civil_day}
use Rattle.edf_fields.specs.Parts.{text_of}
use Rattle.edf_fields.specs.texts.IdentificationsReading.{patient_cause, recording_cause}
use Rattle.edf_header.specs.declared.signals.details.Details.{Details}
use Rattle.edf_header.specs.declared.signals.details.TextsOf.{TextsOf}
use Rattle.edf_header.specs.declared.fixed_part.fixed.RecordingStart.{RecordingStart}
use Rattle.edf_header.specs.declared.fixed_part.fixed.Extent.{Extent}
use Rattle.edf_header.specs.declared.signals.judge_signal.SignalFields.{SignalFields}
use Rattle.edf_fields.specs.declared.fields.layout.FixedField.TheVariants as fixed
use Rattle.edf_fields.specs.declared.fields.layout.SignalField.{SignalField}
use Rattle.edf_header.specs.signals.Calibrations.{CalibrationValue}
use Rattle.edf_fields.specs.fields.Layout.{fixed_field}
use Rattle.edf_fields.specs.fields.LayoutReading.{column_field}
use Rattle.edf_header.specs.Heads.{SignalHead, Head, record_bytes}
use Rattle.edf_header.specs.HeadsReading.{patient_in, recording_in}
use Rattle.edf_header.specs.Sound.{IsSound}

-- a header
abbrev pub head_view : List ℕ → RecordingStart → Extent → List SignalHead → Head
head_view front start extent signals = record {
  patient = patient_in (fixed_field front fixed.Patient);
  recording = recording_in (fixed_field front fixed.Recording);
  day = civil_day start.date;
  clock = start.clock;
  kind = extent.kind;
  free = text_of (drop 5 (fixed_field front fixed.Reserved));
  records = extent.records;
  duration = extent.duration_ps;
  signals = signals;
}

-- what the code keeps of a header that passed its tests: its fixed part, of which the identifications are read again, and the numbers that were read
pub record IsKept (front : List ℕ) (start : RecordingStart) (extent : Extent) (signals : List SignalHead) (size : ℕ) : Type 0 where
  pub long : 256 ≤ length front
  pub patient : patient_cause (fixed_field front fixed.Patient) ≡ None
  pub recording : recording_cause (fixed_field front fixed.Recording) ≡ None
  pub days : start.days ≡ epoch_day start.date
  pub record_size : size ≡ record_bytes (head_view front start extent signals)
  pub sound : IsSound (head_view front start extent signals)

-- the bytes of a field of the signal
abbrev pub field_in : SignalFields → SignalField → List ℕ
field_in fields field = column_field (fields.columns.now).bytes (fields.columns.now).signals fields.signal field

-- what a signal of these texts and this calibration says besides its label
abbrev pub details_of : TextsOf → CalibrationValue → Details
details_of texts calibration = record {
  texts = record { transducer = texts.transducer.now; dimension = texts.dimension.now; prefilter = texts.prefilter.now; reserved = texts.reserved.now };
  calibration = calibration;
}
