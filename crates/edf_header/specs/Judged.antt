-- What the code holds of the two halves of the fixed part, once their tests have passed.
use Rattle.std.specs.Prelude.{◌≡◌, ℕ, pos, ◌≤◌, ◌<◌, ◌≤ℤ◌, ◌^◌, List, None, unwrap_or, unsigned_abs, ◌*ℤ◌}
use Rattle.jiff.specs.Words.{epoch_day}
use Rattle.edf_fields.specs.Parts.{text_of}
use Rattle.edf_fields.specs.texts.NumbersReading.{whole_number_of, header_number_of}
use Rattle.edf_fields.specs.texts.Dates.{civil_day}
use Rattle.edf_fields.specs.texts.DatesReading.{clock_time_of}
use Rattle.edf_fields.specs.texts.IdentificationsReading.{patient_cause, recording_cause}
use Rattle.edf_header.specs.declared.fixed_part.fixed.RecordingStart.{RecordingStart}
use Rattle.edf_header.specs.declared.fixed_part.fixed.Extent.{Extent}
use Rattle.edf_fields.specs.declared.fields.layout.FixedField.TheVariants as fixed
use Rattle.edf_fields.specs.fields.Layout.{fixed_field}
use Rattle.edf_header.specs.HeadsReading.{startdate_of, first_day, recording_in, kind_of, count_of, signals_of}

-- the fields up to the starttime say this
pub record SaysStart (front : List ℕ) (v : RecordingStart) : Type 0 where
  pub patient : patient_cause (fixed_field front fixed.Patient) ≡ None
  pub recording : recording_cause (fixed_field front fixed.Recording) ≡ None
  pub day : unwrap_or (startdate_of (text_of (fixed_field front fixed.Startdate)) (recording_in (fixed_field front fixed.Recording)).date) first_day ≡ civil_day v.date
  pub days : v.days ≡ epoch_day v.date
  pub near : unsigned_abs (epoch_day v.date) < 5000000
  pub clock : unwrap_or (clock_time_of (text_of (fixed_field front fixed.Starttime))) 0 ≡ v.clock
  pub early : v.clock < 86400

-- the fields behind the starttime say this
pub record SaysExtent (front : List ℕ) (v : Extent) : Type 0 where
  pub kind : kind_of (fixed_field front fixed.Reserved) ≡ v.kind
  pub records : count_of (whole_number_of (fixed_field front fixed.Records)) ≡ v.records
  pub duration : unwrap_or (header_number_of (fixed_field front fixed.Duration)) (pos 0) *ℤ pos 100000 ≡ v.duration_ps
  pub signals : signals_of front ≡ v.signals
  pub some_records : 1 ≤ v.records
  pub few_records : v.records < 10 ^ 8
  pub some_time : pos 1 ≤ℤ v.duration_ps
  pub little_time : unsigned_abs v.duration_ps < 10 ^ 20
  pub some_signals : 1 ≤ v.signals
  pub few_signals : v.signals < 10 ^ 4
