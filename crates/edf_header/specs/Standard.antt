-- What a header has to meet, by the standard and by this project's profile.
use Rattle.std.specs.Prelude.{◌≡◌, ℕ, ℤ, pos, neg_ℤ, ◌≢◌, ◌≤◌, ◌≤ℤ◌, ◌<ℤ◌, IsTrue, [], Some, slice_get, false}
use Rattle.std.specs.List.{All, list_any}
use Rattle.edf_fields.specs.texts.Dates.{NamesDashedDay}
use Rattle.edf_header.specs.signals.Channels.{channels_among}
use Rattle.edf_header.specs.Heads.{SignalHead, Head, day_number, is_annotations, record_bytes}

-- what the standard asks of a signal: digital extremes from -32768 to 32767, in order, and physical ones that differ; a number
-- of samples; of an annotation signal, just these digital extremes (EDF, "Header record"; EDF+, "The 'EDF Annotations' signal",
-- "Additional specifications in EDF+"). That the gain may be negative is this project's profile
pub record IsSoundSignal (head : SignalHead) : Type 0 where
  pub low : neg_ℤ (pos 32768) ≤ℤ head.calibration.digital_minimum
  pub high : head.calibration.digital_maximum ≤ℤ pos 32767
  pub order : head.calibration.digital_minimum <ℤ head.calibration.digital_maximum
  pub differ : head.calibration.physical_minimum ≢ head.calibration.physical_maximum
  pub some_samples : 1 ≤ head.samples
  pub annotations : IsTrue (is_annotations head.label) → (head.calibration.digital_minimum ≡ neg_ℤ (pos 32768)) × (head.calibration.digital_maximum ≡ pos 32767)

-- what a header has to meet: by the standard, that the recording date is the day of the start, or no day, that a signal holds
-- annotations, and that each is sound (EDF, "Header record"; EDF+, "The EDF+ header"); by this project's profile, a data record, a
-- duration above 0, a channel, no two of one label, and data records of 16 MiB at the most
pub record MeetsStandard (h : Head) : Type 0 where
  pub same_day : (n : ℤ) → NamesDashedDay h.recording.date n → n ≡ day_number h.day
  pub some_records : 1 ≤ h.records
  pub some_time : pos 1 ≤ℤ h.duration
  pub annotations : IsTrue (list_any (λ signal. is_annotations signal.label) h.signals)
  pub channel : channels_among h.signals ≢ []
  pub distinct : (s t : ℕ) (x y : SignalHead) → slice_get h.signals s ≡ Some x → slice_get h.signals t ≡ Some y
      → is_annotations x.label ≡ false → x.label ≡ y.label → s ≡ t
  pub signals : All IsSoundSignal h.signals
  pub small_record : record_bytes h ≤ 16777216
