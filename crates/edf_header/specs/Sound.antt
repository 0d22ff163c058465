-- What holds of every header that was read and passed its tests.
use Rattle.std.specs.Prelude.{◌≡◌, ◌⊎◌, ◌<◌, ◌^◌, codes, length, unsigned_abs}
use Rattle.std.specs.List.{All}
use Rattle.edf_fields.specs.texts.Identifications.{IsDateOrX}
use Rattle.edf_header.specs.signals.CalibrationLaws.{AreShort}
use Rattle.edf_header.specs.Heads.{SignalHead, Head, day_number, AreSideBySide}
use Rattle.edf_header.specs.Standard.{MeetsStandard}

-- the numbers of a signal, whose fields have 8 bytes: they spell no count of 9 digits
pub record HasShortNumbers (head : SignalHead) : Type 0 where
  pub extremes : AreShort head.calibration
  pub few_samples : head.samples < 10 ^ 8

-- what its numbers are below, since its fields have so many bytes and the calendar so many days
pub record HasBounds (h : Head) : Type 0 where
  pub near : unsigned_abs (day_number h.day) < 5000000
  pub early : h.clock < 86400
  pub few_records : h.records < 10 ^ 8
  pub little_time : unsigned_abs h.duration < 10 ^ 20
  pub few_signals : length h.signals < 10 ^ 4
  pub signals : All HasShortNumbers h.signals

-- a header that passed its tests: it meets the standard, and what follows from its having been read of bytes
pub record IsSound (h : Head) : Type 0 where
  pub standard : MeetsStandard h
  pub bounds : HasBounds h
  pub sex : (h.patient.sex ≡ codes "F") ⊎ (h.patient.sex ≡ codes "M") ⊎ (h.patient.sex ≡ codes "X")
  pub birthdate : IsDateOrX h.patient.birthdate
  pub date : IsDateOrX h.recording.date
  pub offsets : AreSideBySide 0 h.signals
