-- What stands before the first byte 20 of a TAL and says no times.
use Rattle.std.specs.Prelude.{◌≡◌, ℕ, ℤ, List, None, Some, Err, ◌⊎◌}
use Rattle.edf_fields.specs.texts.OnsetsReading.{onset_of}
use Rattle.edf_fields.specs.declared.faults.cause.TalCause.{TalCause}
use Rattle.edf_fields.specs.declared.faults.cause.TalCause.TheVariants.{BadOnset}
use Rattle.edf_tal.specs.Reading.{until, duration_of}

-- no onset stands there, or no duration behind an onset; and the cause
abbrev pub SaysNoTimes : List ℕ → TalCause → Type 0
SaysNoTimes head cause =
    ((onset_of (until 21 head) ≡ None) × (cause ≡ BadOnset))
    ⊎ ((onset : ℤ) × (onset_of (until 21 head) ≡ Some onset) × (duration_of head ≡ Err cause))
