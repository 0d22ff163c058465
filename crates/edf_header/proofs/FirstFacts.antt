-- The first fault of lists of tests.
use Rattle.edf_fields.specs.declared.faults.fault.Fault.{Fault}
use Rattle.edf_header.specs.declared.stop.Stop.{Stop}
use Rattle.edf_header.specs.declared.stop.Stop.TheVariants as stops
use Rattle.edf_header.specs.Stops.{Stops}

-- what is said of each way to stop may be weakened
pub stops-weaker : (P Q : Fault → Type 0) (A B C D : Type 0) → ((f : Fault) → P f → Q f) → (A → B) → (C → D) → (e : Stop) → Stops P A C e → Stops Q B D e
stops-weaker P Q A B C D faults failed sound stops.OutOfMemory h = sound h
stops-weaker P Q A B C D faults failed sound stops.ReadFailed h = failed h
stops-weaker P Q A B C D faults failed sound (stops.Fault f) h = (faults f h.0, sound h.1)
