-- What is said of the way in which reading a whole file stopped.
use Rattle.edf_fields.specs.declared.faults.fault.Fault.{Fault}
use Rattle.edf_header.specs.Stops.{Stops}
use Rattle.edf_header.specs.declared.stop.Stop.{Stop}
use Rattle.edf_header.specs.declared.stop.Stop.TheVariants as stops
use Rattle.edf_stream.specs.records.Readers.{StopsReading}

-- a stop at the header
pub at_header : (P Q : Fault → Type 0) (failed sound : Type 0) (stop : Stop) → ((f : Fault) → P f → Q f) → Stops P failed sound stop → Stops Q failed sound stop
at_header P Q failed sound stops.OutOfMemory faults s = s
at_header P Q failed sound stops.ReadFailed faults s = s
at_header P Q failed sound (stops.Fault f) faults s = (faults f s.0, s.1)

-- a stop at a data record
pub at_record : (P Q : Fault → Type 0) (A B sound : Type 0) (stop : Stop) → ((f : Fault) → P f → Q f × sound) → (A → B) → StopsReading P A stop → Stops Q B sound stop
at_record P Q A B sound stops.OutOfMemory faults failed s = absurd s
at_record P Q A B sound stops.ReadFailed faults failed s = failed s
at_record P Q A B sound (stops.Fault f) faults failed s = faults f s
