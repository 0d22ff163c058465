-- What is said of the way in which reading stopped.
use Rattle.std.proofs.Common.{◌≡◌, Result, Ok, Err, IfErr, sym, subst}
use Rattle.std.specs.Result.{IsErrAnd}
use Rattle.edf_fields.specs.declared.faults.fault.Fault.{Fault}
use Rattle.edf_header.specs.declared.stop.Stop.{Stop}
use Rattle.edf_header.specs.declared.stop.Stop.TheVariants as stops
use Rattle.edf_header.specs.Stops.{Stops}
use Rattle.edf_stream.specs.records.Readers.{StopsReading}

-- the same with less said of a fault
pub stops-weaker : (P Q : Fault → Type 0) (A : Type 0) (stop : Stop) → ((f : Fault) → P f → Q f) → StopsReading P A stop → StopsReading Q A stop
stops-weaker P Q A stops.OutOfMemory weaker s = s
stops-weaker P Q A stops.ReadFailed weaker s = s
stops-weaker P Q A (stops.Fault f) weaker s = weaker f s

-- a stop at a data record, as one of the whole file
pub stops-reading : (P Q : Fault → Type 0) (A B sound : Type 0) (stop : Stop) → ((f : Fault) → P f → Q f × sound) → (A → B) → StopsReading P A stop → Stops Q B sound stop
stops-reading P Q A B sound stops.OutOfMemory faults failed s = absurd s
stops-reading P Q A B sound stops.ReadFailed faults failed s = failed s
stops-reading P Q A B sound (stops.Fault f) faults failed s = faults f s

-- a stop at the header, as one of the whole file
pub stops-first : (P Q : Fault → Type 0) (A sound : Type 0) (stop : Stop) → ((f : Fault) → P f → Q f) → Stops P A sound stop → Stops Q A sound stop
stops-first P Q A sound stops.OutOfMemory faults s = s
stops-first P Q A sound stops.ReadFailed faults s = s
stops-first P Q A sound (stops.Fault f) faults s = (faults f s.0, s.1)

-- what is said of an error that is handed on
pub handed-on : {T E : Type 0} (r : Result T E) (e : E) (P : E → Type 0) → IsErrAnd r (λ x. x ≡ e) → P e → IfErr r P
handed-on (Ok x) e P is p = absurd is
handed-on (Err x) e P is p = subst P (sym is) p

-- a stop behind the header, as one of the whole file
pub stops-behind : (P Q : Fault → Type 0) (A B S T : Type 0) (stop : Stop) → ((f : Fault) → P f → Q f) → (A → B) → (S → T) → Stops P A S stop → Stops Q B T stop
stops-behind P Q A B S T stops.OutOfMemory faults failed sound s = sound s
stops-behind P Q A B S T stops.ReadFailed faults failed sound s = failed s
stops-behind P Q A B S T (stops.Fault f) faults failed sound s = (faults f s.0, sound s.1)
