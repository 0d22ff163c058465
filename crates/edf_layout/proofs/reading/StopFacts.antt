-- What is said of the way in which reading a file stopped.
use Rattle.std.proofs.Common.{◌≡◌, Result, Ok, Err, IfErr, sym, subst}
use Rattle.std.specs.Result.{IsErrAnd}
use Rattle.edf_fields.specs.declared.faults.fault.Fault.{Fault}
use Rattle.edf_header.specs.declared.stop.Stop.{Stop}
use Rattle.edf_header.specs.declared.stop.Stop.TheVariants as stops
use Rattle.edf_header.specs.Stops.{Stops}
use Rattle.edf_stream.specs.records.Readers.{StopsReading}

-- a stop at a data record, as one of all of them
pub stops-reading : (P Q : Fault → Type 0) (A B sound : Type 0) (stop : Stop) → ((f : Fault) → P f → Q f × sound) → (A → B) → StopsReading P A stop → Stops Q B sound stop
stops-reading P Q A B sound stops.OutOfMemory faults failed s = absurd s
stops-reading P Q A B sound stops.ReadFailed faults failed s = failed s
stops-reading P Q A B sound (stops.Fault f) faults failed s = faults f s

-- what is said of an error that is handed on
pub handed-on : {T E : Type 0} (r : Result T E) (e : E) (P : E → Type 0) → IsErrAnd r (λ x. x ≡ e) → P e → IfErr r P
handed-on (Ok x) e P is p = absurd is
handed-on (Err x) e P is p = subst P (sym is) p
