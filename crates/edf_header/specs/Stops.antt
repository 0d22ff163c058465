-- What is said of the way in which reading a file stopped.
use Rattle.edf_fields.specs.declared.faults.fault.Fault.{Fault}
use Rattle.edf_header.specs.declared.stop.Stop.{Stop}
use Rattle.edf_header.specs.declared.stop.Stop.TheVariants as stops

-- of a fault this is said, and of a failed read that; where no read failed, the third holds besides
abbrev pub Stops : (Fault → Type 0) → Type 0 → Type 0 → Stop → Type 0
Stops faults failed sound stops.OutOfMemory = sound
Stops faults failed sound stops.ReadFailed = failed
Stops faults failed sound (stops.Fault fault) = faults fault × sound
