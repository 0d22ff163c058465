-- Why a check, a run of it or a report stops before its end.
use Rattle.edf_claim.specs.declared.stop.ClaimStop.{ClaimStop}
use Rattle.edf_claim.specs.declared.stop.ClaimStop.TheVariants as claims
use Rattle.edf_stop.specs.declared.stops.CheckStop.{CheckStop}
use Rattle.edf_stop.specs.declared.stops.CheckStop.TheVariants as checks
use Rattle.edf_stop.specs.declared.parts_stops.PartsRunStop.{PartsRunStop}
use Rattle.edf_stop.specs.declared.parts_stops.PartsRunStop.TheVariants as parts_runs
use Rattle.edf_stop.specs.declared.parts_stops.PartsStop.{PartsStop}
use Rattle.edf_stop.specs.declared.parts_stops.PartsStop.TheVariants as parts
use Rattle.edf_stop.specs.declared.stops.ReportStop.{ReportStop}
use Rattle.edf_stop.specs.declared.stops.ReportStop.TheVariants as reports
use Rattle.edf_stop.specs.declared.stops.RunStop.{RunStop}
use Rattle.edf_stop.specs.declared.stops.RunStop.TheVariants.{OutOfMemory, ReadFailed, Claim}

-- how a run stops over a refused claim: by its cause, but for want of memory
abbrev pub stop_of_claim : ClaimStop → RunStop
stop_of_claim claims.OutOfMemory = OutOfMemory
stop_of_claim cause = Claim cause

-- how a run stops over a check that stops: in the same way
abbrev pub stop_of_check : CheckStop → RunStop
stop_of_check checks.OutOfMemory = OutOfMemory
stop_of_check (checks.ReadFailed side) = ReadFailed side

-- the same of a run over several exports
abbrev pub parts_stop_of_check : PartsStop → PartsRunStop
parts_stop_of_check parts.OutOfMemory = parts_runs.OutOfMemory
parts_stop_of_check (parts.ReadFailed side) = parts_runs.ReadFailed side

-- of a failed read the first is said, of a failed write the second, and of want of memory the last: that no read failed
abbrev pub ReportStops : Type 0 → Type 0 → Type 0 → ReportStop → Type 0
ReportStops read written none reports.OutOfMemory = none
ReportStops read written none reports.ReadFailed = read
ReportStops read written none reports.WriteFailed = written
