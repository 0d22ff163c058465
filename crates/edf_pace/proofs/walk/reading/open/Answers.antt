use Rattle.std.proofs.Common.{Some, ◌∙◌, ap, sym}
use Rattle.edf_pace.proofs.walk.FileFacts.{header_fault_first}
use Rattle.edf_pace.proofs.walk.reading.open.Goals as goal

pub returns-in-Err-Fault-clause-fault : goal.returns-in-Err-Fault-clause-fault
returns-in-Err-Fault-clause-fault g c = λ h.
    let stop = rw c.in-Err-Fault.field-0-is at c.in-Err-Fault.ensures.stop in
    header_fault_first (g.S.Source.left c.args.source.now) _ (stop.0 h ∙ ap Some (sym c.in-Err-Fault.fault-is))
