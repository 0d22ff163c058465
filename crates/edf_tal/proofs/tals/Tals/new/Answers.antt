use Rattle.edf_tal.proofs.LawFacts.{lane-spelled}
use Rattle.edf_tal.proofs.ReadFacts.{lane-read}
use Rattle.edf_tal.proofs.FaultFacts.{fault-read, fault-told}
use Rattle.edf_tal.proofs.tals.Tals.new.Goals as goal

pub returns-clause-grammar : goal.returns-clause-grammar
returns-clause-grammar c tals = (lane-read tals c.args.lane.now, lane-spelled tals c.args.lane.now)

pub returns-clause-fault : goal.returns-clause-fault
returns-clause-fault c tals cause = (fault-read tals cause c.args.lane.now, fault-told tals cause c.args.lane.now)
