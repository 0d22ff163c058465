use Rattle.edf_tal.proofs.StartFacts.{starts-at, start-fails, keeps-no-time}
use Rattle.edf_tal.proofs.start.record_start.Goals as goal

pub returns-clause-start : goal.returns-clause-start
returns-clause-start c v = starts-at c.start_in.result c.args.lane.now v c.start_in.ensures.value

pub returns-clause-fault : goal.returns-clause-fault
returns-clause-fault c cause = start-fails c.start_in.result c.args.lane.now cause c.start_in.ensures.value

pub returns-clause-silent : goal.returns-clause-silent
returns-clause-silent c = keeps-no-time c.start_in.result c.args.lane.now c.start_in.ensures.value
