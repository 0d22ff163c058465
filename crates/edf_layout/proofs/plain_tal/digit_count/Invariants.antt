use Rattle.edf_layout.proofs.lanes.StartBytesFacts.{Counted}
use Rattle.edf_layout.proofs.plain_tal.digit_count.Given as goal

abbrev pub invariant-loop-rest : goal.invariant-loop-rest
invariant-loop-rest l = Counted l.number l.count l.rest

abbrev pub decreases-loop-rest : goal.decreases-loop-rest
decreases-loop-rest l = l.rest
