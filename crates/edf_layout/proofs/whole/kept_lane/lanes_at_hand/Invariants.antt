use Rattle.edf_layout.proofs.reading.KeptFacts.{KeptOf}
use Rattle.edf_layout.proofs.whole.kept_lane.lanes_at_hand.Given as goal

abbrev pub invariant-loop-number : goal.invariant-loop-number
invariant-loop-number l = KeptOf l.signals (l.reader).current l.fn.start l.number l.count l.lanes.items
