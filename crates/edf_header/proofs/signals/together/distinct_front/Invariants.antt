use Rattle.std.proofs.Common.{◌≤◌, ◌-◌, length, take, IsTrue}
use Rattle.edf_fields.specs.Distinct.{are_distinct}
use Rattle.edf_header.specs.signals.Channels.{channel_labels}
use Rattle.edf_header.proofs.signals.together.distinct_front.Given as goal

abbrev pub invariant-loop-low : goal.invariant-loop-low
invariant-loop-low l = record {
  order : l.low ≤ l.high;
  within : l.high ≤ length l.signals;
  distinct : IsTrue (are_distinct (channel_labels (take l.low l.signals)));
}

abbrev pub decreases-loop-low : goal.decreases-loop-low
decreases-loop-low l = l.high - l.low
