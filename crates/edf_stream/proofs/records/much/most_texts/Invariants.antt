use Rattle.std.proofs.Common.{◌+◌, ◌-◌, ◌≤◌, length}
use Rattle.edf_stream.proofs.records.much.most_texts.Given as goal

abbrev pub invariant-loop-place : goal.invariant-loop-place
invariant-loop-place l = l.place ≤ length l.lane

abbrev pub decreases-loop-place : goal.decreases-loop-place
decreases-loop-place l = length l.lane + 1 - l.place
