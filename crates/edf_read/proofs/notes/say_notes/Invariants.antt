use Rattle.std.proofs.Common.{length}
use Rattle.edf_read.proofs.notes.say_notes.Given as goal

abbrev pub decreases-loop-left : goal.decreases-loop-left
decreases-loop-left l = length l.left
