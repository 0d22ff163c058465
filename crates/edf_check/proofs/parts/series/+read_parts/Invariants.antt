use Rattle.std.proofs.Common.{length}
use Rattle.edf_check.proofs.parts.series.+read_parts.Given as goal

abbrev pub decreases-read_parts : goal.decreases-read_parts
decreases-read_parts g l = length l.others.now
