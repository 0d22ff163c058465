use Rattle.std.proofs.Common.{length}
use Rattle.edf_draft.proofs.parts_answer.+read_exports.Given as goal

abbrev pub decreases-read_exports : goal.decreases-read_exports
decreases-read_exports g l = length l.parts.now
