use Rattle.std.proofs.Common.{length}
use Rattle.edf_receipt.proofs.files.+push_parts.Given as goal

abbrev pub decreases-push_parts : goal.decreases-push_parts
decreases-push_parts g l = length l.parts.now
