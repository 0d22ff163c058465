use Rattle.std.proofs.Common.{length}
use Rattle.edf_draft.proofs.hidden.+is_hidden_in_all.Given as goal

abbrev pub decreases-is_hidden_in_all : goal.decreases-is_hidden_in_all
decreases-is_hidden_in_all l = length l.others.now
