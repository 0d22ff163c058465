use Rattle.std.proofs.Common.{◌≡◌, length}
use Rattle.edfclaim.proofs.files.fronted_recordings.Given as goal

abbrev pub invariant-loop-path : goal.invariant-loop-path
invariant-loop-path g l = length l.sources.items ≡ l.path-index
