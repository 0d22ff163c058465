use Rattle.std.proofs.Common.{◌↔◌, drop}
use Rattle.edf_fields.specs.Lists.{Has}
use Rattle.edf_claim.proofs.kept.claim.is_among.Given as goal

abbrev pub invariant-loop-other : goal.invariant-loop-other
invariant-loop-other l = Has l.whiches l.which ↔ Has (drop l.other-index l.whiches) l.which
