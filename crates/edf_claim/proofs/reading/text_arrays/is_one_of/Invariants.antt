use Rattle.std.proofs.Common.{◌≡◌, drop}
use Rattle.edf_fields.specs.Lists.{is_one_of}
use Rattle.edf_claim.proofs.reading.text_arrays.is_one_of.Given as goal

abbrev pub invariant-loop-other : goal.invariant-loop-other
invariant-loop-other l = is_one_of l.labels l.text ≡ is_one_of (drop l.other-index l.labels) l.text
