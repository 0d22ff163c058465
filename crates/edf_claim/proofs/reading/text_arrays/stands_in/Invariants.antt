use Rattle.std.proofs.Common.{◌≡◌, map, drop}
use Rattle.edf_fields.specs.Lists.{is_one_of}
use Rattle.edf_claim.proofs.reading.text_arrays.stands_in.Given as goal

abbrev pub invariant-loop-other : goal.invariant-loop-other
invariant-loop-other l = is_one_of (map (λ t. t.now) l.texts) l.text ≡ is_one_of (map (λ t. t.now) (drop l.other-index l.texts)) l.text
