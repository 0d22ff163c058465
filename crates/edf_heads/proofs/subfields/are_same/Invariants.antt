use Rattle.std.proofs.Common.{◌≡◌}
use Rattle.edf_fields.specs.texts.SubfieldsReading.{subfields_left}
use Rattle.edf_heads.specs.Comparisons.{are_same}
use Rattle.edf_heads.proofs.subfields.are_same.Given as goal

abbrev pub invariant-loop-subfield : goal.invariant-loop-subfield
invariant-loop-subfield l =
    are_same (subfields_left l.fn.subfields) (subfields_left l.fn.others) ≡ are_same (subfields_left l.subfield-iterator) (subfields_left l.others)
