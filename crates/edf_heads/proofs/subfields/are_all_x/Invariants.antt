use Rattle.std.proofs.Common.{◌≡◌}
use Rattle.std.specs.List.{list_all}
use Rattle.edf_fields.specs.texts.SubfieldsReading.{subfields_left}
use Rattle.edf_heads.specs.Comparisons.{is_x}
use Rattle.edf_heads.proofs.subfields.are_all_x.Given as goal

abbrev pub invariant-loop-subfield : goal.invariant-loop-subfield
invariant-loop-subfield l = list_all is_x (subfields_left l.fn.subfields) ≡ list_all is_x (subfields_left l.subfield-iterator)
