use Rattle.std.proofs.Common.{◌≡◌, map, drop}
use Rattle.std.specs.List.{list_all}
use Rattle.edf_claim.specs.Reading.{is_label}
use Rattle.edf_claim.proofs.reading.channels.are_labels.Given as goal

abbrev pub invariant-loop-text : goal.invariant-loop-text
invariant-loop-text l = list_all is_label (map (λ t. t.now) l.texts) ≡ list_all is_label (map (λ t. t.now) (drop l.text-index l.texts))
