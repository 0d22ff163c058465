use Rattle.std.proofs.Common.{◌≡◌, map, take, drop, true}
use Rattle.std.specs.List.{list_all}
use Rattle.edf_claim.specs.Reading.{is_label}
use Rattle.edf_claim.proofs.reading.channels.labels_of.Given as goal

abbrev pub invariant-loop-text : goal.invariant-loop-text
invariant-loop-text l = record {
  found : l.labels.items ≡ map (λ t. t.now) (take l.text-index l.texts);
  left : list_all is_label (map (λ t. t.now) (drop l.text-index l.texts)) ≡ true;
}
