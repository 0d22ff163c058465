use Rattle.std.proofs.Common.{◌≡◌, map, take}
use Rattle.edf_pace.specs.walk.Columns.{channel_at as channel_in}
use Rattle.edf_pace.specs.walk.Pairs.{ArePairs, places_of}
use Rattle.edf_pace.proofs.walk.track.pairs_among.Given as goal

abbrev pub invariant-loop-label : goal.invariant-loop-label
invariant-loop-label l = record {
  places : map places_of l.pairs.items ≡ map (λ label. (channel_in label.now l.originals, channel_in label.now l.exports)) (take l.label-index l.labels);
  pairs : ArePairs l.originals l.exports l.pairs.items;
}
