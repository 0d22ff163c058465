use Rattle.std.proofs.Common.{◌≡◌, ◌*◌, ◌++◌, ◌+ℤ◌, ◌*ℤ◌, pos, drop}
use Rattle.std.specs.List.{All}
use Rattle.edf_stream.specs.times.InstantOrder.{IsSmall}
use Rattle.edf_stream.specs.samples.SamplesReading.{lane_samples}
use Rattle.edf_stream.proofs.samples.sample.push_lane.Given as goal

abbrev pub invariant-loop-place : goal.invariant-loop-place
invariant-loop-place l = record {
  value : l.samples.items ++ lane_samples l.fn.channel (l.fn.grid).den ((l.fn.grid).start +ℤ (pos l.place *ℤ (l.fn.grid).step)) (l.fn.grid).step (drop (2 * l.place) l.lane)
      ≡ l.initial.samples.items ++ lane_samples l.fn.channel (l.fn.grid).den (l.fn.grid).start (l.fn.grid).step l.lane;
  small : All (λ x. IsSmall x.instant) l.samples.items;
}
