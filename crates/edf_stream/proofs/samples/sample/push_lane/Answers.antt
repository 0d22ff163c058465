use Rattle.std.proofs.Common.{◌<◌, ◌+◌, ◌*◌, length, arith}
use Rattle.edf_stream.specs.times.InstantOrder.{IsSmall}
use Rattle.edf_stream.proofs.ListFacts.{all-more}
use Rattle.edf_stream.proofs.samples.SampleFacts.{lane-more, lane-all}
use Rattle.edf_stream.proofs.samples.sample.push_lane.Goals as goal

pub loop-place-preserved : goal.loop-place-preserved
loop-place-preserved c =
    let lane = c.args.lane.now in
    let x = c.sample_at.result in
    let found = c.loop-place.samples.items in
    let pushed = c.in_ok-push.ensures.items in
    let made = c.sample_at.ensures in
    let lt : 2 * c.loop-place.place + 1 < length lane = omega arith in
    record {
      value = lane-more c.args.samples.now.items found c.push.new.self.items c.args.channel c.args.grid lane c.loop-place.place x lt made.channel made.instant made.value pushed c.loop-place.invariant.value;
      small = all-more (λ y. IsSmall y.instant) found x c.push.new.self.items pushed c.loop-place.invariant.small made.small;
    }

pub returns-clause-value : goal.returns-clause-value
returns-clause-value c =
    lane-all c.args.samples.now.items c.loop-place.samples.items c.args.channel c.args.grid c.args.lane.now c.loop-place.place c.loop-place-test.false c.loop-place.invariant.value
