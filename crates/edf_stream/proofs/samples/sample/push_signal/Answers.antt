use Rattle.std.proofs.Common.{◌++◌, ◌∙◌, ◌*ℤ◌, pos, ap}
use Rattle.edf_stream.specs.samples.SamplesReading.{lane_samples}
use Rattle.edf_stream.proofs.samples.SampleFacts.{only-channel}
use Rattle.edf_stream.proofs.samples.sample.push_signal.Goals as goal

pub returns-clause-value : goal.returns-clause-value
returns-clause-value c =
    let grid = c.new-grid.result in
    let made = c.new-grid.ensures in
    let signal = c.args.signal.now in
    let lane = c.lane_of.result.now in
    c.in_ok-push_lane.ensures.value ∙ ap (λ xs. c.args.samples.now.items ++ xs)
    (ap (λ n. lane_samples c.args.channel n grid.start grid.step lane) made.den
    ∙ ap (λ a. lane_samples c.args.channel c.samples.result a grid.step lane) made.start
    ∙ ap (λ n. lane_samples c.args.channel n (pos n *ℤ c.args.time.start_ps) grid.step lane) c.samples.ensures
    ∙ ap (λ d. lane_samples c.args.channel signal.samples (pos signal.samples *ℤ c.args.time.start_ps) d lane) made.step
    ∙ ap (lane_samples c.args.channel signal.samples (pos signal.samples *ℤ c.args.time.start_ps) c.args.time.duration_ps) c.lane_of.ensures
    ∙ only-channel c.args.channel c.args.time.start_ps c.args.time.duration_ps signal c.args.bytes.now c.is_annotations.result c.if-is_annotations.false c.is_annotations.ensures)
