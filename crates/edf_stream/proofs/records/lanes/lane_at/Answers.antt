use Rattle.std.proofs.Common.{length, ap, ◌∙◌}
use Rattle.edf_stream.specs.records.RecordsReading.{numbered_lane}
use Rattle.edf_stream.proofs.records.SignalFacts.{lane_long}
use Rattle.edf_stream.proofs.records.lanes.lane_at.Goals as goal

pub returns-clause-full : goal.returns-clause-full
returns-clause-full c =
    ap length (c.numbered_lane.ensures ∙ ap (λ signals. numbered_lane signals c.args.bytes.now c.args.signal) c.signals.ensures.signals)
    ∙ lane_long c.args.header.now c.args.bytes.now c.args.signal c.signals.ensures.sound c.requires.sized
