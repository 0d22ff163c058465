use Rattle.edf_pace.proofs.walk.TrackFacts.{track-of, track-named, track_missing}
use Rattle.edf_pace.proofs.walk.track.track_of.Goals as goal

pub returns-in-Some-clause-place : goal.returns-in-Some-clause-place
returns-in-Some-clause-place c =
    track-named c.args.index.now c.args.label.now c.in-Some.channel c.of.result c.in-Some.ensures.sound c.in-Some.ensures.there c.in-Some.ensures.named c.of.ensures

pub returns-in-Some-clause-track : goal.returns-in-Some-clause-track
returns-in-Some-clause-track c = track-of c.args.index.now c.in-Some.channel c.of.result c.in-Some.ensures.sound c.in-Some.ensures.there c.of.ensures

pub returns-in-None-clause-place : goal.returns-in-None-clause-place
returns-in-None-clause-place c = track_missing c.args.index.now c.args.label.now c.in-None.ensures.named
