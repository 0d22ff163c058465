use Rattle.edf_pace.specs.walk.Windows.{sampled}
use Rattle.edf_pace.proofs.walk.watchers.CountFacts.{none_here, none_there, tracks_counted}
use Rattle.edf_pace.proofs.walk.watchers.counts.count_pair.Goals as goal

pub returns-in-Some-Some : goal.returns-in-Some-Some
returns-in-Some-Some c = λ claim clock w so se uncut kept o e ho he.
    tracks_counted claim (sampled o c.args.files.original.now.head (clock.original).ps) (sampled e c.args.files.export.now.head (clock.export).ps) (w.from).ps (w.to).ps c.args.pair c.in-Some-Some.here c.in-Some-Some.there
    c.args.tally.now c.count_tracks.new.tally c.in-Some-Some.is-0 c.in-Some-Some.is-1 (c.count_tracks.ensures claim clock w so se uncut kept o e ho he)

pub returns-in-Some-None : goal.returns-in-Some-None
returns-in-Some-None c = λ claim clock w so se uncut kept o e ho he.
    none_there claim (sampled o c.args.files.original.now.head (clock.original).ps) (sampled e c.args.files.export.now.head (clock.export).ps) (w.from).ps (w.to).ps c.args.pair c.in-Some-None.field-0-0 c.args.tally.now c.in-Some-None.is-0 c.in-Some-None.is-1

pub returns-in-None-default : goal.returns-in-None-default
returns-in-None-default c = λ claim clock w so se uncut kept o e ho he.
    none_here claim (sampled o c.args.files.original.now.head (clock.original).ps) (sampled e c.args.files.export.now.head (clock.export).ps) (w.from).ps (w.to).ps c.args.pair c.args.tally.now c.in-None-default.is-0
