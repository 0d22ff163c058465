use Rattle.edf_samples.specs.Stretches.{points_in}
use Rattle.edf_pace.specs.walk.Windows.{sampled}
use Rattle.edf_pace.proofs.walk.watchers.CountFacts.{pair_counted}
use Rattle.edf_pace.proofs.walk.watchers.counts.count_unmet.Goals as goal

pub returns : goal.returns
returns c = λ claim clock w so se uncut kept o e ho he.
    let r = c.args.files.original.now in
    let s = c.args.files.export.now in
    let here = c.args.tracks.0 in
    let there = c.args.tracks.1 in
    pair_counted claim (sampled o r.head (clock.original).ps) (sampled e s.head (clock.export).ps) (w.from).ps (w.to).ps here.place there.place
    _ _ (points_in c.kept_window-x.result) (points_in c.window-y.result) c.args.tally.now c.count_differences.new.tally c.kept_window-x.ensures.den c.window-y.ensures.den
    (c.kept_window-x.ensures.value claim (clock.original).ps w so uncut kept o ho) (c.window-y.ensures.value (clock.export).ps w se e he) c.count_differences.ensures
