use Rattle.edf_pace.specs.walk.Windows.{sampled}
use Rattle.edf_samples.specs.Stretches.{points_in}
use Rattle.edf_pace.proofs.walk.ShownFacts.{pair_window}
use Rattle.edf_pace.proofs.walk.window.pair_difference.Goals as goal

pub returns-in-Some-Some-clause-value : goal.returns-in-Some-Some-clause-value
returns-in-Some-Some-clause-value c = λ claim clock w so se uncut kept o e ho he.
    pair_window claim (sampled o c.args.original.now.head (clock.original).ps) (sampled e c.args.export.now.head (clock.export).ps) (w.from).ps (w.to).ps c.args.pair c.in-Some-Some.here c.in-Some-Some.there
    _ _ (points_in c.kept_window.result) (points_in c.window.result) c.stretch_difference.result c.in-Some-Some.is-0 c.in-Some-Some.is-1
    c.kept_window.ensures.den c.window.ensures.den (c.kept_window.ensures.value claim (clock.original).ps w so uncut kept o ho) (c.window.ensures.value (clock.export).ps w se e he) c.stretch_difference.ensures.value
