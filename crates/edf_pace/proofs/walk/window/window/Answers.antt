use Rattle.std.proofs.Common.{◌∙◌, sym}
use Rattle.edf_pace.proofs.walk.ShownFacts.{covers_nothing}
use Rattle.edf_pace.proofs.walk.window.window.Goals as goal

pub returns-then-has_current-clause-value : goal.returns-then-has_current-clause-value
returns-then-has_current-clause-value c = c.shown.ensures.value

pub returns-else-has_current-clause-value : goal.returns-else-has_current-clause-value
returns-else-has_current-clause-value c = λ ps w sh file covers.
    c.no_samples.ensures.value ∙ sym (covers_nothing c.args.reader.now file c.args.track.place ps (w.from).ps (w.to).ps (c.requires.track).place covers (sym c.has_current.ensures ∙ c.if-has_current.false))
