use Rattle.std.proofs.Common.{◌∙◌, sym}
use Rattle.edf_pace.proofs.walk.ShownFacts.{kept_all, kept_none}
use Rattle.edf_pace.proofs.walk.window.kept_window.Goals as goal

pub returns-then-is_kept-clause-value : goal.returns-then-is_kept-clause-value
returns-then-is_kept-clause-value c = λ claim ps w sh uncut kept file covers.
    c.window.ensures.value ps w sh file covers
    ∙ sym (kept_all claim file c.args.reader.now c.args.track.place ps (w.from).ps (w.to).ps covers.conforms (c.requires.track).place uncut (sym kept ∙ c.if-is_kept.true))

pub returns-else-is_kept-clause-value : goal.returns-else-is_kept-clause-value
returns-else-is_kept-clause-value c = λ claim ps w sh uncut kept file covers.
    c.no_samples.ensures.value
    ∙ sym (kept_none claim file c.args.reader.now c.args.track.place ps (w.from).ps (w.to).ps covers.conforms (c.requires.track).place uncut (sym kept ∙ c.if-is_kept.false))
