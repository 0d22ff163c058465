use Rattle.std.proofs.Common.{sym, ◌∙◌}
use Rattle.edf_pace.proofs.walk.LayoutFacts.{both_laid}
use Rattle.edf_pace.proofs.walk.layout.room_of_both.Goals as goal

pub returns-then-samples : goal.returns-then-samples
returns-then-samples c =
    let here = c.signals.ensures.signals in
    let there = c.signals-2.ensures.signals in
    both_laid c.args.original.now c.args.export.now c.args.here c.args.there c.index-signals-from.result c.index-signals-from-2.result c.lane_end.result c.requires.here c.requires.there
    (rw (here, c.from.ensures) at c.index-signals-from.is) (rw (there, c.from-2.ensures) at c.index-signals-from-2.is) (sym c.offset.ensures ∙ c.if-offset.true ∙ c.offset-2.ensures) (sym c.samples.ensures ∙ c.if-samples.true ∙ c.samples-then-offset.ensures) c.lane_end.ensures
