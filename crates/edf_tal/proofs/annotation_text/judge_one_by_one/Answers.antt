use Rattle.std.proofs.Common.{sym, ap, ◌∙◌}
use Rattle.edf_tal.specs.Reading.{judge_texts}
use Rattle.edf_tal.proofs.annotation_text.judge_one_by_one.Goals as goal

pub returns : goal.returns
returns c = sym (sym c.loop-text.invariant ∙ ap judge_texts c.in_default.ensures)
