use Rattle.std.proofs.Common.{◌∙◌, sym}
use Rattle.edf_tal.proofs.TextFacts.{fine_together}
use Rattle.edf_tal.proofs.LaneFacts.{closed-IsUtf8}
use Rattle.edf_tal.proofs.annotation_text.checked.Goals as goal

pub returns-in-Ok-judge_one_by_one : goal.returns-in-Ok-judge_one_by_one
returns-in-Ok-judge_one_by_one c = absurd (c.in-Err.ensures (closed-IsUtf8 c.args.body.now c.requires (sym c.in-Ok-judge_one_by_one.ensures)))

pub returns-in-Ok : goal.returns-in-Ok
returns-in-Ok c = (c.in-Ok.ensures.0, fine_together c.args.body.now c.in-Ok.ensures.1 (sym c.has_foreign.ensures ∙ c.if-not-has_foreign.true))
