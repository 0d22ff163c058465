use Rattle.std.proofs.Common.{subst}
use Rattle.edf_draft.specs.FirstLines.{IsTrueOfYes, anew_parts}
use Rattle.edf_draft.proofs.parts_answer.answer_of_parts.Goals as goal

pub returns-in-Ok-Err-clause-first : goal.returns-in-Ok-Err-clause-first
returns-in-Ok-Err-clause-first g c =
    let again = c.args.again.now in
    c.in_ok-of_fault-in-Ok-Err.ensures.first (anew_parts (g.R.PartsRecordings.are_honest again) (g.R.PartsRecordings.original again) (g.R.PartsRecordings.exports again))

pub returns-clause-first : goal.returns-clause-first
returns-clause-first g c = subst (λ again. IsTrueOfYes again c.in_ok-of_exports.field-0.text.items) c.new-trial.ensures c.in_ok-of_exports.ensures.first
