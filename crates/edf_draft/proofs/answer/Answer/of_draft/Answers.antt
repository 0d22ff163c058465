use Rattle.std.proofs.Common.{IfSome, subst, ◌∙◌}
use Rattle.edf_draft.specs.Answers.{IsTextOf}
use Rattle.edf_draft.specs.FirstLines.{IsTrueOfYes}
use Rattle.edf_draft.proofs.AnswerFacts.{draft_answers, none_answers}
use Rattle.edf_draft.proofs.FirstLineFacts.{none_is_true}
use Rattle.edf_draft.proofs.answer.Answer.of_draft.Goals as goal

pub returns-in-Some-clause-answer : goal.returns-in-Some-clause-answer
returns-in-Some-clause-answer g c = λ o e first second.
    let again = g.T.Trial.files c.args.trial.now in
    draft_answers again o e c.in-Some.text.items c.args.original.now c.args.export.now first second
    (subst (λ f. IfSome f (λ t. IsTextOf again c.args.original.now c.args.export.now t.items)) c.in-Some.is c.in_ok-text.ensures.text)

pub returns-in-Some-clause-first : goal.returns-in-Some-clause-first
returns-in-Some-clause-first g c =
    let again = g.T.Trial.files c.args.trial.now in
    subst (λ f. IfSome f (λ t. IsTrueOfYes again t.items)) c.in-Some.is c.in_ok-text.ensures.first

pub returns-in_ok-from_slice-in-None-clause-answer : goal.returns-in_ok-from_slice-in-None-clause-answer
returns-in_ok-from_slice-in-None-clause-answer g c = λ o e first second.
    none_answers (g.T.Trial.files c.args.trial.now)
    o e c.in_ok-from_slice-in-None.field-0.items c.args.original.now c.args.export.now (c.in_ok-from_slice-in-None.ensures.items ∙ c.as_bytes.ensures.value) first second

pub returns-in_ok-from_slice-in-None-clause-first : goal.returns-in_ok-from_slice-in-None-clause-first
returns-in_ok-from_slice-in-None-clause-first g c =
    none_is_true (g.T.Trial.files c.args.trial.now)
    c.in_ok-from_slice-in-None.field-0.items (c.in_ok-from_slice-in-None.ensures.items ∙ c.as_bytes.ensures.value)
