use Rattle.std.proofs.Common.{◌∷◌, [], ◌∙◌, ap, sym, subst}
use Rattle.edf_draft.specs.Answers.{IsAnswer, IsOneReadOf, IsReadOf}
use Rattle.edf_draft.specs.FirstLines.{IsTrueOfYes}
use Rattle.edf_recording.specs.declared.recorded.Recorded.{Recorded}
use Rattle.edf_draft.proofs.answer.draft_answer.Goals as goal

pub returns-clause-answer : goal.returns-clause-answer
returns-clause-answer g c = λ o e first second.
    let exported = c.of_one-exported.result in
    let together = c.of_one-exported.ensures.together in
    let one : IsOneReadOf e exported = record { alone = c.of_one-exported.ensures.alone ∙ ap (λ (r : Recorded). (r.reader).head ∷ []) (sym together); read = subst (IsReadOf e) (sym together) second } in
    subst (λ again. IsAnswer again o e c.in_ok-answer.answer.text.items c.in_ok-answer.answer.outcome) c.new-trial.ensures (c.in_ok-answer.ensures.answer o e first one)

pub returns-clause-first : goal.returns-clause-first
returns-clause-first g c = subst (λ again. IsTrueOfYes again c.in_ok-answer.answer.text.items) c.new-trial.ensures c.in_ok-answer.ensures.first
