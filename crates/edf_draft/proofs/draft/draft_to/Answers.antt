use Rattle.std.proofs.Common.{subst}
use Rattle.edf_fields.specs.in_out.Sinks.{HoldsPrefix}
use Rattle.std.proofs.lemmas.Result.{err_from_is_err_and}
use Rattle.edf_draft.proofs.AnswerFacts.{none_written}
use Rattle.edf_draft.proofs.draft.draft_to.Goals as goal

pub returns-in_err-answer-clause-part : goal.returns-in_err-answer-clause-part
returns-in_err-answer-clause-part g c =
    let p = err_from_is_err_and c.from_residual.result c.from_residual.ensures.1 in
    rw (p.1, p.2) (λ same original export sink. none_written _ c.in_err-answer.field-0.0 same)

pub returns-in_err-put_all-clause-part : goal.returns-in_err-put_all-clause-part
returns-in_err-put_all-clause-part g c =
    let p = err_from_is_err_and c.from_residual-in_err-put_all.result c.from_residual-in_err-put_all.ensures.1 in
    rw (p.1, p.2) (λ same original export sink. record {
      text = c.in_ok-answer.answer.text.items;
      outcome = c.in_ok-answer.answer.outcome;
      answers = c.in_ok-answer.ensures.answer original export;
      part = subst (HoldsPrefix (g.K.Sink.held c.args.sink.now) (g.K.Sink.held c.put_all.new.sink)) c.deref.ensures.value (c.in_err-put_all.ensures.prefix sink);
    })
