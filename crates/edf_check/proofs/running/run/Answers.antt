use Rattle.std.proofs.Common.{◌∙◌, subst}
use Rattle.std.proofs.lemmas.Result.{err_from_is_err_and}
use Rattle.edf_fields.specs.in_out.Sinks.{HoldsPrefix}
use Rattle.edf_check.proofs.running.run.Goals as goal

pub returns-in_err-put_all-clause-part : goal.returns-in_err-put_all-clause-part
returns-in_err-put_all-clause-part g c =
    let p = err_from_is_err_and c.from_residual-in_err-put_all.result c.from_residual-in_err-put_all.ensures.1 in
    rw (p.1, p.2) (λ same original export sink. record {
      verdict = c.in_ok-verdict.verdict;
      under = c.in_ok-verdict.ensures.under original export;
      part = subst (HoldsPrefix (g.K.Sink.held c.args.sink.now) (g.K.Sink.held c.put_all.new.sink)) (c.deref.ensures.value ∙ c.in_ok-line.ensures) (c.in_err-put_all.ensures.prefix sink);
    })

pub returns-in_err-put_all-clause-front : goal.returns-in_err-put_all-clause-front
returns-in_err-put_all-clause-front g c =
    let p = err_from_is_err_and c.from_residual-in_err-put_all.result c.from_residual-in_err-put_all.ensures.1 in
    rw (p.1, p.2) (λ same sink. record {
      verdict = c.in_ok-verdict.verdict;
      under = tt;
      part = subst (HoldsPrefix (g.K.Sink.held c.args.sink.now) (g.K.Sink.held c.put_all.new.sink)) (c.deref.ensures.value ∙ c.in_ok-line.ensures) (c.in_err-put_all.ensures.prefix sink);
    })
