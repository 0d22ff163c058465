use Rattle.std.proofs.Common.{◌∙◌, ap, subst, sym}
use Rattle.std.proofs.lemmas.List.{length-map}
use Rattle.std.proofs.lemmas.Result.{err_from_is_err_and}
use Rattle.edf_fields.specs.in_out.Sinks.{HoldsPrefix}
use Rattle.edf_verdict.specs.PartsLines.{parts_verdict_line}
use Rattle.edf_check.proofs.running_parts.run_parts.Goals as goal

pub returns-in_err-put_all-clause-part : goal.returns-in_err-put_all-clause-part
returns-in_err-put_all-clause-part g c =
    let p = err_from_is_err_and c.from_residual-in_err-put_all.result c.from_residual-in_err-put_all.ensures.1 in
    let size = sym (length-map c.args.parts.now g.E.Source.left) in
    rw (p.1, p.2) (λ same original parts sink. record {
      verdict = c.in_ok-verdict.verdict;
      under = c.in_ok-verdict.ensures.under original parts;
      part = subst (HoldsPrefix (g.K.Sink.held c.args.sink.now) (g.K.Sink.held c.put_all.new.sink))
          (c.deref.ensures.value ∙ c.in_ok-line.ensures ∙ ap (λ n. parts_verdict_line n c.in_ok-verdict.verdict) size) (c.in_err-put_all.ensures.prefix sink);
    })

pub returns-in_err-put_all-clause-front : goal.returns-in_err-put_all-clause-front
returns-in_err-put_all-clause-front g c =
    let p = err_from_is_err_and c.from_residual-in_err-put_all.result c.from_residual-in_err-put_all.ensures.1 in
    rw (p.1, p.2) (λ same sink. record {
      verdict = c.in_ok-verdict.verdict;
      under = tt;
      part = subst (HoldsPrefix (g.K.Sink.held c.args.sink.now) (g.K.Sink.held c.put_all.new.sink)) (c.deref.ensures.value ∙ c.in_ok-line.ensures) (c.in_err-put_all.ensures.prefix sink);
    })
