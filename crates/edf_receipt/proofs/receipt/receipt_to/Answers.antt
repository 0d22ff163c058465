use Rattle.std.proofs.Common.{◌∙◌, subst}
use Rattle.std.proofs.lemmas.Result.{err_from_is_err_and}
use Rattle.edf_fields.specs.in_out.Sinks.{HoldsPrefix}
use Rattle.edf_receipt.specs.Receipts.{receipt}
use Rattle.edf_receipt.proofs.receipt.receipt_to.Goals as goal

pub returns-in_err-put_all-clause-part : goal.returns-in_err-put_all-clause-part
returns-in_err-put_all-clause-part g c =
    let p = err_from_is_err_and c.from_residual-in_err-put_all.result c.from_residual-in_err-put_all.ensures.1 in
    let reads = c.in_ok-verdict.ensures.failures in
    let line = c.deref.ensures.value ∙ c.in_ok-line.ensures in
    rw (p.1, p.2) (λ same o e sink.
    let files = c.in_ok-files.ensures.files _ _ (reads.0 ∙ o.digested.0, o.digested.1) (reads.1 ∙ e.digested.0, e.digested.1) in
    record {
      verdict = c.in_ok-verdict.verdict;
      under = c.in_ok-verdict.ensures.under o.honest_is e.honest_is;
      part = subst (HoldsPrefix (g.K.Sink.held c.args.sink.now) (g.K.Sink.held c.put_all.new.sink))
          (c.deref-2.ensures.value ∙ c.in_ok-text.ensures ∙ (λ i. receipt c.args.printed.version.now (files i) (line i))) (c.in_err-put_all.ensures.prefix sink);
    })

pub returns-in_err-put_all-clause-front : goal.returns-in_err-put_all-clause-front
returns-in_err-put_all-clause-front g c =
    let p = err_from_is_err_and c.from_residual-in_err-put_all.result c.from_residual-in_err-put_all.ensures.1 in
    let line = c.deref.ensures.value ∙ c.in_ok-line.ensures in
    rw (p.1, p.2) (λ same sink. record {
      verdict = (c.in_ok-files.files, c.in_ok-verdict.verdict);
      under = tt;
      part = subst (HoldsPrefix (g.K.Sink.held c.args.sink.now) (g.K.Sink.held c.put_all.new.sink))
          (c.deref-2.ensures.value ∙ c.in_ok-text.ensures ∙ (λ i. receipt c.args.printed.version.now c.in_ok-files.files (line i))) (c.in_err-put_all.ensures.prefix sink);
    })
