use Rattle.std.proofs.Common.{◌∙◌, ◌++◌, ap, sym}
use Rattle.std.proofs.lemmas.List.{length-map}
use Rattle.edf_verdict.specs.PartsLines.{parts_verdict_line}
use Rattle.edf_explained.proofs.of_parts.run_explained_parts.Goals as goal

pub returns-clause-report : goal.returns-clause-report
returns-clause-report g c = λ original parts sink.
    let size = sym (length-map c.args.parts.now (λ s. g.E.Source.left s.source)) in
    record {
      held = g.K.Sink.held c.put_all.new.sink;
      line = record {
        verdict = c.in_ok-verdict.field-0.verdict;
        under = c.in_ok-verdict.ensures.verdict original parts;
        text_is = c.in_ok-put_all.ensures.bytes sink ∙ ap (λ t. g.K.Sink.held c.args.sink.now ++ t) (c.deref.ensures.value ∙ c.in_ok-line.ensures ∙ ap (λ n. parts_verdict_line n c.in_ok-verdict.field-0.verdict) size);
        outcome_is = c.outcome.ensures;
      };
      sentences = c.in_ok-put_sentences.ensures.appended (c.in_ok-put_all.ensures.honesty sink);
    }
