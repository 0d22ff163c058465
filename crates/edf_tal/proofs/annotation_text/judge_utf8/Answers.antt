use Rattle.std.proofs.Common.{sym, ap, ◌∙◌}
use Rattle.std.specs.List.{list_any}
use Rattle.edf_tal.specs.Reading.{judge_texts, is_control}
use Rattle.edf_tal.proofs.TextFacts.{has_control, is_fine, judged-bad, judged-more}
use Rattle.edf_tal.proofs.annotation_text.judge_utf8.Goals as goal

pub returns-then-has_control : goal.returns-then-has_control
returns-then-has_control c =
    let utf8 = rw c.as_bytes.ensures.value at c.as_bytes.ensures.utf8 in
    let bad = ap (list_any is_control) (sym c.as_bytes.ensures.value) ∙ sym c.has_control.ensures ∙ c.if-has_control.true in
    sym (sym c.loop-text.invariant ∙ ap judge_texts c.in-Some.ensures.steps ∙ judged-bad _ _ _ (has_control _ utf8 bad))

pub loop-text-preserved : goal.loop-text-preserved
loop-text-preserved c =
    let utf8 = rw c.as_bytes.ensures.value at c.as_bytes.ensures.utf8 in
    let good = ap (list_any is_control) (sym c.as_bytes.ensures.value) ∙ sym c.has_control.ensures ∙ c.if-has_control.false in
    sym (ap judge_texts c.in-Some.ensures.steps ∙ judged-more _ _ (is_fine _ utf8 good)) ∙ c.loop-text.invariant
