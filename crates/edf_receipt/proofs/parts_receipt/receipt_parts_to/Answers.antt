use Rattle.std.proofs.Common.{◌≡◌, ◌++◌, ◌∙◌, ℕ, List, ap, length, subst, sym}
use Rattle.std.proofs.lemmas.List.{length-map}
use Rattle.std.proofs.lemmas.Result.{err_from_is_err_and}
use Rattle.edf_check.specs.Runs.{IsPartsVerdictUnder}
use Rattle.edf_fields.specs.in_out.Sinks.{HoldsPrefix}
use Rattle.edf_fields.specs.in_out.Sources.{Reads}
use Rattle.edf_receipt.specs.ReceiptRuns.{AreDigested, IsPartOfPartsReceipt, IsPartsReceipt}
use Rattle.edf_receipt.specs.Receipts.{files_of, part_lines, receipt}
use Rattle.edf_receipt.specs.declared.file_line.FileLine.{FileLine}
use Rattle.edf_verdict.specs.Outcomes.{outcome_of}
use Rattle.edf_verdict.specs.PartsLines.{parts_verdict_line}
use Rattle.edf_verdict.specs.declared.outcome.Outcome.{Outcome}
use Rattle.edf_verdict.specs.declared.parts_verdict.PartsVerdict.{PartsVerdict}
use Rattle.edf_receipt.proofs.parts_receipt.receipt_parts_to.Goals as goal

-- reads that didn't fail are told the same of
still : (now reads : List Reads) (lefts : List (List ℕ)) → now ≡ reads → AreDigested reads lefts → AreDigested now lefts
still now reads lefts same digested = subst (λ rs. AreDigested rs lefts) (sym same) digested

-- the files and the number of exports are put into the text
told : (version original : List ℕ) (parts : List (List ℕ)) (text written line : List ℕ) (count : ℕ) (files : List FileLine) (verdict : PartsVerdict)
    → files ≡ files_of original (part_lines 0 parts) text → count ≡ length parts → line ≡ parts_verdict_line count verdict → written ≡ receipt version files line
    → written ≡ receipt version (files_of original (part_lines 0 parts) text) (parts_verdict_line (length parts) verdict)
told version original parts text written line count files verdict same size line-is is =
    let lines : line ≡ parts_verdict_line (length parts) verdict = line-is ∙ (λ i. parts_verdict_line (size i) verdict) in
    is ∙ (λ i. receipt version (same i) (lines i))

part_of : (version original : List ℕ) (parts : List (List ℕ)) (text old new written line : List ℕ) (count : ℕ) (files : List FileLine) (verdict : PartsVerdict)
    → IsPartsVerdictUnder original parts text verdict → files ≡ files_of original (part_lines 0 parts) text → count ≡ length parts
    → line ≡ parts_verdict_line count verdict → written ≡ receipt version files line → HoldsPrefix old new written
    → IsPartOfPartsReceipt version original parts text old new
part_of version original parts text old new written line count files verdict under same size line-is is held = record {
  verdict = verdict;
  under = under;
  part = subst (HoldsPrefix old new) (told version original parts text written line count files verdict same size line-is is) held;
}

whole_of : (version original : List ℕ) (parts : List (List ℕ)) (text old new written line : List ℕ) (count : ℕ) (files : List FileLine) (verdict : PartsVerdict)
    → IsPartsVerdictUnder original parts text verdict → files ≡ files_of original (part_lines 0 parts) text → count ≡ length parts
    → line ≡ parts_verdict_line count verdict → written ≡ receipt version files line → (outcome : Outcome) → new ≡ old ++ written → outcome ≡ outcome_of verdict.verdict
    → IsPartsReceipt version original parts text old new outcome
whole_of version original parts text old new written line count files verdict under same size line-is is outcome held outcome-is = record {
  verdict = verdict;
  under = under;
  text_is = held ∙ ap (λ xs. old ++ xs) (told version original parts text written line count files verdict same size line-is is);
  outcome_is = outcome-is;
}

pub returns-in_err-put_all-clause-part : goal.returns-in_err-put_all-clause-part
returns-in_err-put_all-clause-part g c =
    let p = err_from_is_err_and c.from_residual-in_err-put_all.result c.from_residual-in_err-put_all.ensures.1 in
    let reads = c.in_ok-verdict.ensures.failures in
    rw (p.1, p.2) (λ same o es sink.
    part_of c.args.printed.version.now _ _ c.args.printed.claim_text.now (g.K.Sink.held c.args.sink.now) (g.K.Sink.held c.put_all.new.sink) c.deref-3.result.now c.deref-2.result.now
    (length c.args.parts.now) c.deref.result.now c.in_ok-verdict.verdict
    (c.in_ok-verdict.ensures.under o.honest_is es.honest_are)
    (c.deref.ensures.value ∙ c.in_ok-files.ensures.files _ _ (reads.0 ∙ o.digested.0, o.digested.1) (still _ _ _ reads.1 es.digested))
    (sym (length-map c.args.parts.now _)) (c.deref-2.ensures.value ∙ c.in_ok-line.ensures) (c.deref-3.ensures.value ∙ c.in_ok-text.ensures)
    (c.in_err-put_all.ensures.prefix sink))

pub returns-in_err-put_all-clause-front : goal.returns-in_err-put_all-clause-front
returns-in_err-put_all-clause-front g c =
    let p = err_from_is_err_and c.from_residual-in_err-put_all.result c.from_residual-in_err-put_all.ensures.1 in
    let line = c.deref-2.ensures.value ∙ c.in_ok-line.ensures in
    rw (p.1, p.2) (λ same sink. record {
      verdict = (c.deref.result.now, c.in_ok-verdict.verdict);
      under = tt;
      part = subst (HoldsPrefix (g.K.Sink.held c.args.sink.now) (g.K.Sink.held c.put_all.new.sink))
          (c.deref-3.ensures.value ∙ c.in_ok-text.ensures ∙ (λ i. receipt c.args.printed.version.now c.deref.result.now (line i))) (c.in_err-put_all.ensures.prefix sink);
    })

pub returns-clause-receipt : goal.returns-clause-receipt
returns-clause-receipt g c = λ o es sink.
    let reads = c.in_ok-verdict.ensures.failures in
    whole_of c.args.printed.version.now _ _ c.args.printed.claim_text.now (g.K.Sink.held c.args.sink.now) (g.K.Sink.held c.put_all.new.sink) c.deref-3.result.now c.deref-2.result.now
    (length c.args.parts.now) c.deref.result.now c.in_ok-verdict.verdict
    (c.in_ok-verdict.ensures.under o.honest_is es.honest_are)
    (c.deref.ensures.value ∙ c.in_ok-files.ensures.files _ _ (reads.0 ∙ o.digested.0, o.digested.1) (still _ _ _ reads.1 es.digested))
    (sym (length-map c.args.parts.now _)) (c.deref-2.ensures.value ∙ c.in_ok-line.ensures) (c.deref-3.ensures.value ∙ c.in_ok-text.ensures)
    c.outcome.result (c.in_ok-put_all.ensures.bytes sink) c.outcome.ensures
