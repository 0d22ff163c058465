use Rattle.std.proofs.Common.{[], ◌∷◌, ◌++◌, ◌∙◌}
use Rattle.edf_receipt.specs.Receipts.{line_of, part_lines}
use Rattle.edf_receipt.specs.declared.file_line.ReceiptFile.TheVariants.{Claim}
use Rattle.edf_receipt.proofs.files.files_of_parts.Goals as goal

pub returns-clause-files : goal.returns-clause-files
returns-clause-files g c = λ first wholes o each.
    let p = c.in-Ok.ensures.line first o in
    let q = c.in_ok-push_parts.ensures.files wholes each in
    let r = c.claim_line.ensures in
    let claim = line_of Claim c.args.claim_text.now in
    c.in_ok-push-2.ensures.items
    ∙ (λ i. q i ++ (r i ∷ []))
    ∙ (λ i. (c.in_ok-push.ensures.items i ++ part_lines 0 wholes) ++ (claim ∷ []))
    ∙ (λ i. ((c.in_ok-files.ensures.items i ++ (p i ∷ [])) ++ part_lines 0 wholes) ++ (claim ∷ []))
