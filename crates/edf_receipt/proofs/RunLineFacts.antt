-- What a run writes is the last line of a receipt.
use Rattle.std.proofs.Common.{◌≡◌, ℕ, List, [], ◌∷◌, ◌++◌, length, append-nil, Some, unwrap_or, sym, ap, ◌∙◌, append_assoc, subst}
use Rattle.std.specs.List.{flat_map}
use Rattle.edf_check.specs.Laws.{OneVerdict, OneVerdictOnParts}
use Rattle.edf_check.specs.Runs.{IsPartsVerdictUnder, IsVerdictUnder, IsWritten}
use Rattle.edf_check.specs.parts.PartsVerdicts.{IsPartsVerdict}
use Rattle.edf_check.specs.Verdicts.{IsVerdict}
use Rattle.edf_claim.specs.Claims.{SaysClaim, SaysClaimText, SaysOneClaim}
use Rattle.edf_claim.specs.ClaimValues.{ClaimValue}
use Rattle.edf_receipt.specs.Laws.{EndsInLine, PartsRunIsLastLine, RunIsLastLine}
use Rattle.edf_receipt.specs.Receipts.{file_line, file_words, files_of, line_of, part_lines, receipt, version_line}
use Rattle.edf_receipt.specs.declared.file_line.FileLine.{FileLine}
use Rattle.edf_receipt.specs.declared.file_line.ReceiptFile.TheVariants.{Original, Export, Claim}
use Rattle.edf_verdict.specs.declared.outcome.Outcome.{Outcome}
use Rattle.edf_verdict.specs.declared.parts_verdict.PartsVerdict.{PartsVerdict}
use Rattle.edf_verdict.specs.declared.verdict.Verdict.{Verdict}
use Rattle.edf_verdict.specs.Lines.{verdict_line}
use Rattle.edf_verdict.specs.Outcomes.{outcome_of}
use Rattle.edf_verdict.specs.PartsLines.{parts_verdict_line}

same_in : {A : Type 0} → (a b : A) → Some a ≡ Some b → a ≡ b
same_in a b e = ap (λ o. unwrap_or o a) e

-- one text says one claim
one_claim : SaysOneClaim → (text : List ℕ) (a b : ClaimValue) → SaysClaimText text a → SaysClaimText text b → a ≡ b
one_claim claims text a b s t =
    let entries = same_in s.entries t.entries (sym s.parsed ∙ t.parsed) in
    claims t.entries a b (subst (λ e. SaysClaim e a) entries s.says) t.says

-- the lines of files end in an end
ends : (files : List FileLine) (last : FileLine) (line : List ℕ) → flat_map file_line (files ++ (last ∷ [])) ++ line ≡ ((flat_map file_line files ++ file_words last) ++ (10 ∷ [])) ++ line
ends [] last line = ap (λ l. l ++ line) (append-nil (file_line last))
ends (f ∷ fs) last line =
    append_assoc (file_line f) (flat_map file_line (fs ++ (last ∷ []))) line
    ∙ ap (λ l. file_line f ++ l) (ends fs last line)
    ∙ sym (append_assoc (file_line f) ((flat_map file_line fs ++ file_words last) ++ (10 ∷ [])) line)
    ∙ ap (λ l. l ++ line) (sym (append_assoc (file_line f) (flat_map file_line fs ++ file_words last) (10 ∷ [])) ∙ ap (λ l. l ++ (10 ∷ [])) (sym (append_assoc (file_line f) (flat_map file_line fs) (file_words last))))

behind : (version : List ℕ) (files : List FileLine) (last : FileLine) (line : List ℕ) → EndsInLine (receipt version (files ++ (last ∷ [])) line) line
behind version files last line =
    let front = flat_map file_line files ++ file_words last in (
      version_line version ++ front,
      ap (λ l. version_line version ++ l) (ends files last line) ∙ sym (append_assoc (version_line version) (front ++ (10 ∷ [])) line)
          ∙ ap (λ l. l ++ line) (sym (append_assoc (version_line version) front (10 ∷ []))),
    )

-- what a run writes of the one such verdict is the last line of a receipt with it
last : (V : Type 0) (IsSuch : V → Type 0) (said : V → List ℕ) (meant : V → Outcome) (version original : List ℕ) (exports : List FileLine)
    (text line written : List ℕ) (outcome other : Outcome) → ((v w : V) → IsSuch v → IsSuch w → v ≡ w)
    → IsWritten V IsSuch said meant [] line outcome → IsWritten V IsSuch (λ v. receipt version (files_of original exports text) (said v)) meant [] written other
    → EndsInLine written line × (other ≡ outcome)
last V IsSuch said meant version original exports text line written outcome other one a b =
    let same = one a.verdict b.verdict a.under b.under in
    let line-is : line ≡ said b.verdict = a.text_is ∙ ap said same in
    let here = behind version (line_of Original original ∷ exports) (line_of Claim text) (said b.verdict) in (
      subst (λ l. EndsInLine written l) (sym line-is) (here.0, b.text_is ∙ here.1),
      b.outcome_is ∙ ap meant (sym same) ∙ sym a.outcome_is,
    )

pub run_is_last : SaysOneClaim → OneVerdict → RunIsLastLine
run_is_last claims verdicts version original export text line written outcome other =
    last Verdict (IsVerdictUnder original export text) verdict_line outcome_of version original (line_of Export export ∷ []) text line written outcome other
    (λ v w a b. verdicts original export b.claim v w (subst (λ c. IsVerdict original export c v) (one_claim claims text a.claim b.claim a.says b.says) a.is) b.is)

pub parts_run_is_last : SaysOneClaim → OneVerdictOnParts → PartsRunIsLastLine
parts_run_is_last claims verdicts version original parts text line written outcome other =
    last PartsVerdict (IsPartsVerdictUnder original parts text) (parts_verdict_line (length parts)) (λ v. outcome_of v.verdict) version original (part_lines 0 parts)
    text line written outcome other
    (λ v w a b. verdicts original parts b.claim v w (subst (λ c. IsPartsVerdict original parts c v) (one_claim claims text a.claim b.claim a.says b.says) a.is) b.is)
