-- What the check says of a draft, and the line of that.
use Rattle.std.proofs.Common.{◌≡◌, ℕ, List, Bool, Option, None, Some, IfSome, IsTrue, length, sym, subst, ◌∙◌, ap}
use Rattle.edf_check.specs.Runs.{IsPartsVerdictUnder, IsVerdictUnder}
use Rattle.edf_trial.specs.Parts.{IsPartsAnswer}
use Rattle.edf_trial.specs.declared.parts_anew.PartsAnswer.{PartsAnswer}
use Rattle.edf_verdict.specs.Lines.{verdict_line}
use Rattle.edf_verdict.specs.PartsLines.{parts_verdict_line}
use Rattle.edf_verdict.specs.declared.parts_verdict.PartsVerdict.{PartsVerdict}
use Rattle.edf_verdict.specs.declared.verdict.Verdict.{Verdict}
use Rattle.edf_verdict.specs.declared.verdict.Verdict.TheVariants.{Yes, No}
use Rattle.edf_draft.specs.FirstLines.{single, several, IsLineOfYes, IsSaid, anew, anew_parts}
use Rattle.edf_draft.specs.declared.tries.trial.Said.{Said}

-- the line of a verdict is that of its Yes: of one export
line_of_one : (export : List ℕ) (verdict : Verdict) (line : List ℕ) → line ≡ verdict_line verdict → IsLineOfYes (single export) verdict line
line_of_one export (Yes channels samples annotations) line is = is
line_of_one export (No difference) line is = tt

line_of_yes : (exports : List (List ℕ)) (parts part : ℕ) (verdict : Verdict) (line : List ℕ) → line ≡ parts_verdict_line parts (record { part = part; verdict = verdict })
    → parts ≡ length exports → IsLineOfYes (several exports) verdict line
line_of_yes exports parts part (Yes channels samples annotations) line is many =
    is ∙ ap (λ n. parts_verdict_line n (record { part = 0; verdict = Yes channels samples annotations })) many
line_of_yes exports parts part (No difference) line is many = tt

line_of_several : (exports : List (List ℕ)) (parts : ℕ) (verdict : PartsVerdict) (line : List ℕ) → line ≡ parts_verdict_line parts verdict
    → parts ≡ length exports → IsLineOfYes (several exports) verdict.verdict line
line_of_several exports parts verdict line is many = line_of_yes exports parts verdict.part verdict.verdict line is many

-- what is said with a verdict and its line: of one export
pub said_of_one : (honest : Bool) (original export text : List ℕ) (verdict : Verdict) (line : List ℕ) (found : Option Said)
    → (IsTrue honest → IsVerdictUnder original export text verdict) → line ≡ verdict_line verdict
    → IfSome found (λ s. (s.verdict ≡ verdict) × (s.line.items ≡ line)) → IfSome found (IsSaid (anew honest original export) text)
said_of_one honest original export text verdict line None tried is same = tt
said_of_one honest original export text verdict line (Some said) tried is same = record {
  verdict = λ h. subst (IsVerdictUnder original export text) (sym same.0) (tried h);
  line = λ h. subst (λ v. IsLineOfYes (single export) v said.line.items) (sym same.0) (line_of_one export verdict said.line.items (same.1 ∙ is));
}

part_of : (original : List ℕ) (exports : List (List ℕ)) (text : List ℕ) (verdict : PartsVerdict) → IsPartsVerdictUnder original exports text verdict
    → IsPartsVerdictUnder original exports text (record { part = verdict.part; verdict = verdict.verdict })
part_of original exports text verdict under = record { claim = under.claim; says = under.says; is = under.is }

-- of several
pub said_of_several : (honest : Bool) (original : List ℕ) (exports : List (List ℕ)) (text : List ℕ) (answer : PartsAnswer) (line : List ℕ) (found : Option Said)
    → (IsTrue honest → IsPartsAnswer original exports text answer) → line ≡ parts_verdict_line answer.parts answer.verdict
    → IfSome found (λ s. (s.verdict ≡ (answer.verdict).verdict) × (s.line.items ≡ line)) → IfSome found (IsSaid (anew_parts honest original exports) text)
said_of_several honest original exports text answer line None tried is same = tt
said_of_several honest original exports text answer line (Some said) tried is same = record {
  verdict = λ h. (
    (answer.verdict).part,
    subst (λ v. IsPartsVerdictUnder original exports text (record { part = (answer.verdict).part; verdict = v })) (sym same.0)
        (part_of original exports text answer.verdict (tried h).0),
  );
  line = λ h. subst (λ v. IsLineOfYes (several exports) v said.line.items) (sym same.0)
      (line_of_several exports answer.parts answer.verdict said.line.items (same.1 ∙ is) (tried h).1);
}
