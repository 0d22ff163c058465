-- What the first line of a draft says of a Yes is so.
use Rattle.std.proofs.Common.{◌≡◌, ◌++◌, ◌∷◌, ℕ, List, Option, None, Some, IfSome, IsTrue, codes, sym, subst, ◌∙◌, ap, arith}
use Rattle.std.proofs.lemmas.List.{append_assoc}
use Rattle.edf_check.specs.Headline.{YesMeans}
use Rattle.edf_check.specs.Verdicts.{IsVerdict}
use Rattle.edf_check.specs.parts.PartsVerdicts.{IsPartsVerdict}
use Rattle.edf_claim.specs.Claims.{SaysClaim, SaysClaimText, SaysOneClaim}
use Rattle.edf_claim.specs.ClaimValues.{ClaimValue}
use Rattle.edf_fields.specs.declared.faults.fault.Fault.{Fault}
use Rattle.edf_stop.specs.declared.sides.Side.{Side}
use Rattle.edf_stop.specs.declared.sides.Side.TheVariants.{Original, Export}
use Rattle.edf_verdict.specs.declared.verdict.Verdict.{Verdict}
use Rattle.edf_verdict.specs.declared.verdict.Verdict.TheVariants.{Yes, No}
use Rattle.edf_draft.specs.Answers.{fault_text_of, none_text}
use Rattle.edf_draft.specs.FirstLines.{Anew, Exports, single, several, HasNotInFront, IsFirstLine, IsFirstLineOf, IsLineOfYes, IsSaid, IsTried, IsTrueOfYes, IsVerdictOn, SaysYes, verdict_said, yes_front, yes_line}
use Rattle.edf_draft.specs.declared.tries.trial.Said.{Said}

pub not_a_yes : (line rest : List ℕ) → line ≡ codes "# NOT A YES: with this draft the check answers: " ++ rest → HasNotInFront line
not_a_yes line rest is = (codes "A YES: with this draft the check answers: " ++ rest, is)

pub not_tried : (line : List ℕ)
    → line ≡ codes "# NOT TRIED: a file couldn't be read once more as it was, so that it isn't known whether the check with this draft is a Yes.\n" → HasNotInFront line
not_tried line is = (codes "TRIED: a file couldn't be read once more as it was, so that it isn't known whether the check with this draft is a Yes.\n", is)

-- the third byte, which is another one where no Yes is said
abbrev third : List ℕ → ℕ
third (a ∷ b ∷ c ∷ rest) = c
third rest = 0

says_no_yes : (text line behind : List ℕ) → HasNotInFront line → text ≡ line ++ behind → SaysYes text → ⊥
says_no_yes text line behind (a, is) same (b, says) =
    let both : (codes "# NOT " ++ a) ++ behind ≡ yes_front ++ b = sym (same ∙ ap (λ l. l ++ behind) is) ∙ says in
    let letters : 78 ≡ 87 = ap third both in
    absurd (omega (arith, letters))

pub fault_is_true : (again : Anew) (text : List ℕ) (side : Side) (fault : Fault) → text ≡ fault_text_of side fault → IsTrueOfYes again text
fault_is_true again text Original fault is = λ honest says. let letters : 116 ≡ 87 = ap third (sym is ∙ says.1) in absurd (omega (arith, letters))
fault_is_true again text Export fault is = λ honest says. let letters : 116 ≡ 87 = ap third (sym is ∙ says.1) in absurd (omega (arith, letters))

pub part_fault_is_true : (again : Anew) (text rest : List ℕ) → text ≡ codes "# part " ++ rest → IsTrueOfYes again text
part_fault_is_true again text rest is = λ honest says. let letters : 112 ≡ 87 = ap third (sym is ∙ says.1) in absurd (omega (arith, letters))

pub no_draft_is_true : (again : Anew) (text rest : List ℕ) → text ≡ codes "# no draft: " ++ rest → IsTrueOfYes again text
no_draft_is_true again text rest is = λ honest says. let letters : 110 ≡ 87 = ap third (sym is ∙ says.1) in absurd (omega (arith, letters))

pub none_is_true : (again : Anew) (text : List ℕ) → text ≡ none_text → IsTrueOfYes again text
none_is_true again text is = λ honest says. let letters : 110 ≡ 87 = ap third (sym is ∙ says.1) in absurd (omega (arith, letters))

-- a text says at most one claim
one_text_claim : (text : List ℕ) (c d : ClaimValue) → SaysOneClaim → SaysClaimText text c → SaysClaimText text d → c ≡ d
one_text_claim text c d one first second =
    let p = first.parsed in
    let q = second.parsed in
    let same : first.entries ≡ second.entries = cc in
    one second.entries c d (subst (λ m. SaysClaim m c) same first.says) second.says

-- the verdict under the claim of a text is that under the claim of another text that says the same
verdict_on_whole : (original : List ℕ) (exports : Exports) (claim : ClaimValue) (text whole : List ℕ) (verdict : Verdict) → SaysOneClaim → SaysClaimText text claim
    → SaysClaimText whole claim → IsVerdictOn original exports text verdict → IsVerdictOn original exports whole verdict
verdict_on_whole original (single export) claim text whole verdict one before behind under =
    let same : under.claim ≡ claim = one_text_claim text under.claim claim one under.says before in
    record {
      claim = claim;
      says = behind;
      is = subst (λ c. IsVerdict original export c verdict) same under.is;
      means = subst (λ c. YesMeans original export c verdict) same under.means;
    }
verdict_on_whole original (several exports) claim text whole verdict one before behind (part, under) =
    let same : under.claim ≡ claim = one_text_claim text under.claim claim one under.says before in
    (part, record { claim = claim; says = behind; is = subst (λ c. IsPartsVerdict original exports c (record { part = part; verdict = verdict })) same under.is })

tried_whole : (again : Anew) (claim : ClaimValue) (text whole : List ℕ) (verdict : Verdict) → SaysOneClaim → SaysClaimText text claim → SaysClaimText whole claim
    → IsTried again text verdict → IsTried again whole verdict
tried_whole again claim text whole verdict one before behind tried = λ honest.
    verdict_on_whole again.original again.exports claim text whole verdict one before behind (tried honest)

pub said_of_whole : (again : Anew) (claim : ClaimValue) (text whole : List ℕ) (said : Option Said) (verdict : Option Verdict) → SaysOneClaim
    → SaysClaimText text claim → SaysClaimText whole claim → verdict ≡ verdict_said said → IfSome said (IsSaid again text) → IfSome verdict (IsTried again whole)
said_of_whole again claim text whole None verdict one before behind is tried = subst (λ v. IfSome v (IsTried again whole)) (sym is) tt
said_of_whole again claim text whole (Some said) verdict one before behind is tried =
    subst (λ v. IfSome v (IsTried again whole)) (sym is) (tried_whole again claim text whole said.verdict one before behind tried.verdict)

-- the first line of a draft is true of the whole text, where the text behind it was tried
line_is_true : (again : Anew) (claim : ClaimValue) (said line text whole : List ℕ) (verdict : Verdict) → SaysOneClaim → SaysClaimText text claim
    → SaysClaimText whole claim → IsTried again text verdict → (IsTrue again.are_honest → IsLineOfYes again.exports verdict said) → IsFirstLine verdict said line
    → whole ≡ line ++ text → IsTrueOfYes again whole
line_is_true again claim said line text whole (No difference) one before behind tried of_yes first is = λ honest says. absurd (says_no_yes whole line text first is says)
line_is_true again claim said line text whole (Yes channels samples annotations) one before behind tried of_yes first is = λ honest says. record {
  channels = channels;
  samples = samples;
  annotations = annotations;
  behind = text;
  line = is ∙ ap (λ l. l ++ text) (first ∙ ap (λ l. yes_front ++ l) (of_yes honest)) ∙ append_assoc yes_front (yes_line again.exports channels samples annotations) text;
  under = tried_whole again claim text whole (Yes channels samples annotations) one before behind tried honest;
}

pub first_is_true : (again : Anew) (claim : ClaimValue) (line text whole : List ℕ) (said : Option Said) → SaysOneClaim → SaysClaimText text claim
    → SaysClaimText whole claim → IfSome said (IsSaid again text) → IsFirstLineOf said line → whole ≡ line ++ text → IsTrueOfYes again whole
first_is_true again claim line text whole None one before behind tried first is = λ honest says. absurd (says_no_yes whole line text first is says)
first_is_true again claim line text whole (Some said) one before behind tried first is =
    line_is_true again claim said.line.items line text whole said.verdict one before behind tried.verdict tried.line first is
