-- Which of two drafts is given.
use Rattle.std.specs.Prelude.{◌≡◌, ◌⊎◌, ℤ, IsTrue, List, Option, Some, None, IfSome}
use Rattle.edf_header.specs.Heads.{Head}
use Rattle.edf_verdict.specs.declared.verdict.Verdict.{Verdict}
use Rattle.edf_draft.specs.Better.{is_taken}
use Rattle.edf_draft.specs.FirstLines.{Anew}
use Rattle.edf_draft.specs.Tries.{IsTriedDraft}
use Rattle.edf_draft.specs.declared.tries.tried.Tried.{Tried}

-- the verdict with a draft, where there is one and it was tried
abbrev pub verdict_with : Option Tried → Option Verdict
verdict_with None = None
verdict_with (Some tried) = tried.verdict

-- one of two drafts, of which there may be only the second
abbrev pub IsOneOf : Option Tried → Tried → Tried → Type 0
IsOneOf best tried result = (result ≡ tried) ⊎ (best ≡ Some result)

-- the draft by days; or that by the samples, which is taken
abbrev pub IsChosen : Option Tried → Option Tried → Tried → Type 0
IsChosen days samples tried = (days ≡ Some tried) ⊎ ((samples ≡ Some tried) × IsTrue (is_taken (verdict_with days) tried.verdict))

-- of a draft whose shift is told by days, and of one by another shift, where there are such, the one that is given
pub record IsGiven (again : Anew) (o : Head) (e : List Head) (shift : ℤ) (tried : Tried) : Type 0 where
  pub days : Option Tried
  pub samples : Option Tried
  pub by_days : IfSome days (IsTriedDraft again o e shift)
  pub by_samples : IfSome samples (λ draft. (other : ℤ) × IsTriedDraft again o e other draft)
  pub chosen : IsChosen days samples tried
