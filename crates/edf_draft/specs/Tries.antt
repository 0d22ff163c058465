-- What is known of a draft that was tried.
use Rattle.std.specs.Prelude.{ℤ, List, IfSome}
use Rattle.edf_claim.specs.Claims.{SaysClaimText}
use Rattle.edf_claim.specs.ClaimValues.{ClaimValue}
use Rattle.edf_header.specs.Heads.{Head}
use Rattle.edf_draft.specs.Drafts.{IsDraftFor}
use Rattle.edf_draft.specs.FirstLines.{Anew, IsTried, IsTrueOfYes}
use Rattle.edf_draft.specs.declared.tries.tried.Tried.{Tried}

-- a text says just this claim, its first line is true of it, and this is what the check with it said
pub record IsTriedAs (again : Anew) (claim : ClaimValue) (tried : Tried) : Type 0 where
  pub says : SaysClaimText tried.text.items claim
  pub first : IsTrueOfYes again tried.text.items
  pub said : IfSome tried.verdict (IsTried again tried.text.items)

-- the claim is drafted of the headers of an original and of exports, and of this shift
pub record IsTriedDraft (again : Anew) (o : Head) (e : List Head) (shift : ℤ) (tried : Tried) : Type 0 where
  pub claim : ClaimValue
  pub tries : IsTriedAs again claim tried
  pub drafts : IsDraftFor o e shift claim
