-- The first subfield that is not as claimed.
use Rattle.edf_fields.specs.Lists.{Has}
use Rattle.edf_header.specs.Heads.{Head}
use Rattle.edf_claim.specs.ClaimValues.{ClaimValue}
use Rattle.edf_fields.specs.declared.fields.which.Which.{Which}
use Rattle.edf_heads.specs.Firsts.{IsFirstWith}
use Rattle.edf_verdict.specs.declared.verdict.SubfieldMismatch.{SubfieldMismatch}
use Rattle.edf_verdict.specs.declared.verdict.SubfieldMismatch.TheVariants.{NotX, Changed}
use Rattle.edf_fields.specs.fields.SubfieldNamesReading.{all_subfields}
use Rattle.edf_heads.specs.Subfields.{IsAsClaimed}

-- how a subfield that isn't as claimed isn't: it should be `X`, or the original's
abbrev pub IsMismatch : ClaimValue → Which → SubfieldMismatch → Type 0
IsMismatch claim which NotX = Has claim.anonymous which
IsMismatch claim which Changed = Has claim.anonymous which → ⊥

-- the first subfield that isn't as claimed, and how it isn't
pub record IsSubfieldDifference (original export : Head) (claim : ClaimValue) (which : Which) (mismatch : SubfieldMismatch) : Type 0 where
  pub subfield : IsFirstWith (λ w. IsAsClaimed original export claim w → ⊥) all_subfields which
  pub mismatch_is : IsMismatch claim which mismatch
