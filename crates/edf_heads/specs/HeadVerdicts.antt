-- The verdict on the headers of an original and an export.
use Rattle.std.specs.Prelude.{◌↔◌, List}
use Rattle.edf_fields.specs.Lists.{Has}
use Rattle.edf_header.specs.Heads.{Head}
use Rattle.edf_claim.specs.ClaimValues.{ClaimValue}
use Rattle.edf_heads.specs.Firsts.{IsFirstWith}
use Rattle.edf_heads.specs.Channels.{SameChannels, AllAlike}
use Rattle.edf_heads.specs.differences.ChannelDifferences.{AreUnlike, HasAll, HasNoChannel, IsExtra, IsFirstUnlike, IsLeastExtra}
use Rattle.edf_heads.specs.ChannelTexts.{HaveSameTexts}
use Rattle.edf_heads.specs.differences.TextDifference.{HaveSameText, IsTextDifference}
use Rattle.edf_heads.specs.Calibrations.{HaveSameCalibration}
use Rattle.edf_fields.specs.declared.fields.which.Which.{Which}
use Rattle.edf_heads.specs.Subfields.{IsAsClaimed}
use Rattle.edf_heads.specs.differences.SubfieldDifference.{IsMismatch, IsSubfieldDifference}
use Rattle.edf_heads.specs.Blank.{IsBlank}
use Rattle.edf_heads.specs.differences.BlankDifference.{IsBlankHeader, HasFreeText, IsFirstWithFreeText}
use Rattle.edf_verdict.specs.declared.verdict.Difference.{Difference}
use Rattle.edf_verdict.specs.declared.verdict.Verdict.{Verdict}
use Rattle.edf_verdict.specs.declared.verdict.Verdict.TheVariants.{No}
use Rattle.edf_verdict.specs.declared.verdict.Difference.TheVariants.{UnknownChannel, MissingChannel, ExtraChannel, ChannelText, Calibration, Subfield, NotClean}
use Rattle.edf_verdict.specs.declared.verdict.FreeText.TheVariants.{Header, Channel}

-- the export's header is what the claim says of the original's
pub record HeadsAgree (original export : Head) (claim : ClaimValue) : Type 0 where
  pub channels : SameChannels original export claim
  pub texts : AllAlike HaveSameTexts original export claim
  pub calibrations : AllAlike HaveSameCalibration original export claim
  pub subfields : (which : Which) → IsAsClaimed original export claim which
  pub blank : IsBlank export

-- the headers agree up to their calibrations
pub record SignalsAgree (original export : Head) (claim : ClaimValue) : Type 0 where
  pub channels : SameChannels original export claim
  pub texts : AllAlike HaveSameTexts original export claim
  pub calibrations : AllAlike HaveSameCalibration original export claim

-- the verdict is the first rule of two headers that is broken; each says that those before it aren't, and no other verdict is on headers
abbrev pub IsHeadVerdict : Head → Head → ClaimValue → Verdict → Type 0
IsHeadVerdict original export claim (No (UnknownChannel label)) =
    IsFirstWith (HasNoChannel original) claim.channels label
IsHeadVerdict original export claim (No (MissingChannel label)) =
    HasAll original claim.channels × IsFirstWith (HasNoChannel export) claim.channels label
IsHeadVerdict original export claim (No (ExtraChannel label)) =
    HasAll original claim.channels × HasAll export claim.channels × IsLeastExtra export claim.channels label
IsHeadVerdict original export claim (No (ChannelText label field)) =
    SameChannels original export claim × IsTextDifference original export claim label field
IsHeadVerdict original export claim (No (Calibration label)) =
    SameChannels original export claim × AllAlike HaveSameTexts original export claim × IsFirstUnlike HaveSameCalibration original export claim label
IsHeadVerdict original export claim (No (Subfield which mismatch)) =
    SignalsAgree original export claim × IsSubfieldDifference original export claim which mismatch
IsHeadVerdict original export claim (No (NotClean Header)) =
    SignalsAgree original export claim × ((which : Which) → IsAsClaimed original export claim which) × (IsBlankHeader export → ⊥)
IsHeadVerdict original export claim (No (NotClean (Channel label))) =
    SignalsAgree original export claim × ((which : Which) → IsAsClaimed original export claim which)
    × IsBlankHeader export × IsFirstWithFreeText export claim label
IsHeadVerdict original export claim verdict = ⊥

-- the rule that a verdict names is broken, whether or not another one is broken before it; samples and annotations break none of headers
abbrev pub IsBroken : Head → Head → ClaimValue → Difference → Type 0
IsBroken original export claim (UnknownChannel label) = Has claim.channels label × HasNoChannel original label
IsBroken original export claim (MissingChannel label) = Has claim.channels label × HasNoChannel export label
IsBroken original export claim (ExtraChannel label) = IsExtra export claim.channels label
IsBroken original export claim (ChannelText label field) = Has claim.channels label × AreUnlike (HaveSameText field) original export label
IsBroken original export claim (Calibration label) = Has claim.channels label × AreUnlike HaveSameCalibration original export label
IsBroken original export claim (Subfield which mismatch) = (IsAsClaimed original export claim which → ⊥) × IsMismatch claim which mismatch
IsBroken original export claim (NotClean Header) = IsBlankHeader export → ⊥
IsBroken original export claim (NotClean (Channel label)) = Has claim.channels label × HasFreeText export label
IsBroken original export claim rule = ⊥

-- each rule of two headers that is broken stands there, and no other
abbrev pub AreAllBroken : Head → Head → ClaimValue → List Difference → Type 0
AreAllBroken original export claim found = (rule : Difference) → Has found rule ↔ IsBroken original export claim rule
