-- The first text that differs.
use Rattle.std.specs.Prelude.{◌≡◌, ℕ, List}
use Rattle.edf_header.specs.Heads.{SignalHead, Head}
use Rattle.edf_claim.specs.ClaimValues.{ClaimValue}
use Rattle.edf_heads.specs.differences.ChannelDifferences.{AreAlike, AreUnlike, IsFirstUnlike}
use Rattle.edf_verdict.specs.declared.verdict.TextField.{TextField}
use Rattle.edf_verdict.specs.declared.verdict.TextField.TheVariants.{Transducer, Prefilter}
use Rattle.edf_heads.specs.ChannelTexts.{HaveSameTexts}

-- the text of a channel
abbrev pub text_in : TextField → SignalHead → List ℕ
text_in Transducer channel = channel.transducer
text_in Prefilter channel = channel.prefilter

-- two channels have the same text in this field
abbrev pub HaveSameText : TextField → SignalHead → SignalHead → Type 0
HaveSameText field x y = text_in field x ≡ text_in field y

-- this is the first text in which the channels of the label differ: the transducer comes before the prefilter
abbrev pub IsFirstText : Head → Head → List ℕ → TextField → Type 0
IsFirstText original export label Transducer = AreUnlike (HaveSameText Transducer) original export label
IsFirstText original export label Prefilter =
    AreAlike (HaveSameText Transducer) original export label × AreUnlike (HaveSameText Prefilter) original export label

-- the first claimed channel that hasn't the original's texts in the export, and its first such text
pub record IsTextDifference (original export : Head) (claim : ClaimValue) (label : List ℕ) (field : TextField) : Type 0 where
  pub channel : IsFirstUnlike HaveSameTexts original export claim label
  pub text : IsFirstText original export label field
