-- What a Yes means.
use Rattle.std.specs.Prelude.{◌≡◌, ℕ, ◌*◌, List, length}
use Rattle.std.specs.List.Sorted.{IsPermutation}
use Rattle.edf_claim.specs.ClaimValues.{ClaimValue}
use Rattle.edf_header.specs.Heads.{Head, samples_together}
use Rattle.edf_heads.specs.Blank.{IsBlank}
use Rattle.edf_fields.specs.declared.fields.which.Which.{Which}
use Rattle.edf_heads.specs.Calibrations.{HaveSameCalibration}
use Rattle.edf_heads.specs.Channels.{AllAlike, SameChannels}
use Rattle.edf_heads.specs.Subfields.{IsAsClaimed}
use Rattle.edf_heads.specs.ChannelTexts.{HaveSameTexts}
use Rattle.edf_stream.specs.Conforming.{Conforms}
use Rattle.edf_stream.specs.annotation.Notes.{NoteValue, HasNotes}
use Rattle.edf_header.specs.signals.Channels.{channels_among}
use Rattle.edf_verdict.specs.declared.verdict.Verdict.{Verdict}
use Rattle.edf_verdict.specs.declared.verdict.Verdict.TheVariants.{Yes, No}
use Rattle.edf_pace.specs.Kept.{SamplesAsKept, kept_of, unshifted}

-- The headline. Both files conform to the profile, and say these headers and annotations; the export's channels are exactly the claimed
-- ones, with the original's texts, and with calibrations that give each digital value the same physical one; its samples are exactly the
-- original's samples of those channels in the claimed intervals, value for value, at the claimed shift; its annotations are exactly the
-- kept ones, in some order; every subfield is as claimed: `X` where it is anonymous, and else the original's, but for the date, which is
-- then `X` exactly where the original's is: its day follows from the samples, and from `same_day` of `MeetsStandard`; and what `IsBlank`
-- names is empty. Of the export's layout nothing is said: the cut into data records, the kind, the order of signals, the spelling of
-- numbers and times, extremes on the same line, those of an annotation signal and its size, spaces between subfields, how many `X`, where
-- annotations stand, TALs without any text, not even an empty one, the duration of a TAL that keeps the time.
pub record Headline (original export : List ℕ) (claim : ClaimValue) : Type 0 where
  pub original_head : Head
  pub export_head : Head
  pub original_notes : List NoteValue
  pub export_notes : List NoteValue
  pub original_conforms : Conforms original original_head
  pub export_conforms : Conforms export export_head
  pub original_says : HasNotes original original_head original_notes
  pub export_says : HasNotes export export_head export_notes
  pub channels : SameChannels original_head export_head claim
  pub texts : AllAlike HaveSameTexts original_head export_head claim
  pub calibrations : AllAlike HaveSameCalibration original_head export_head claim
  pub samples : SamplesAsKept original export original_head export_head claim
  pub annotations : IsPermutation (kept_of claim original_notes) (unshifted original_head export_head claim export_notes)
  pub subfields : (which : Which) → IsAsClaimed original_head export_head claim which
  pub blank : IsBlank export_head

-- how many channels, samples of all channels and annotations a file has with this header and these annotations
pub record AreCounts (h : Head) (notes : List NoteValue) (channels samples annotations : ℕ) : Type 0 where
  pub channels_are : channels ≡ length (channels_among h.signals)
  pub samples_are : samples ≡ h.records * samples_together (channels_among h.signals)
  pub annotations_are : annotations ≡ length notes

-- what a Yes means: the headline, and its counts are the export's
abbrev pub YesMeans : List ℕ → List ℕ → ClaimValue → Verdict → Type 0
YesMeans original export claim (No difference) = Unit {0}
YesMeans original export claim (Yes channels samples annotations) =
    (headline : Headline original export claim)
    × AreCounts headline.export_head headline.export_notes channels samples annotations
