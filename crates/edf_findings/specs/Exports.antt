-- What callers are shown of what was found.
use Rattle.std.specs.Prelude.{◌==◌, ◌&&◌, ℕ, ℤ, pos, Bool, false, List, [], length, slice_get, Option, None, Some, option_and_then}
use Rattle.edf_claim.specs.ClaimValues.{ClaimValue}
use Rattle.edf_header.specs.Heads.{Head}
use Rattle.edf_findings.specs.Noting.{begin_of, lasts_over}
use Rattle.edf_findings.specs.declared.findings.Findings.{Findings}
use Rattle.edf_findings.specs.declared.part.ComparedPart.{ComparedPart}
use Rattle.edf_findings.specs.declared.part.PartFindings.{PartFindings}
use Rattle.edf_findings.specs.declared.samples.compared.ComparedChannel.{ComparedChannel}
use Rattle.edf_findings.specs.declared.starts.Starts.{Starts}

-- nothing was found in the samples of a channel
abbrev pub is_clean : ComparedChannel → Bool
is_clean channel = ((channel.missing).count == 0) && ((channel.extra).count == 0) && ((channel.changed).count == 0)

-- the channels of an export that was compared
abbrev pub compared_channels : Option ComparedPart → List ComparedChannel
compared_channels None = []
compared_channels (Some part) = part.channels.items

-- the claimed channels that the original and an export have; none where it wasn't compared
abbrev pub channels_of : PartFindings → List ComparedChannel
channels_of part = compared_channels part.compared

-- where an export starts; none where it wasn't compared, or the original has no sample that is kept
abbrev pub starts_of : PartFindings → Option Starts
starts_of part = option_and_then (λ (compared : ComparedPart). compared.starts) part.compared

-- when the annotations begin of an export that was compared, as far as that is noted
abbrev pub onsets_in : Option ComparedPart → List ℤ
onsets_in None = []
onsets_in (Some part) = (part.noted).onsets

abbrev pub onsets_of : PartFindings → List ℤ
onsets_of part = onsets_in part.compared

-- such an export has begun at a time, and isn't over
abbrev pub covers_in : Option ComparedPart → ℤ → Bool
covers_in None at = false
covers_in (Some part) at = lasts_over (part.noted).time at

-- when the first data record of such an export begins
abbrev pub begins_in : Option ComparedPart → Option ℤ
begins_in None = None
begins_in (Some part) = begin_of (part.noted).time

-- how many of these begins there are
abbrev pub count_onsets : PartFindings → ℕ
count_onsets part = length (onsets_of part)

-- whether an interval was found without a sample of the original
abbrev pub keeps_between_in : Option ComparedPart → Bool
keeps_between_in None = false
keeps_between_in (Some part) = part.keeps_between

-- by how much the times of an export that was compared are moved
abbrev pub moved_in : Option ComparedPart → ℤ
moved_in None = pos 0
moved_in (Some part) = part.moved_ps

-- the original and an export have all channels of a claim
abbrev pub has_all_of : ClaimValue → PartFindings → Bool
has_all_of claim part = length (channels_of part) == length claim.channels

-- the first export
abbrev pub first_of : Findings → Option PartFindings
first_of found = slice_get found.parts.items 0

-- its header
abbrev pub head_in : PartFindings → Head
head_in part = part.header
