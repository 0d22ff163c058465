-- What is told of samples that were counted: of each claimed channel that both files have, of each export.
use Rattle.std.specs.Prelude.{◌≡◌, ◌==◌, ℕ, ℤ, pos, ◌*◌, ◌*ℤ◌, ◌+◌, ◌-◌, Bool, ◌&&◌, not, if◌then◌else◌, List, [], ◌∷◌, ◌++◌, map, slice_get, Option, Some, None, is_some}
use Rattle.std.specs.Borrow.{Bor}
use Rattle.std.specs.Int.{int_div_euclid, saturate_signed, w128}
use Rattle.std.specs.Ordering.{int_eq}
use Rattle.edf_fields.specs.Lists.{Has}
use Rattle.edf_header.specs.Heads.{Head}
use Rattle.edf_heads.specs.Comparisons.{IsPlaceOf}
use Rattle.edf_pace.specs.declared.walk.channel_place.ChannelPlace.{ChannelPlace}
use Rattle.edf_pace.specs.declared.walk.watchers.found_in.ChannelCount.{ChannelCount}
use Rattle.edf_pace.specs.declared.walk.watchers.found_in.FoundIn.{FoundIn}
use Rattle.edf_pace.specs.declared.walk.watchers.found_in.RecordsAt.{RecordsAt}
use Rattle.edf_pace.specs.walk.Columns.{channel_at}
use Rattle.edf_samples.specs.declared.counts.counted.Counted.{Counted}
use Rattle.edf_samples.specs.declared.difference.PointDifference.{PointDifference}
use Rattle.edf_stream.specs.declared.times.instant.Instant.{Instant}
use Rattle.edf_verdict.specs.declared.verdict.SampleMismatch.{SampleMismatch}
use Rattle.edf_verdict.specs.declared.verdict.SampleMismatch.TheVariants.{Value, Missing, Extra}
use Rattle.edf_findings.specs.declared.samples.compared.ComparedChannel.{ComparedChannel}
use Rattle.edf_findings.specs.declared.samples.compared.Samples.{Samples}
use Rattle.edf_findings.specs.declared.samples.compared.Spot.{Spot}

-- an instant in picoseconds, rounded down; 0 where it is no fraction
abbrev pub floor_of : Instant → ℤ
floor_of at = if at.den == 0 then pos 0 else int_div_euclid at.num (pos at.den)

-- the values of the original and the export, where both have one
abbrev pub values_in : SampleMismatch → Option (ℤ × ℤ)
values_in (Value kept exported) = Some (kept, exported)
values_in Missing = None
values_in Extra = None

-- how many picoseconds so many samples take where a data record lasts so long
abbrev pub samples_last : ℤ → ℕ → ℤ
samples_last duration samples = saturate_signed w128 (duration *ℤ pos samples)

-- a difference that lies in these data records
abbrev pub spot_of : Option RecordsAt → PointDifference → Spot
spot_of None difference = record { difference = difference; original_record = None; export_record = None }
spot_of (Some records) difference =
    record { difference = difference; original_record = records.original; export_record = records.export }

-- the first and the last, where both are there
abbrev pub ends_of : FoundIn → Option PointDifference → Option PointDifference → Option (Spot × Spot)
ends_of found None last = None
ends_of found (Some first) None = None
ends_of found (Some first) (Some last) = Some (spot_of found.first first, spot_of found.last last)

-- as many, with the first and the last
abbrev pub AreThose : FoundIn → Counted → Samples → Type 0
AreThose found counted samples = (samples.count ≡ counted.count) × (samples.ends ≡ ends_of found counted.first counted.last)

-- those of each kind
abbrev pub IsTold : ChannelCount → ComparedChannel → Type 0
IsTold count channel =
    AreThose count.missing (count.tally).missing channel.missing
    × AreThose count.extra (count.tally).extra channel.extra
    × AreThose count.changed (count.tally).changed channel.changed

-- what was counted of each label in an original and an export with these headers
pub record Seen : Type 0 where
  pub original : Head
  pub export : Head
  pub counts : List ChannelCount

-- the channel tells what was counted of this label, where the counts stand in the order of these labels; by the places of its channels in both files,
-- whether its samples stand at other distances in the export; and how many samples of the export aren't extra ones: both files have those
-- at the same instants
pub record IsToldAt (labels : List (Bor (List ℕ))) (seen : Seen) (label : List ℕ) (channel : ComparedChannel) : Type 0 where
  pub at : ℕ
  pub label_is : IsPlaceOf labels label at
  pub count : ChannelCount
  pub count_is : slice_get seen.counts at ≡ Some count
  pub told : IsTold count channel
  pub here : ChannelPlace
  pub here_is : channel_at label seen.original ≡ Some here
  pub there : ChannelPlace
  pub there_is : channel_at label seen.export ≡ Some there
  pub rate : channel.has_other_rate ≡ not (int_eq (samples_last (seen.original).duration there.samples) (samples_last (seen.export).duration here.samples))
  pub compared : channel.compared ≡ (seen.export).records * there.samples - ((count.tally).extra).count

-- it tells that of the label with its place in a claim
abbrev pub IsToldOf : List (List ℕ) → List (Bor (List ℕ)) → Seen → ComparedChannel → Type 0
IsToldOf claimed labels seen channel = (label : List ℕ) × (slice_get claimed channel.place ≡ Some label) × IsToldAt labels seen label channel

-- two files with these headers have channels of this label
abbrev pub is_in_both : Head → Head → List ℕ → Bool
is_in_both h g label = is_some (channel_at label h) && is_some (channel_at label g)

-- the places of those of these labels of which both files have channels, where the first label has this place
abbrev pub places_from : Head → Head → ℕ → List (List ℕ) → List ℕ
places_from h g k [] = []
places_from h g k (label ∷ labels) = if is_in_both h g label then k ∷ places_from h g (k + 1) labels else places_from h g (k + 1) labels

-- the claimed channels that both files have are told in the order of the claim, each with what was counted of its label
pub record AreTold (claimed : List (List ℕ)) (labels : List (Bor (List ℕ))) (seen : Seen) (channels : List ComparedChannel) : Type 0 where
  pub which : map (λ (channel : ComparedChannel). channel.place) channels ≡ places_from seen.original seen.export 0 claimed
  pub each : (channel : ComparedChannel) → Has channels channel → IsToldOf claimed labels seen channel

-- the channels, and one behind them, if there is one
abbrev pub with_one : List ComparedChannel → Option ComparedChannel → List ComparedChannel
with_one channels None = channels
with_one channels (Some channel) = channels ++ channel ∷ []
