-- All in which the samples of a channel differ, and what is told of it.
use Rattle.std.specs.Prelude.{◌≡◌, ℕ, ◌<◌, ◌-◌, ◌^◌, min, ℤ, neg_ℤ, ◌+ℤ◌, Bool, false, true, List, [], ◌∷◌, length, map, slice_get, Option, Some, is_some, option_map}
use Rattle.edf_check.specs.Courses.{Course, DifferAt}
use Rattle.edf_check.specs.KeptReading.{ExportedAt, KeptAt, origin_of}
use Rattle.edf_claim.specs.ClaimValues.{ClaimValue}
use Rattle.edf_fields.specs.Lists.{Has}
use Rattle.edf_header.specs.HeadsReading.{head_of}
use Rattle.edf_heads.specs.differences.ChannelDifferences.{HasChannel}
use Rattle.edf_pace.specs.Kept.{shift_ps}
use Rattle.edf_pace.specs.walk.Shown.{last_end_by}
use Rattle.edf_pace.specs.walk.Spots.{record_in}
use Rattle.edf_pace.specs.walk.Windows.{is_last}
use Rattle.edf_samples.specs.declared.difference.PointDifference.{PointDifference}
use Rattle.edf_samples.specs.InstantOrder.{IsBefore}
use Rattle.edf_samples.specs.Stretches.{whole}
use Rattle.edf_samples.specs.Tallies.{first_of, is_changed, is_extra, is_missing, last_of, of_kind}
use Rattle.edf_stream.specs.declared.times.instant.Instant.{Instant}
use Rattle.edf_stream.specs.times.InstantOrder.{IsNotBefore}
use Rattle.edf_stream.specs.times.Instants.{IsSame}
use Rattle.edf_verdict.specs.declared.verdict.SampleMismatch.{SampleMismatch}
use Rattle.edf_verdict.specs.declared.verdict.SampleMismatch.TheVariants.{Missing, Extra, Value}
use Rattle.edf_findings.specs.Exports.{channels_of}
use Rattle.edf_findings.specs.Told.{places_from}
use Rattle.edf_findings.specs.declared.part.PartFindings.{PartFindings}
use Rattle.edf_findings.specs.declared.samples.compared.ComparedChannel.{ComparedChannel}
use Rattle.edf_findings.specs.declared.samples.compared.Samples.{Samples}
use Rattle.edf_findings.specs.declared.samples.compared.Spot.{Spot}

-- each is before those behind it
abbrev pub DoRise : List PointDifference → Type 0
DoRise [] = Unit {0}
DoRise (d ∷ ds) = ((e : PointDifference) → Has ds e → IsBefore d.at e.at) × DoRise ds

-- these are all instants at which a channel differs between what is kept and what is exported, each once and with the way in which it differs, in the
-- order of time
pub record AreAllDifferences (kept exported : Course) (label : List ℕ) (ds : List PointDifference) : Type 0 where
  pub each : (d : PointDifference) → Has ds d → (0 < (d.at).den) × DifferAt kept exported label d.at d.mismatch
  pub every : (at : Instant) (mismatch : SampleMismatch) → 0 < at.den → DifferAt kept exported label at mismatch
      → (d : PointDifference) × Has ds d × IsSame d.at at × (d.mismatch ≡ mismatch)
  pub rise : DoRise ds

-- a difference, with the data records of the original and of the export in which its time lies, where it lies in one. EDF+ (2003), "Time keeping of data records"
abbrev pub spot_in : List ℕ → List ℕ → ClaimValue → PointDifference → Spot
spot_in original export claim d = record {
  difference = d;
  original_record = record_in original (head_of original) (neg_ℤ (origin_of original)) d.at;
  export_record = record_in export (head_of export) (neg_ℤ (origin_of original +ℤ shift_ps claim)) d.at;
}

-- the first that is told, and the last
abbrev pub first_told : Samples → Option Spot
first_told samples = option_map (λ (ends : Spot × Spot). ends.0) samples.ends

abbrev pub last_told : Samples → Option Spot
last_told samples = option_map (λ (ends : Spot × Spot). ends.1) samples.ends

-- of these differences it is told how many they are, as far as a counter of 64 bits goes, which is the first, and which the last
pub record TellThese (original export : List ℕ) (claim : ClaimValue) (ds : List PointDifference) (samples : Samples) : Type 0 where
  pub count : samples.count ≡ min (length ds) (2 ^ 64 - 1)
  pub first : first_told samples ≡ option_map (spot_in original export claim) (first_of ds)
  pub last : last_told samples ≡ option_map (spot_in original export claim) (last_of ds)

-- all differences of a channel between what is kept and what an export holds are told, by their kinds
pub record IsAllTold (kept : Course) (original export : List ℕ) (claim : ClaimValue) (label : List ℕ) (channel : ComparedChannel) : Type 0 where
  pub all : List PointDifference
  pub are : AreAllDifferences kept (ExportedAt original export claim) label all
  pub missing : TellThese original export claim (of_kind is_missing all) channel.missing
  pub extra : TellThese original export claim (of_kind is_extra all) channel.extra
  pub changed : TellThese original export claim (of_kind is_changed all) channel.changed

-- the channel is told that has this label
abbrev pub IsToldUnder : ClaimValue → PartFindings → List ℕ → ComparedChannel → Type 0
IsToldUnder claim part label channel = Has (channels_of part) channel × (slice_get claim.channels channel.place ≡ Some label)

-- those channels are told that are claimed and that both files have, each once and in the order of the claim, and of each all is told
pub record AreAllTold (kept : Course) (original export : List ℕ) (claim : ClaimValue) (part : PartFindings) : Type 0 where
  pub compared : is_some part.compared ≡ true
  pub which : map (λ (channel : ComparedChannel). channel.place) (channels_of part) ≡ places_from (head_of original) (head_of export) 0 claim.channels
  pub each : (channel : ComparedChannel) → Has (channels_of part) channel
      → (label : List ℕ) × (slice_get claim.channels channel.place ≡ Some label) × IsAllTold kept original export claim label channel
  pub every : (label : List ℕ) → Has claim.channels label → HasChannel (head_of original) label → HasChannel (head_of export) label
      → (channel : ComparedChannel) × IsToldUnder claim part label channel

-- what is told of those of a kind
abbrev pub of_mismatch : SampleMismatch → ComparedChannel → Samples
of_mismatch Missing channel = channel.missing
of_mismatch Extra channel = channel.extra
of_mismatch (Value v w) channel = channel.changed

-- ---- several exports

-- an instant from t on, and before u where further exports follow
pub record IsInTurn (last : Bool) (t u : ℤ) (at : Instant) : Type 0 where
  pub reached : IsNotBefore at (whole t)
  pub early : last ≡ false → IsBefore at (whole u)

-- what the claim keeps of an original in this time
abbrev pub KeptInTurn : List ℕ → ClaimValue → Bool → ℤ → ℤ → Course
KeptInTurn original claim last t u label at value = KeptAt original claim label at value × IsInTurn last t u at

-- where an export ends, in picoseconds after the second at which the original starts, before the shift
abbrev pub end_of : List ℕ → ClaimValue → List ℕ → ℤ
end_of original claim part = last_end_by part (head_of part) (neg_ℤ (origin_of original +ℤ shift_ps claim))

-- of each export all is told that differs in its time: from where the one before it ends, and for the first one from t on, to where it ends
-- itself, and for the last one without end
abbrev pub AreToldInTurn : List ℕ → ClaimValue → ℤ → List (List ℕ) → List PartFindings → Type 0
AreToldInTurn original claim t [] [] = Unit {0}
AreToldInTurn original claim t [] (found ∷ more) = ⊥
AreToldInTurn original claim t (part ∷ parts) [] = ⊥
AreToldInTurn original claim t (part ∷ parts) (found ∷ more) =
    AreAllTold (KeptInTurn original claim (is_last parts) t (end_of original claim part)) original part claim found
    × AreToldInTurn original claim (end_of original claim part) parts more
