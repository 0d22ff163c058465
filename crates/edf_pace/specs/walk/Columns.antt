-- What the code compares: which channel of a file has a label, and those of its samples that count, as a list.
use Rattle.std.specs.Prelude.{ℕ, ◌+◌, ◌==◌, ℤ, Bool, ◌&&◌, if◌then◌else◌, List, [], ◌∷◌, map, filter, Option, Some, None}
use Rattle.edf_pace.specs.Words.{keeps_instant, ClaimValue, channels_among, SignalHead, Head, Point, ChannelPlace}
use Rattle.std.specs.Str.{bytes_eq}
use Rattle.edf_stream.specs.declared.samples.sample.Sample.{Sample}
use Rattle.edf_samples.specs.Instants.{later}

-- the first of these channels, the first of which has number k, that has the label
abbrev pub place_from : List ℕ → ℕ → List SignalHead → Option ChannelPlace
place_from label k [] = None
place_from label k (x ∷ xs) = if bytes_eq x.label label then Some (record { number = k; samples = x.samples }) else place_from label (k + 1) xs

-- the channel of this label in a file with this header
unfoldable pub channel_at : List ℕ → Head → Option ChannelPlace
channel_at label h = place_from label 0 (channels_among h.signals)

-- a file: its header, its samples, and by how many picoseconds they are moved, so that they count from the second at which the
-- original starts, before the shift
pub record Sampled : Type 0 where
  pub head : Head
  pub samples : List Sample
  pub moved : ℤ

-- a sample of a channel at its instant so many picoseconds later
abbrev pub point_of : ℤ → Sample → Point
point_of ps x = record { num = (later ps x.instant).num; value = x.value }

-- the sample is one of the channel of this number
abbrev pub is_of : ℕ → Sample → Bool
is_of channel x = x.channel == channel

-- it is, and its instant, so many picoseconds later, is in an interval of the claim
abbrev pub is_kept : ClaimValue → ℕ → ℤ → Sample → Bool
is_kept claim channel ps x = is_of channel x && keeps_instant claim (later ps x.instant).num (x.instant).den

-- those of the samples that pass a test
abbrev pub points_of : (Sample → Bool) → ℤ → List Sample → List Point
points_of test ps samples = map (point_of ps) (filter test samples)
