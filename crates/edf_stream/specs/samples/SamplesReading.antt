-- The samples of a file, as they are read.
use Rattle.std.specs.Prelude.{◌≡◌, ℕ, zero, suc, ℤ, pos, ◌+◌, ◌+ℤ◌, ◌*ℤ◌, ◌<ℤ◌, List, [], ◌∷◌, ◌++◌, slice_get}
use Rattle.std.specs.Option.{option_map_or}
use Rattle.edf_fields.specs.Lists.{Has}
use Rattle.edf_header.specs.signals.Channels.{channels_among}
use Rattle.edf_header.specs.Heads.{SignalHead, Head}
use Rattle.edf_stream.specs.declared.times.lane_times.LaneTimes.{LaneTimes}
use Rattle.edf_stream.specs.declared.times.instant.Instant.{Instant}
use Rattle.edf_stream.specs.declared.samples.sample.Sample.{Sample}
use Rattle.edf_stream.specs.records.Records.{record_at, lane_of}
use Rattle.edf_stream.specs.times.Starts.{file_start}
use Rattle.edf_stream.specs.times.StartsReading.{start_in}
use Rattle.edf_stream.specs.samples.Values.{digital}
use Rattle.edf_stream.specs.samples.Samples.{SampleValue}

-- the instant of the sample at a place of a lane on this grid
abbrev pub instant_on : LaneTimes → ℕ → Instant
instant_on grid place = record { num = grid.start +ℤ (pos place *ℤ grid.step); den = grid.den }

-- the samples of a lane of channel c, with n samples in a data record, in order: the first at the numerator a, each further one a step d behind
abbrev pub lane_samples : ℕ → ℕ → ℤ → ℤ → List ℕ → List Sample
lane_samples c n a d [] = []
lane_samples c n a d (byte ∷ []) = []
lane_samples c n a d (low ∷ high ∷ rest) = record { channel = c; instant = record { num = a; den = n }; value = digital low high } ∷ lane_samples c n (a +ℤ d) d rest

-- the samples of these channels, the first of which is channel c, in the bytes of a data record that starts there and lasts so long
abbrev pub samples_by : ℕ → ℤ → ℤ → List SignalHead → List ℕ → List Sample
samples_by c start duration [] bytes = []
samples_by c start duration (signal ∷ signals) bytes =
    lane_samples c signal.samples (pos signal.samples *ℤ start) duration (lane_of signal bytes) ++ samples_by (c + 1) start duration signals bytes

-- the samples of the data record of these bytes, in order of channel and place
unfoldable pub samples_in : Head → List ℕ → List Sample
samples_in h bytes = samples_by 0 (file_start h +ℤ start_in h bytes) h.duration (channels_among h.signals) bytes

-- the samples of the first k data records, in their order
abbrev pub samples_before : List ℕ → Head → ℕ → List Sample
samples_before file h zero = []
samples_before file h (suc k) = samples_before file h k ++ samples_in h (record_at file h k)

-- the samples of a file
unfoldable pub samples_of : List ℕ → Head → List Sample
samples_of file h = samples_before file h h.records

-- the label of channel c
abbrev pub channel_label : Head → ℕ → List ℕ
channel_label h c = option_map_or (λ signal. signal.label) (slice_get (channels_among h.signals) c) []

-- a sample with the label of its channel
abbrev pub labelled : Head → Sample → SampleValue
labelled h x = record { label = channel_label h x.channel; instant = x.instant; value = x.value }

-- within each channel the numerators rise from one sample to each later one
abbrev pub AreRising : List Sample → Type 0
AreRising [] = Unit {0}
AreRising (x ∷ xs) = ((y : Sample) → Has xs y → y.channel ≡ x.channel → (x.instant).num <ℤ (y.instant).num) × AreRising xs
