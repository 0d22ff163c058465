-- Where the channels of a label stand in two files, and whether they lie at the same places in the data records of both. These are steps
-- between the definitions and the code.
use Rattle.std.specs.Prelude.{◌≡◌, ◌<◌, ◌≤◌, ◌^◌, List, Option, Some, option_map, slice_get, IfSome, ℕ, map, ◌+ℤ◌, ℤ, Bool, ◌&&◌, take, true}
use Rattle.edf_pace.specs.Words.{Bor, All, channels_among, SignalHead, Head, ChannelPlace, Pair, Track, int_eq, Reader, is_current, file_start, start_in, Frame}
use Rattle.edf_stream.specs.records.RecordsReading.{lane_in}
use Rattle.edf_pace.specs.walk.Columns.{channel_at}

-- the channels of a label in two files, where there are such
abbrev pub Places : Type 0
Places = Option ChannelPlace × Option ChannelPlace

-- the place is that of a channel of the header, and how many samples it has in a data record
pub record IsPlaceIn (h : Head) (place : ChannelPlace) : Type 0 where
  pub channel : SignalHead
  pub there : slice_get (channels_among h.signals) place.number ≡ Some channel
  pub samples : place.samples ≡ channel.samples
  pub some : 0 < place.samples
  pub few : place.samples ≤ 2 ^ 23

-- the same of a track: the channel is the signal of this number
pub record IsTrack (h : Head) (track : Track) : Type 0 where
  pub place : IsPlaceIn h track.place
  pub stands : slice_get h.signals track.signal ≡ Some place.channel

-- the tracks of each pair are channels of their files
abbrev pub ArePairs : Head → Head → List Pair → Type 0
ArePairs h g pairs = All (λ p. IfSome p.original (IsTrack h) × IfSome p.export (IsTrack g)) pairs

-- where the channels of a pair stand
abbrev pub places_of : Pair → Places
places_of p = (option_map (λ track. track.place) p.original, option_map (λ track. track.place) p.export)

-- where the channels of these labels stand in two files
abbrev pub places_in : Head → Head → List (Bor (List ℕ)) → List Places
places_in h g labels = map (λ label. (channel_at label.now h, channel_at label.now g)) labels

-- two channels have as many samples, and the same lanes in data records of the same first n bytes
abbrev pub AreLanesAlike : Head → Head → ℕ → Track → Track → Type 0
AreLanesAlike h g n x y = (x.place.samples ≡ y.place.samples) × ((xs ys : List ℕ) → take n xs ≡ take n ys → lane_in h xs x.signal ≡ lane_in g ys y.signal)

-- so have those of a pair
abbrev pub AreLaidAlike : Head → Head → ℕ → Pair → Type 0
AreLaidAlike h g n pair = (x y : Track) → pair.original ≡ Some x → pair.export ≡ Some y
    → AreLanesAlike h g n x y

-- the data records at hand of two readers, one moved by a, the other by b, begin at one time and last as long
abbrev pub are_together : Reader → Reader → ℤ → ℤ → Bool
are_together r s a b =
    int_eq ((file_start r.head +ℤ a) +ℤ start_in r.head r.current) ((file_start s.head +ℤ b) +ℤ start_in s.head s.current)
    && int_eq (r.head).duration (s.head).duration

-- two readers, one moved by a, the other by b, have data records at hand that begin at one time, last as long, and have the same first n bytes
pub record AreRecordsAlike (r s : Reader) (n : ℕ) (a b : ℤ) : Type 0 where
  pub original : is_current r.status ≡ true
  pub export : is_current s.status ≡ true
  pub together : are_together r s a b ≡ true
  pub bytes : take n r.current ≡ take n s.current

-- the channels of the pairs stand in both files, and lie at the same places in as many bytes as are said
abbrev pub IsFrame : Head → Head → Frame → Type 0
IsFrame h g frame = ArePairs h g (frame.pairs).now × IfSome frame.room (λ n. All (AreLaidAlike h g n) (frame.pairs).now)

-- the data records at hand show the same channels alike
abbrev pub AreAlikeIn : Frame → Reader → Reader → Type 0
AreAlikeIn frame r s = (n : ℕ) × (frame.room ≡ Some n) × AreRecordsAlike r s n (((frame.turn).setting.clock).original).ps (((frame.turn).setting.clock).export).ps
