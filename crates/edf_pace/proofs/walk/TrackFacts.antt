-- The channel of a label in a header, and the lane of a channel.
use Rattle.std.proofs.Common.{◌≡◌, ℕ, ◌*◌, ◌<◌, [], List, length, Option, Some, None, slice_get, refl, sym, ap, ◌∙◌, subst, arith}
use Rattle.std.specs.Option.{option_map_or}
use Rattle.edf_fields.proofs.ForCallers.{has-at, get-within, has-filtered, not-true}
use Rattle.edf_header.specs.Heads.{SignalHead, Head, is_annotations}
use Rattle.edf_header.specs.Sound.{IsSound}
use Rattle.edf_header.specs.signals.Channels.{channels_among}
use Rattle.edf_header.specs.signals.ChannelsReading.{is_ordinary}
use Rattle.edf_heads.specs.differences.ChannelDifferences.{HasNoChannel}
use Rattle.edf_heads.specs.ChannelIndexes.{IsChannelAt}
use Rattle.edf_heads.specs.declared.channel_index.Channel.{Channel}
use Rattle.edf_stream.specs.records.Records.{lane_of}
use Rattle.edf_stream.specs.records.RecordsReading.{lane_bytes, lane_in, samples_at}
use Rattle.edf_pace.specs.declared.walk.channel_place.ChannelPlace.{ChannelPlace}
use Rattle.edf_pace.specs.declared.walk.track.Track.{Track}
use Rattle.edf_pace.specs.walk.Columns.{channel_at}
use Rattle.edf_pace.specs.walk.Pairs.{IsPlaceIn, IsTrack}
use Rattle.edf_pace.proofs.walk.PlaceFacts.{at-found, at-there, one-number, channels-distinct, channel-bounds}

pub track_within : (h : Head) (track : Track) → IsTrack h track → track.signal < length h.signals
track_within h track t = get-within h.signals track.signal (t.place).channel t.stands

pub lane_is : (h : Head) (track : Track) (t : IsTrack h track) (bytes lane : List ℕ) → lane ≡ lane_in h bytes track.signal → lane ≡ lane_of (t.place).channel bytes
lane_is h track t bytes lane e = e ∙ ap (λ o. option_map_or (λ (s : SignalHead). lane_of s bytes) o []) t.stands

pub lane_whole : (h : Head) (track : Track) (n : ℕ) → IsTrack h track → n ≡ lane_bytes h track.signal → n ≡ 2 * track.place.samples
lane_whole h track n t e =
    let count : samples_at h track.signal ≡ track.place.samples = ap (λ o. option_map_or (λ (s : SignalHead). s.samples) o 0) t.stands ∙ sym (t.place).samples in
    omega (arith, e, count)

-- ---- the channel of a label

one-place-of : (p q : ChannelPlace) → p.number ≡ q.number → p.samples ≡ q.samples → p ≡ q
one-place-of p q number samples = ap (λ n. record { number = n; samples = p.samples }) number ∙ ap (λ m. record { number = q.number; samples = m }) samples

-- the track of a label is that of its channel
pub track_found : (h : Head) (label : List ℕ) (track : Track) → IsSound h → (t : IsTrack h track) → (t.place).channel.label ≡ label → Some track.place ≡ channel_at label h
track_found h label track sound t named = by-case (channel_at label h) refl
  where
    p : IsPlaceIn h track.place
    p = t.place

    by-case : (o : Option ChannelPlace) → channel_at label h ≡ o → Some track.place ≡ o
    by-case None e = absurd (at-there h label e p.channel (has-at (channels_among h.signals) track.place.number p.channel p.there) named)
    by-case (Some place) e =
        let r = at-found h label place e in
        let one : track.place.number ≡ r.at =
        one-number (channels_among h.signals) (channels-distinct h sound) track.place.number r.at p.channel r.channel p.there r.there (named ∙ sym r.labelled) in
        let number = r.number in
        let there : slice_get (channels_among h.signals) r.at ≡ Some p.channel = ap (slice_get (channels_among h.signals)) (sym one) ∙ p.there in
        let channels : Some p.channel ≡ Some r.channel = sym there ∙ r.there in
        let channel : p.channel ≡ r.channel = cc in
        let samples : track.place.samples ≡ place.samples = p.samples ∙ ap (λ (s : SignalHead). s.samples) channel ∙ sym r.samples in
        let numbers : track.place.number ≡ place.number = omega (arith, one, number) in
        ap Some (one-place-of track.place place numbers samples)

-- where no channel has the label, there is no place of one
pub track_missing : (h : Head) (label : List ℕ) → HasNoChannel h label → None ≡ channel_at label h
track_missing h label nowhere = by-case (channel_at label h) refl
  where
    by-case : (o : Option ChannelPlace) → channel_at label h ≡ o → None ≡ o
    by-case None e = refl
    by-case (Some place) e = let r = at-found h label place e in
        let c = has-filtered is_ordinary h.signals r.channel (has-at (channels_among h.signals) r.at r.channel r.there) in
        absurd (nowhere (r.channel, record { there = c.0; labelled = (r.labelled, ap is_annotations (sym r.labelled) ∙ not-true (is_annotations r.channel.label) c.1) }))

-- where a channel of the header stands
pub track-of : (h : Head) (c : Channel) (track : Track) → IsSound h → IsChannelAt h c → track ≡ record { signal = c.at; place = record { number = c.number; samples = (c.signal.now).samples } } → IsTrack h track
track-of h c track sound at is =
    let bounds = channel-bounds h c.signal.now sound (has-at (channels_among h.signals) c.number c.signal.now at.counted) in
    let mine : IsTrack h (record { signal = c.at; place = record { number = c.number; samples = (c.signal.now).samples } }) = record {
      place = record { channel = c.signal.now; there = at.counted; samples = refl; some = bounds.0; few = bounds.1 };
      stands = at.stands;
    } in
    subst (IsTrack h) (sym is) mine

pub track-named : (h : Head) (label : List ℕ) (c : Channel) (track : Track) → IsSound h → IsChannelAt h c → (c.signal.now).label ≡ label
    → track ≡ record { signal = c.at; place = record { number = c.number; samples = (c.signal.now).samples } } → Some track.place ≡ channel_at label h
track-named h label c track sound at named is =
    let t = track-of h c track sound at is in
    let number : track.place.number ≡ c.number = ap (λ (u : Track). u.place.number) is in
    let same : Some (t.place).channel ≡ Some c.signal.now = sym (t.place).there ∙ ap (slice_get (channels_among h.signals)) number ∙ at.counted in
    let channel : (t.place).channel ≡ c.signal.now = cc in
    track_found h label track sound t (ap (λ (x : SignalHead). x.label) channel ∙ named)
