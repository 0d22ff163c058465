-- The samples of a file that conforms: they are those of the list, and one stands at an instant.
use Rattle.std.proofs.Common.{◌≡◌, ℕ, ℤ, pos, true, false, ◌+◌, ◌*◌, ◌<◌, ◌+ℤ◌, ◌*ℤ◌, ◌≤ℤ◌, ◌<ℤ◌, List, [], map, Some, slice_get, inl, inr, sym, ap, ◌∙◌, subst, arith}
use Rattle.std.specs.Option.{option_map_or}
use Rattle.std.proofs.lemmas.Int.{ints, by_lt_z}
use Rattle.std.proofs.Math.Nat.{mul-lt-mul_of_pos_right}
use borrow.Author.Differences.{up, down}
use Rattle.std.proofs.lemmas.Bool.{cases_lt}
use Rattle.edf_fields.specs.Lists.{Has}
use Rattle.edf_fields.proofs.ForCallers.{has-map, map-has, not-true, not-is, has-at, at-has}
use Rattle.edf_header.specs.signals.Channels.{channels_among}
use Rattle.edf_header.specs.Heads.{SignalHead, Head, is_annotations}
use Rattle.edf_stream.specs.declared.samples.sample.Sample.{Sample}
use Rattle.edf_stream.specs.Conforming.{Conforms}
use Rattle.edf_stream.specs.Laws.{SamplesAreListed, SamplesAreOfChannels, SamplesRise, OneAtAnInstant}
use Rattle.edf_stream.specs.annotation.NotesReading.{notes_in}
use Rattle.edf_stream.specs.records.Records.{record_at, lane_of}
use Rattle.edf_stream.specs.samples.Samples.{SampleValue, IsSample}
use Rattle.edf_stream.specs.samples.SamplesReading.{samples_by, samples_before, samples_of, channel_label, labelled}
use Rattle.edf_stream.specs.times.Starts.{file_start}
use Rattle.edf_stream.specs.times.StartsReading.{start_at, end_at}
use Rattle.edf_stream.specs.samples.Values.{digital_value}
use Rattle.edf_stream.proofs.samples.MemberFacts.{placed, InFile, file-has, has-file, has-in, has-record, channel-among, among-channel}
use Rattle.edf_stream.proofs.records.ReadFacts.{says-read, sample-at}
use Rattle.edf_stream.proofs.samples.RisingFacts.{scale-mono, steps-below, not-before-start, before-end, lasts, starts-behind, lane-full, before-rising}

-- the list of samples, and those of all data records
listed : (file : List ℕ) (h : Head) (x : Sample) → Has (samples_of file h) x → InFile file h h.records x
unfolding samples_of
listed file h x i = file-has file h h.records x i

list-has : (file : List ℕ) (h : Head) (x : Sample) → Has (samples_before file h h.records) x → Has (samples_of file h) x
unfolding samples_of
list-has file h x i = i

-- the label of a channel by its number
label-is : (h : Head) (c : ℕ) (signal : SignalHead) → slice_get (channels_among h.signals) c ≡ Some signal → channel_label h c ≡ signal.label
label-is h c signal e = ap (λ o. option_map_or (λ (x : SignalHead). x.label) o []) e

-- a sample of the list is one of the file
listed-is : (file : List ℕ) (h : Head) (x : Sample) → Conforms file h → Has (samples_of file h) x → IsSample file h (labelled h x)
listed-is file h x c i =
    let r = listed file h x i in
    let found = r.found in
    let signal = found.signal in
    let k = r.data_record in
    let s = channel-among h.signals found.at signal found.there in
    let full = lane-full file h k s.0 signal c r.below s.1 in
    let is = (found.lane).is in
    let den : (x.instant).den ≡ signal.samples = ap (λ (z : Sample). (z.instant).den) is in
    let numbered : x.channel ≡ 0 + found.at = ap (λ (z : Sample). z.channel) is in
    let at : x.channel ≡ found.at = omega (arith, numbered) in
    let label : signal.label ≡ channel_label h x.channel = sym (label-is h found.at signal found.there) ∙ ap (channel_label h) (sym at) in
    let start = file_start h +ℤ start_at file h k in
    record {
      signal = signal;
      data_record = k;
      place = (found.lane).place;
      start = start_at file h k;
      notes = notes_in h (record_at file h k);
      channel = record { there = has-at h.signals s.0 signal s.1; labelled = (label, ap is_annotations (sym label) ∙ not-true (is_annotations signal.label) s.2) };
      count = den;
      in_file = r.below;
      in_lane = (let w = (found.lane).within in omega (arith, full, w, den));
      says = says-read file h c k r.below;
      instant = ap (λ (z : Sample). (z.instant).num) is ∙ ap (λ n. (pos n *ℤ start) +ℤ (pos (found.lane).place *ℤ h.duration)) (sym den);
      value_is = ap (λ (z : Sample). z.value) is;
    }

same-sample : (x y : SampleValue) → x.label ≡ y.label → (x.instant).num ≡ (y.instant).num → (x.instant).den ≡ (y.instant).den → x.value ≡ y.value → x ≡ y
same-sample x y label num den value =
    let make : List ℕ → ℤ → ℕ → ℤ → SampleValue = λ l a n v. record { label = l; instant = record { num = a; den = n }; value = v } in
    ap (λ l. make l (x.instant).num (x.instant).den x.value) label
    ∙ ap (λ a. make y.label a (x.instant).den x.value) num
    ∙ ap (λ n. make y.label (y.instant).num n x.value) den
    ∙ ap (make y.label (y.instant).num (y.instant).den) value

-- a sample of the file is one of the list
is-listed : (file : List ℕ) (h : Head) (x : SampleValue) → Conforms file h → IsSample file h x → (y : Sample) × Has (samples_of file h) y × (labelled h y ≡ x)
is-listed file h x c r =
    let signal = r.signal in
    let at = at-has h.signals signal (r.channel).there in
    let there = at.1 in
    let named : signal.label ≡ x.label = (r.channel).labelled.0 in
    let plain : is_annotations x.label ≡ false = (r.channel).labelled.1 in
    let count : signal.samples ≡ (x.instant).den = sym r.count in
    let k = r.data_record in
    let bytes = record_at file h k in
    let channel = among-channel h.signals at.0 signal there (not-is (is_annotations signal.label) (λ e. let z : true ≡ false = sym e ∙ ap is_annotations named ∙ plain in cc)) in
    let full = lane-full file h k at.0 signal c r.in_file there in
    let start = file_start h +ℤ start_at file h k in
    let y = placed channel.0 signal.samples (pos signal.samples *ℤ start) h.duration (lane_of signal bytes) r.place in
    let z : 0 + channel.0 ≡ channel.0 = omega arith in
    let here : Has (samples_by 0 start h.duration (channels_among h.signals) bytes) y =
    subst (λ m. Has (samples_by 0 start h.duration (channels_among h.signals) bytes) (placed m signal.samples (pos signal.samples *ℤ start) h.duration (lane_of signal bytes) r.place)) z
    (has-record 0 start h.duration (channels_among h.signals) bytes channel.0 signal r.place channel.1 (omega (arith, full, r.in_lane, count))) in (
      y,
      list-has file h y (has-file file h h.records k y r.in_file (has-in h bytes y here)),
      same-sample (labelled h y) x (label-is h channel.0 signal channel.1 ∙ named)
          (ap (λ n. (pos n *ℤ start) +ℤ (pos r.place *ℤ h.duration)) count ∙ sym (sample-at file h x r)) count
          (sym r.value_is),
    )

pub samples_are_listed : SamplesAreListed
samples_are_listed file h c x = (
  λ r. let found = is-listed file h x c r in subst (Has (map (labelled h) (samples_of file h))) found.2 (has-map (labelled h) (samples_of file h) found.0 found.1),
  λ i. let found = map-has (labelled h) (samples_of file h) x i in subst (IsSample file h) found.2 (listed-is file h found.0 c found.1),
)

pub samples_are_of_channels : SamplesAreOfChannels
samples_are_of_channels file h x i =
    let found = (listed file h x i).found in
    let is = (found.lane).is in
    let numbered : x.channel ≡ 0 + found.at = ap (λ (z : Sample). z.channel) is in
    let at : found.at ≡ x.channel = omega (arith, numbered) in
    (found.signal, subst (λ k. slice_get (channels_among h.signals) k ≡ Some found.signal) at found.there, ap (λ (z : Sample). (z.instant).den) is)

pub samples_rise : SamplesRise
unfolding samples_of
samples_rise file h c = before-rising file h h.records c (omega arith)

-- products with a factor above 0 grow, and equal ones have equal factors
pub scaled-below : (x y : ℤ) (n : ℕ) → 0 < n → x <ℤ y → (x *ℤ pos n) <ℤ (y *ℤ pos n)
scaled-below x y n some lt =
    let e : up x + down y < up y + down x = omega (arith, ints) in
    let f : (up x + down y) * n < (up y + down x) * n = mul-lt-mul_of_pos_right e some in
    omega (arith, ints)

cancel : (n : ℕ) (x y : ℤ) → 0 < n → x *ℤ pos n ≡ y *ℤ pos n → x ≡ y
cancel n x y some e =
    by_lt_z x y
    (λ lt. absurd (let f = scaled-below x y n some lt in omega (arith, ints, e, f)))
    (λ le. by_lt_z y x (λ lt. absurd (let f = scaled-below y x n some lt in omega (arith, ints, e, f))) (λ ge. omega (arith, ints, le, ge)))

-- of two data records a sample of the earlier one is the earlier one
earlier : (file : List ℕ) (h : Head) (k j n i i' : ℕ) (x y : ℤ) → Conforms file h → k < j → j < h.records → i < n
    → x ≡ (pos n *ℤ (file_start h +ℤ start_at file h k)) +ℤ (pos i *ℤ h.duration)
    → y ≡ (pos n *ℤ (file_start h +ℤ start_at file h j)) +ℤ (pos i' *ℤ h.duration) → x <ℤ y
earlier file h k j n i i' x y c lt within few ex ey =
    let f = file_start h in
    let follows : end_at file h k ≤ℤ start_at file h j = starts-behind file h k j c lt within in
    let low = before-end n i (f +ℤ start_at file h k) h.duration x (lasts file h c) few ex in
    let high = not-before-start n i' (f +ℤ start_at file h j) h.duration y (lasts file h c) ey in
    let q : (pos n *ℤ ((f +ℤ start_at file h k) +ℤ h.duration)) ≤ℤ (pos n *ℤ (f +ℤ start_at file h j)) =
    scale-mono n ((f +ℤ start_at file h k) +ℤ h.duration) (f +ℤ start_at file h j) (omega (arith, ints, follows)) in
    omega (arith, ints, low, high, q)

-- one instant has one place in a lane
one-place : (i j : ℕ) (d s : ℤ) → pos 0 <ℤ d → s +ℤ (pos i *ℤ d) ≡ s +ℤ (pos j *ℤ d) → i ≡ j
one-place i j d s p e =
    elim (cases_lt i j) [
      | inl lt ↦ absurd (let f = steps-below i j d p lt in omega (arith, ints, e, f))
      | inr le ↦ elim (cases_lt j i) [
        | inl lt ↦ absurd (let f = steps-below j i d p lt in omega (arith, ints, e, f))
        | inr ge ↦ omega (arith, le, ge)
      ]
    ]

-- one instant is in one data record
one-record : (file : List ℕ) (h : Head) (k j n i i' : ℕ) (x y : ℤ) → Conforms file h → k < h.records → j < h.records → i < n → i' < n
    → x ≡ (pos n *ℤ (file_start h +ℤ start_at file h k)) +ℤ (pos i *ℤ h.duration)
    → y ≡ (pos n *ℤ (file_start h +ℤ start_at file h j)) +ℤ (pos i' *ℤ h.duration) → x ≡ y → k ≡ j
one-record file h k j n i i' x y c here there few few' ex ey e =
    elim (cases_lt k j) [
      | inl lt ↦ absurd (let f = earlier file h k j n i i' x y c lt there few ex ey in omega (arith, ints, e, f))
      | inr le ↦ elim (cases_lt j k) [
        | inl lt ↦ absurd (let f = earlier file h j k n i' i y x c lt here few' ey ex in omega (arith, ints, e, f))
        | inr ge ↦ omega (arith, le, ge)
      ]
    ]

pub one_at_an_instant : OneAtAnInstant
one_at_an_instant file h c x y p q label same =
    let one = at-has h.signals p.signal (p.channel).there in
    let two = at-has h.signals q.signal (q.channel).there in
    let named : p.signal.label ≡ x.label = (p.channel).labelled.0 in
    let other : q.signal.label ≡ y.label = (q.channel).labelled.0 in
    let number : one.0 ≡ two.0 =
    ((c.header).standard).distinct one.0 two.0 p.signal q.signal one.1 two.1 (ap is_annotations named ∙ (p.channel).labelled.1) (named ∙ label ∙ sym other) in
    let signal : p.signal ≡ q.signal = (let z : Some p.signal ≡ Some q.signal = sym one.1 ∙ ap (slice_get h.signals) number ∙ two.1 in cc) in
    let den : (y.instant).den ≡ (x.instant).den = q.count ∙ ap (λ (z : SignalHead). z.samples) (sym signal) ∙ sym p.count in
    let n = (x.instant).den in
    let start : ℕ → ℤ = λ k. pos n *ℤ (file_start h +ℤ start_at file h k) in
    let num : (x.instant).num ≡ (y.instant).num =
    cancel n (x.instant).num (y.instant).num (omega (arith, p.in_lane)) (ap (λ m. (x.instant).num *ℤ pos m) (sym den) ∙ same) in
    let at : (y.instant).num ≡ start q.data_record +ℤ (pos q.place *ℤ h.duration) = sample-at file h y q ∙ ap (λ m. (pos m *ℤ (file_start h +ℤ start_at file h q.data_record)) +ℤ (pos q.place *ℤ h.duration)) den in
    let few : q.place < n = subst (λ m. q.place < m) den q.in_lane in
    let k : p.data_record ≡ q.data_record = one-record file h p.data_record q.data_record n p.place q.place (x.instant).num (y.instant).num c p.in_file q.in_file p.in_lane few (sample-at file h x p) at num in
    let place : p.place ≡ q.place =
    one-place p.place q.place h.duration (start q.data_record) (lasts file h c)
    (ap (λ m. start m +ℤ (pos p.place *ℤ h.duration)) (sym k) ∙ sym (sample-at file h x p) ∙ num ∙ at) in
    let value : x.value ≡ y.value =
    p.value_is ∙ ap (λ m. digital_value (lane_of p.signal (record_at file h m)) p.place) k
    ∙ ap (λ (z : SignalHead). digital_value (lane_of z (record_at file h q.data_record)) p.place) signal
    ∙ ap (digital_value (lane_of q.signal (record_at file h q.data_record))) place ∙ sym q.value_is in
    same-sample x y label num (sym den) value
