-- The samples of a channel rise in time.
use Rattle.std.proofs.Common.{◌≡◌, ℕ, zero, suc, ℤ, pos, ◌+◌, ◌*◌, ◌<◌, ◌≤◌, ◌+ℤ◌, ◌*ℤ◌, ◌≤ℤ◌, ◌<ℤ◌, List, [], ◌∷◌, ◌++◌, length, drop, Some, slice_get, inl, inr, ⊎_elim, refl, sym, ap, ◌∙◌, subst, arith, length-take, length-drop}
use Rattle.std.specs.Option.{option_map_or}
use Rattle.std.proofs.lemmas.Int.{ints}
use Rattle.std.proofs.lemmas.Bool.{cases_lt}
use Rattle.edf_fields.specs.Lists.{Has}
use Rattle.edf_fields.proofs.ForCallers.{has-append}
use Rattle.edf_header.specs.Heads.{SignalHead, Head, record_bytes}
use Rattle.edf_stream.specs.declared.samples.sample.Sample.{Sample}
use Rattle.edf_stream.specs.records.Records.{record_at, lane_of}
use Rattle.edf_stream.specs.records.RecordsReading.{record_place}
use Rattle.edf_stream.specs.times.Starts.{file_start}
use Rattle.edf_stream.specs.times.StartsReading.{start_in, start_at, end_at}
use Rattle.edf_header.specs.signals.Channels.{channels_among}
use Rattle.edf_stream.specs.Conforming.{Conforms}
use Rattle.edf_stream.specs.samples.SamplesReading.{lane_samples, samples_by, samples_in, samples_before, AreRising}
use Rattle.edf_stream.proofs.FaultlessFacts.{records_follow_on}
use Rattle.edf_stream.proofs.records.ReadFacts.{sound-of}
use Rattle.edf_stream.proofs.records.SignalFacts.{lane_long}
use Rattle.edf_stream.proofs.samples.MemberFacts.{InRecord, lane-has, record-has, in-has, file-has, channel-among}

-- a product grows with either factor
pub scale-mono : (n : ℕ) (x y : ℤ) → x ≤ℤ y → (pos n *ℤ x) ≤ℤ (pos n *ℤ y)
scale-mono zero x y h = omega (arith, ints)
scale-mono (suc n) x y h =
    let r : (pos n *ℤ x) ≤ℤ (pos n *ℤ y) = scale-mono n x y h in
    omega (arith, ints)

pub steps-mono : (i j : ℕ) (d : ℤ) → pos 0 ≤ℤ d → i ≤ j → (pos i *ℤ d) ≤ℤ (pos j *ℤ d)
steps-mono i zero d p h = let e : i ≡ 0 = omega arith in rw e (omega (arith, ints))
steps-mono i (suc j) d p h =
    elim (cases_lt j i) [
      | inl lt ↦ let e : i ≡ suc j = omega arith in rw e (omega (arith, ints))
      | inr le ↦ let r : (pos i *ℤ d) ≤ℤ (pos j *ℤ d) = steps-mono i j d p le in omega (arith, ints)
    ]

pub steps-below : (i j : ℕ) (d : ℤ) → pos 0 <ℤ d → i < j → (pos i *ℤ d) <ℤ (pos j *ℤ d)
steps-below i j d p h =
    let r : (pos (suc i) *ℤ d) ≤ℤ (pos j *ℤ d) = steps-mono (suc i) j d (omega (arith, ints)) (omega arith) in
    omega (arith, ints)

pub scale-sum : (n : ℕ) (x y : ℤ) → pos n *ℤ (x +ℤ y) ≡ (pos n *ℤ x) +ℤ (pos n *ℤ y)
scale-sum n x y = sums n x y (x +ℤ y) refl
  where
    sums : (n : ℕ) (x y z : ℤ) → z ≡ x +ℤ y → pos n *ℤ z ≡ (pos n *ℤ x) +ℤ (pos n *ℤ y)
    sums zero x y z e = omega (arith, ints)
    sums (suc n) x y z e = let r : pos n *ℤ z ≡ (pos n *ℤ x) +ℤ (pos n *ℤ y) = sums n x y z e in omega (arith, ints)

-- the sample at a place of a lane of n samples, in a data record that starts at s and lasts d: it isn't before the start, and it is before the end
pub not-before-start : (n i : ℕ) (s d num : ℤ) → pos 0 <ℤ d → num ≡ (pos n *ℤ s) +ℤ (pos i *ℤ d) → (pos n *ℤ s) ≤ℤ num
not-before-start n i s d num p e =
    let z : (pos 0 *ℤ d) ≤ℤ (pos i *ℤ d) = steps-mono 0 i d (omega (arith, ints)) (omega arith) in
    omega (arith, ints)

pub before-end : (n i : ℕ) (s d num : ℤ) → pos 0 <ℤ d → i < n → num ≡ (pos n *ℤ s) +ℤ (pos i *ℤ d) → num <ℤ (pos n *ℤ (s +ℤ d))
before-end n i s d num p lt e =
    let q : (pos i *ℤ d) <ℤ (pos n *ℤ d) = steps-below i n d p lt in
    let sum = scale-sum n s d in
    omega (arith, ints)

-- a data record of a file that conforms lasts some time
pub lasts : (file : List ℕ) (h : Head) → Conforms file h → pos 0 <ℤ h.duration
lasts file h c = let some : pos 1 ≤ℤ h.duration = (c.header).standard.some_time in omega (arith, ints, some)

-- each data record starts where an earlier one ends, or later
pub starts-behind : (file : List ℕ) (h : Head) (k j : ℕ) → Conforms file h → k < j → j < h.records → end_at file h k ≤ℤ start_at file h j
starts-behind file h k zero c lt within = absurd (omega (arith, lt))
starts-behind file h k (suc j) c lt within =
    let next : end_at file h j ≤ℤ start_at file h (suc j) = records_follow_on file h c j within in
    elim (cases_lt k j) [
      | inl less ↦
          let q : end_at file h k ≤ℤ start_at file h j = starts-behind file h k j c less (omega (arith, within)) in
          let p = lasts file h c in
          omega (arith, ints, q, p, next)
      | inr le ↦ let e : k ≡ j = omega (arith, lt, le) in subst (λ m. end_at file h m ≤ℤ start_at file h (suc j)) (sym e) next
    ]

-- a data record of a file that conforms is there as a whole
pub record-long : (file : List ℕ) (h : Head) (k : ℕ) → Conforms file h → k < h.records → length (record_at file h k) ≡ record_bytes h
record-long file h k c lt =
    let size = c.size in
    let next : record_place h (suc k) ≤ record_place h h.records = grows (suc k) h.records (omega (arith, lt)) in
    let one : record_place h (suc k) ≡ record_place h k + record_bytes h = omega arith in
    omega (arith, size, next, one, length-take (record_bytes h) (drop (record_place h k) file), length-drop (record_place h k) file)
  where
    grows : (i j : ℕ) → i ≤ j → record_place h i ≤ record_place h j
    grows i zero le = let e : i ≡ 0 = omega (arith, le) in rw e (omega arith)
    grows i (suc j) le =
        elim (cases_lt j i) [
          | inl less ↦ let e : i ≡ suc j = omega (arith, le, less) in rw e (omega arith)
          | inr few ↦ let r = grows i j few in omega (arith, r)
        ]

-- and a signal has there as many samples as its header says
pub lane-full : (file : List ℕ) (h : Head) (k s : ℕ) (signal : SignalHead) → Conforms file h → k < h.records → slice_get h.signals s ≡ Some signal
    → length (lane_of signal (record_at file h k)) ≡ 2 * signal.samples
lane-full file h k s signal c lt e =
    let bytes = record_at file h k in
    ap (λ o. length (option_map_or (λ (x : SignalHead). lane_of x bytes) o [])) (sym e)
    ∙ lane_long h bytes s (sound-of file h c) (record-long file h k c lt)
    ∙ ap (λ o. 2 * option_map_or (λ (x : SignalHead). x.samples) o 0) e

pub rising-join : (xs ys : List Sample) → AreRising xs → AreRising ys → ((x y : Sample) → Has xs x → Has ys y → y.channel ≡ x.channel → (x.instant).num <ℤ (y.instant).num) → AreRising (xs ++ ys)
rising-join [] ys ax ay h = ay
rising-join (x ∷ xs) ys ax ay h = (
  λ y i same. ⊎_elim (λ j. ax.0 y j same) (λ j. h x y (inl refl) j same) (has-append xs ys y i),
  rising-join xs ys ax.1 ay (λ a b i j same. h a b (inr i) j same),
)

lane-rising : (c n : ℕ) (a d : ℤ) (lane : List ℕ) → pos 0 <ℤ d → AreRising (lane_samples c n a d lane)
lane-rising c n a d [] p = tt
lane-rising c n a d (byte ∷ []) p = tt
lane-rising c n a d (low ∷ high ∷ rest) p = (
  λ y h same.
      let r = lane-has c n (a +ℤ d) d rest y h in
      let num : (y.instant).num ≡ (a +ℤ d) +ℤ (pos r.place *ℤ d) = ap (λ (z : Sample). (z.instant).num) r.is in
      let s : (pos 0 *ℤ d) ≤ℤ (pos r.place *ℤ d) = steps-mono 0 r.place d (omega (arith, ints)) (omega arith) in
      omega (arith, ints, num, s, p),
  lane-rising c n (a +ℤ d) d rest p,
)

record-rising : (c : ℕ) (start d : ℤ) (channels : List SignalHead) (bytes : List ℕ) → pos 0 <ℤ d → AreRising (samples_by c start d channels bytes)
record-rising c start d [] bytes p = tt
record-rising c start d (signal ∷ channels) bytes p =
    let n = signal.samples in
    let lane = lane_of signal bytes in
    rising-join (lane_samples c n (pos n *ℤ start) d lane) (samples_by (c + 1) start d channels bytes)
    (lane-rising c n (pos n *ℤ start) d lane p) (record-rising (c + 1) start d channels bytes p)
    (λ x y i j same.
    let here = ap (λ (z : Sample). z.channel) (lane-has c n (pos n *ℤ start) d lane x i).is in
    let r = record-has (c + 1) start d channels bytes y j in
    let there = ap (λ (z : Sample). z.channel) (r.lane).is in
    absurd (omega (arith, same, here, there)))

-- a sample that stands in a data record is before the end of that record, and not before its start
record-below : (file : List ℕ) (h : Head) (k : ℕ) (x : Sample) → Conforms file h → k < h.records
    → (r : InRecord 0 (file_start h +ℤ start_in h (record_at file h k)) h.duration (channels_among h.signals) (record_at file h k) x)
    → (x.instant).num <ℤ (pos (r.signal).samples *ℤ ((file_start h +ℤ start_at file h k) +ℤ h.duration))
record-below file h k x c lt r =
    let signal = r.signal in
    let s = channel-among h.signals r.at signal r.there in
    let full = lane-full file h k s.0 signal c lt s.1 in
    let place : (r.lane).place < signal.samples = omega (arith, full, (r.lane).within) in
    before-end signal.samples (r.lane).place (file_start h +ℤ start_at file h k) h.duration (x.instant).num (lasts file h c) place (ap (λ (z : Sample). (z.instant).num) (r.lane).is)

record-above : (file : List ℕ) (h : Head) (k : ℕ) (x : Sample) → Conforms file h
    → (r : InRecord 0 (file_start h +ℤ start_in h (record_at file h k)) h.duration (channels_among h.signals) (record_at file h k) x)
    → (pos (r.signal).samples *ℤ (file_start h +ℤ start_at file h k)) ≤ℤ (x.instant).num
record-above file h k x c r =
    not-before-start (r.signal).samples (r.lane).place (file_start h +ℤ start_at file h k) h.duration (x.instant).num (lasts file h c) (ap (λ (z : Sample). (z.instant).num) (r.lane).is)

in-rising : (h : Head) (bytes : List ℕ) → pos 0 <ℤ h.duration → AreRising (samples_in h bytes)
unfolding samples_in
in-rising h bytes p = record-rising 0 (file_start h +ℤ start_in h bytes) h.duration (channels_among h.signals) bytes p

-- an end that isn't behind a start, in the numerators of a channel
behind : (n : ℕ) (f end start x y : ℤ) → end ≤ℤ start → x <ℤ (pos n *ℤ (f +ℤ end)) → (pos n *ℤ (f +ℤ start)) ≤ℤ y → x <ℤ y
behind n f end start x y le low high =
    let q : (pos n *ℤ (f +ℤ end)) ≤ℤ (pos n *ℤ (f +ℤ start)) = scale-mono n (f +ℤ end) (f +ℤ start) (omega (arith, ints, le)) in
    omega (arith, ints, q, low, high)

pub before-rising : (file : List ℕ) (h : Head) (k : ℕ) → Conforms file h → k ≤ h.records → AreRising (samples_before file h k)
before-rising file h zero c le = tt
before-rising file h (suc k) c le =
    rising-join (samples_before file h k) (samples_in h (record_at file h k))
    (before-rising file h k c (omega (arith, le))) (in-rising h (record_at file h k) (lasts file h c))
    (λ x y i j same.
    let early = file-has file h k x i in
    let late = in-has h (record_at file h k) y j in
    let m = early.data_record in
    let one = (early.found).signal in
    let other = late.signal in
    let at : (early.found).at ≡ late.at = (
    let here = ap (λ (z : Sample). z.channel) ((early.found).lane).is in
    let there = ap (λ (z : Sample). z.channel) (late.lane).is in
    omega (arith, same, here, there)) in
    let is : other ≡ one = (
    let e : Some other ≡ Some one = sym late.there ∙ ap (slice_get (channels_among h.signals)) (sym at) ∙ (early.found).there in cc) in
    let follows : end_at file h m ≤ℤ start_at file h k = starts-behind file h m k c early.below (omega (arith, le)) in
    let low = record-below file h m x c (omega (arith, early.below, le)) early.found in
    let high = subst (λ (s : SignalHead). (pos s.samples *ℤ (file_start h +ℤ start_at file h k)) ≤ℤ (y.instant).num) is (record-above file h k y c late) in
    let n = one.samples in
    let sum : (file_start h +ℤ start_at file h m) +ℤ h.duration ≡ file_start h +ℤ end_at file h m = omega (arith, ints) in
    behind n (file_start h) (end_at file h m) (start_at file h k) (x.instant).num (y.instant).num follows (subst (λ z. (x.instant).num <ℤ (pos n *ℤ z)) sum low) high)
