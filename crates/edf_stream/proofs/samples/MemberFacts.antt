-- Which samples stand in the lists of a file: those at each place of each lane of each data record, and no others.
use Rattle.std.proofs.Common.{◌≡◌, ℕ, zero, suc, ℤ, pos, true, not, ◌+◌, ◌*◌, ◌<◌, ◌+ℤ◌, ◌*ℤ◌, List, [], ◌∷◌, length, get_or, Some, None, slice_get, inl, inr, ⊎_elim, refl, sym, ap, ◌∙◌, subst, arith}
use Rattle.std.proofs.lemmas.Int.{ints}
use Rattle.std.proofs.lemmas.Bool.{cases_lt}
use Rattle.edf_fields.specs.Lists.{Has}
use Rattle.edf_fields.proofs.ForCallers.{has-append, has-front, has-back, has-filtered, filtered-has, has-at, at-has}
use Rattle.edf_header.specs.Heads.{SignalHead, Head, is_annotations}
use Rattle.edf_stream.specs.declared.samples.sample.Sample.{Sample}
use Rattle.edf_stream.specs.records.Records.{record_at, lane_of}
use Rattle.edf_stream.specs.times.Starts.{file_start}
use Rattle.edf_stream.specs.times.StartsReading.{start_in}
use Rattle.edf_header.specs.signals.Channels.{channels_among}
use Rattle.edf_stream.specs.samples.Values.{digital, digital_value}
use Rattle.edf_stream.specs.samples.SamplesReading.{lane_samples, samples_by, samples_in, samples_before}

-- the sample of channel c at a place of a lane that begins at the numerator a
abbrev pub placed : ℕ → ℕ → ℤ → ℤ → List ℕ → ℕ → Sample
placed c n a d lane place = record { channel = c; instant = record { num = a +ℤ (pos place *ℤ d); den = n }; value = digital_value lane place }

-- a sample at some place of a lane
pub record InLane (c n : ℕ) (a d : ℤ) (lane : List ℕ) (x : Sample) : Type 0 where
  pub place : ℕ
  pub within : 2 * place + 1 < length lane
  pub is : x ≡ placed c n a d lane place

digital_value-behind : (low high : ℕ) (rest : List ℕ) (i : ℕ) → digital_value (low ∷ high ∷ rest) (i + 1) ≡ digital_value rest i
digital_value-behind low high rest i =
    let even : 2 * (i + 1) ≡ suc (suc (2 * i)) = omega arith in
    let odd : 2 * (i + 1) + 1 ≡ suc (suc (2 * i + 1)) = omega arith in
    ap (λ k. digital (get_or (low ∷ high ∷ rest) k 0) (get_or (low ∷ high ∷ rest) (2 * (i + 1) + 1) 0)) even
    ∙ ap (λ k. digital (get_or rest (2 * i) 0) (get_or (low ∷ high ∷ rest) k 0)) odd

abbrev made : ℕ → ℕ → ℤ → ℤ → Sample
made c n num value = record { channel = c; instant = record { num = num; den = n }; value = value }

-- the sample at the first place, and at each later one
placed-first : (c n : ℕ) (a d : ℤ) (low high : ℕ) (rest : List ℕ) → made c n a (digital low high) ≡ placed c n a d (low ∷ high ∷ rest) 0
placed-first c n a d low high rest = let z : a ≡ a +ℤ (pos 0 *ℤ d) = omega (arith, ints) in ap (λ m. made c n m (digital low high)) z

placed-later : (c n : ℕ) (a d : ℤ) (low high : ℕ) (rest : List ℕ) (i : ℕ) → placed c n (a +ℤ d) d rest i ≡ placed c n a d (low ∷ high ∷ rest) (i + 1)
placed-later c n a d low high rest i =
    let z : (a +ℤ d) +ℤ (pos i *ℤ d) ≡ a +ℤ (pos (i + 1) *ℤ d) = omega (arith, ints) in
    ap (λ m. made c n m (digital_value rest i)) z ∙ ap (made c n (a +ℤ (pos (i + 1) *ℤ d))) (sym (digital_value-behind low high rest i))

pub lane-has : (c n : ℕ) (a d : ℤ) (lane : List ℕ) (x : Sample) → Has (lane_samples c n a d lane) x → InLane c n a d lane x
lane-has c n a d [] x h = absurd h
lane-has c n a d (byte ∷ []) x h = absurd h
lane-has c n a d (low ∷ high ∷ rest) x (inl e) = record { place = 0; within = omega arith; is = sym e ∙ placed-first c n a d low high rest }
lane-has c n a d (low ∷ high ∷ rest) x (inr h) =
    let r = lane-has c n (a +ℤ d) d rest x h in
    record { place = r.place + 1; within = omega (arith, r.within); is = r.is ∙ placed-later c n a d low high rest r.place }

pub has-lane : (c n : ℕ) (a d : ℤ) (lane : List ℕ) (i : ℕ) → 2 * i + 1 < length lane → Has (lane_samples c n a d lane) (placed c n a d lane i)
has-lane c n a d [] i lt = absurd (omega arith)
has-lane c n a d (byte ∷ []) i lt = absurd (omega arith)
has-lane c n a d (low ∷ high ∷ rest) zero lt = inl (placed-first c n a d low high rest)
has-lane c n a d (low ∷ high ∷ rest) (suc i) lt =
    let e : i + 1 ≡ suc i = omega arith in
    let there = has-lane c n (a +ℤ d) d rest i (omega (arith, lt)) in
    inr (subst (Has (lane_samples c n (a +ℤ d) d rest)) (placed-later c n a d low high rest i ∙ ap (placed c n a d (low ∷ high ∷ rest)) e) there)

-- a sample at some place of the lane of some of these channels, the first of which is channel c
pub record InRecord (c : ℕ) (start d : ℤ) (channels : List SignalHead) (bytes : List ℕ) (x : Sample) : Type 0 where
  pub at : ℕ
  pub signal : SignalHead
  pub there : slice_get channels at ≡ Some signal
  pub lane : InLane (c + at) signal.samples (pos signal.samples *ℤ start) d (lane_of signal bytes) x

pub record-has : (c : ℕ) (start d : ℤ) (channels : List SignalHead) (bytes : List ℕ) (x : Sample) → Has (samples_by c start d channels bytes) x → InRecord c start d channels bytes x
record-has c start d [] bytes x h = absurd h
record-has c start d (signal ∷ channels) bytes x h =
    let n = signal.samples in
    let lane = lane_of signal bytes in
    ⊎_elim
    (λ i.
    let e : c ≡ c + 0 = omega arith in
    record { at = 0; signal = signal; there = refl; lane = subst (λ k. InLane k n (pos n *ℤ start) d lane x) e (lane-has c n (pos n *ℤ start) d lane x i) })
    (λ i.
    let r = record-has (c + 1) start d channels bytes x i in
    let e : (c + 1) + r.at ≡ c + suc r.at = omega arith in
    let m = (r.signal).samples in
    record { at = suc r.at; signal = r.signal; there = r.there; lane = subst (λ k. InLane k m (pos m *ℤ start) d (lane_of r.signal bytes) x) e r.lane })
    (has-append (lane_samples c n (pos n *ℤ start) d lane) (samples_by (c + 1) start d channels bytes) x h)

pub has-record : (c : ℕ) (start d : ℤ) (channels : List SignalHead) (bytes : List ℕ) (at : ℕ) (signal : SignalHead) (i : ℕ) → slice_get channels at ≡ Some signal → 2 * i + 1 < length (lane_of signal bytes)
    → Has (samples_by c start d channels bytes) (placed (c + at) signal.samples (pos signal.samples *ℤ start) d (lane_of signal bytes) i)
has-record c start d [] bytes at signal i e lt = absurd (let z : None ≡ Some signal = e in cc)
has-record c start d (first ∷ channels) bytes zero signal i e lt =
    let same : first ≡ signal = (let z : Some first ≡ Some signal = e in cc) in
    let z : c ≡ c + 0 = omega arith in
    let P : SignalHead → Type 0 = λ s. Has (lane_samples c s.samples (pos s.samples *ℤ start) d (lane_of s bytes)) (placed c signal.samples (pos signal.samples *ℤ start) d (lane_of signal bytes) i) in
    let here = subst P (sym same) (has-lane c signal.samples (pos signal.samples *ℤ start) d (lane_of signal bytes) i lt) in
    subst (λ k. Has (samples_by c start d (first ∷ channels) bytes) (placed k signal.samples (pos signal.samples *ℤ start) d (lane_of signal bytes) i)) z
    (has-front (lane_samples c first.samples (pos first.samples *ℤ start) d (lane_of first bytes)) (samples_by (c + 1) start d channels bytes) _ here)
has-record c start d (first ∷ channels) bytes (suc at) signal i e lt =
    let z : (c + 1) + at ≡ c + suc at = omega arith in
    let rest = has-record (c + 1) start d channels bytes at signal i e lt in
    subst (λ k. Has (samples_by c start d (first ∷ channels) bytes) (placed k signal.samples (pos signal.samples *ℤ start) d (lane_of signal bytes) i)) z
    (has-back (lane_samples c first.samples (pos first.samples *ℤ start) d (lane_of first bytes)) (samples_by (c + 1) start d channels bytes) _ rest)

-- a sample in some of the first k data records
pub record InFile (file : List ℕ) (h : Head) (k : ℕ) (x : Sample) : Type 0 where
  pub data_record : ℕ
  pub below : data_record < k
  pub found : InRecord 0 (file_start h +ℤ start_in h (record_at file h data_record)) h.duration (channels_among h.signals) (record_at file h data_record) x

pub in-has : (h : Head) (bytes : List ℕ) (x : Sample) → Has (samples_in h bytes) x → InRecord 0 (file_start h +ℤ start_in h bytes) h.duration (channels_among h.signals) bytes x
unfolding samples_in
in-has h bytes x i = record-has 0 (file_start h +ℤ start_in h bytes) h.duration (channels_among h.signals) bytes x i

pub has-in : (h : Head) (bytes : List ℕ) (x : Sample) → Has (samples_by 0 (file_start h +ℤ start_in h bytes) h.duration (channels_among h.signals) bytes) x → Has (samples_in h bytes) x
unfolding samples_in
has-in h bytes x i = i

pub file-has : (file : List ℕ) (h : Head) (k : ℕ) (x : Sample) → Has (samples_before file h k) x → InFile file h k x
file-has file h zero x i = absurd i
file-has file h (suc k) x i =
    ⊎_elim
    (λ j. let r = file-has file h k x j in record { data_record = r.data_record; below = omega (arith, r.below); found = r.found })
    (λ j. record { data_record = k; below = omega arith; found = in-has h (record_at file h k) x j })
    (has-append (samples_before file h k) (samples_in h (record_at file h k)) x i)

pub has-file : (file : List ℕ) (h : Head) (k j : ℕ) (x : Sample) → j < k → Has (samples_in h (record_at file h j)) x → Has (samples_before file h k) x
has-file file h zero j x lt i = absurd (omega (arith, lt))
has-file file h (suc k) j x lt i =
    elim (cases_lt j k) [
      | inl less ↦ has-front (samples_before file h k) (samples_in h (record_at file h k)) x (has-file file h k j x less i)
      | inr le ↦
          let e : j ≡ k = omega (arith, lt, le) in
          let P : ℕ → Type 0 = λ m. Has (samples_in h (record_at file h m)) x in
          has-back (samples_before file h k) (samples_in h (record_at file h k)) x (subst P e i)
    ]

-- a channel among the signals, by its place there and by its number
pub channel-among : (signals : List SignalHead) (c : ℕ) (signal : SignalHead) → slice_get (channels_among signals) c ≡ Some signal
    → (s : ℕ) × (slice_get signals s ≡ Some signal) × (not (is_annotations signal.label) ≡ true)
channel-among signals c signal e =
    let r = has-filtered (λ x. not (is_annotations x.label)) signals signal (has-at (channels_among signals) c signal e) in
    let at = at-has signals signal r.0 in
    (at.0, at.1, r.1)

pub among-channel : (signals : List SignalHead) (s : ℕ) (signal : SignalHead) → slice_get signals s ≡ Some signal → not (is_annotations signal.label) ≡ true
    → (c : ℕ) × (slice_get (channels_among signals) c ≡ Some signal)
among-channel signals s signal e plain = at-has (channels_among signals) signal (filtered-has (λ x. not (is_annotations x.label)) signals signal (has-at signals s signal e) plain)
