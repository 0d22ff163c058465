-- Samples and annotation lanes give the data records.
use Rattle.std.proofs.Common.{◌≡◌, ◌⊎◌, inl, inr, ℕ, zero, suc, ℤ, pos, Bool, true, false, ◌+◌, ◌*◌, ◌<◌, ◌≤◌, ◌+ℤ◌, ◌-ℤ◌, ◌*ℤ◌, ◌≤ℤ◌, ◌<ℤ◌, List, [], ◌∷◌, ◌++◌, length, take, drop, map, slice_get, slice_index, Some, None, Ok, All, lt-ltb, le-ltb, arith, refl, ap, ◌∙◌, sym, subst}
use Rattle.edf_fields.proofs.ForCallers.{has-at}
use Rattle.std.specs.Option.{option_map_or}
use Rattle.std.proofs.Math.Nat.{mul_comm, mul-le-mul_right}
use Rattle.std.proofs.lemmas.Bool.{cases_lt}
use Rattle.std.proofs.lemmas.Int.{ints, by_lt_z}
use Rattle.std.proofs.lemmas.List.{length-take, length-drop, take-append-drop}
use Rattle.edf_fields.specs.Parts.{part}
use Rattle.edf_header.specs.declared.kind.Kind.{Kind}
use Rattle.edf_header.specs.declared.kind.Kind.TheVariants.{Contiguous, Interrupted}
use Rattle.edf_header.specs.Heads.{SignalHead, Head, AreSideBySide, is_annotations, samples_together, header_bytes, record_bytes}
use Rattle.edf_header.specs.Standard.{IsSoundSignal}
use Rattle.edf_tal.specs.Tals.{TalValue}
use Rattle.edf_tal.specs.Reading.{Item}
use Rattle.edf_tal.proofs.ForCallers.{lane-read}
use Rattle.edf_stream.specs.Conforming.{FollowsOn, Conforms}
use Rattle.edf_stream.specs.annotation.Notes.{NoteValue, AreLanesOf, SaysRecord}
use Rattle.edf_stream.specs.records.Records.{record_at, lane_of, annotation_lanes}
use Rattle.edf_stream.specs.records.RecordsReading.{record_place, lane_at}
use Rattle.edf_stream.specs.samples.Samples.{SampleValue, IsSample}
use Rattle.edf_stream.specs.samples.Values.{digital, digital_value}
use Rattle.edf_stream.specs.times.Starts.{file_start}
use Rattle.edf_stream.proofs.ForCallers.{one_at_an_instant}
use Rattle.edf_layout.specs.body.BodyLaws.{AreBytes, HaveSameSamples, HaveSameAnnotationLanes, LanesAreTheRest}
use Rattle.edf_layout.proofs.HeadFacts.{head-same}
use Rattle.edf_layout.proofs.FieldFacts.{join-parts, nothing-behind, column-same}

-- products grow with their factors
scale-mono : (n : ℕ) (x y : ℤ) → x ≤ℤ y → (pos n *ℤ x) ≤ℤ (pos n *ℤ y)
scale-mono zero x y h = omega (arith, ints)
scale-mono (suc n) x y h = let r : (pos n *ℤ x) ≤ℤ (pos n *ℤ y) = scale-mono n x y h in omega (arith, ints)

steps-mono : (i j : ℕ) (d : ℤ) → pos 0 ≤ℤ d → i ≤ j → (pos i *ℤ d) ≤ℤ (pos j *ℤ d)
steps-mono i zero d p h = let e : i ≡ 0 = omega arith in rw e (omega (arith, ints))
steps-mono i (suc j) d p h = elim (cases_lt j i) [
  | inl lt ↦ let e : i ≡ suc j = omega arith in rw e (omega (arith, ints))
  | inr le ↦ let r : (pos i *ℤ d) ≤ℤ (pos j *ℤ d) = steps-mono i j d p le in omega (arith, ints)
]

steps-below : (i j : ℕ) (d : ℤ) → pos 0 <ℤ d → i < j → (pos i *ℤ d) <ℤ (pos j *ℤ d)
steps-below i j d p h =
    let r : (pos (suc i) *ℤ d) ≤ℤ (pos j *ℤ d) = steps-mono (suc i) j d (omega (arith, ints)) (omega arith) in
    omega (arith, ints)

scale-sum : (n : ℕ) (x y : ℤ) → pos n *ℤ (x +ℤ y) ≡ (pos n *ℤ x) +ℤ (pos n *ℤ y)
scale-sum n x y = sums n x y (x +ℤ y) refl
  where
    sums : (n : ℕ) (x y z : ℤ) → z ≡ x +ℤ y → pos n *ℤ z ≡ (pos n *ℤ x) +ℤ (pos n *ℤ y)
    sums zero x y z e = omega (arith, ints)
    sums (suc n) x y z e = let r : pos n *ℤ z ≡ (pos n *ℤ x) +ℤ (pos n *ℤ y) = sums n x y z e in omega (arith, ints)

scale-strict : (n : ℕ) (x y : ℤ) → 0 < n → (pos n *ℤ x) ≤ℤ (pos n *ℤ y) → x ≤ℤ y
scale-strict n x y some h =
    by_lt_z y x
    (λ lt.
    let more : (pos n *ℤ (y +ℤ pos 1)) ≤ℤ (pos n *ℤ x) = scale-mono n (y +ℤ pos 1) x (omega (arith, ints, lt)) in
    let sum = scale-sum n y (pos 1) in
    let one : pos n *ℤ pos 1 ≡ pos n = omega (arith, ints) in
    absurd (omega (arith, ints, more, sum, one, h, some)))
    (λ le. le)

not-before-start : (n i : ℕ) (s d num : ℤ) → pos 0 <ℤ d → num ≡ (pos n *ℤ s) +ℤ (pos i *ℤ d) → (pos n *ℤ s) ≤ℤ num
not-before-start n i s d num p e =
    let z : (pos 0 *ℤ d) ≤ℤ (pos i *ℤ d) = steps-mono 0 i d (omega (arith, ints)) (omega arith) in
    omega (arith, ints)

before-end : (n i : ℕ) (s d num : ℤ) → pos 0 <ℤ d → i < n → num ≡ (pos n *ℤ s) +ℤ (pos i *ℤ d) → num <ℤ (pos n *ℤ (s +ℤ d))
before-end n i s d num p lt e =
    let q : (pos i *ℤ d) <ℤ (pos n *ℤ d) = steps-below i n d p lt in
    let sum = scale-sum n s d in
    omega (arith, ints)

-- a data record says one start
abbrev oks : List TalValue → List Item
oks tals = map Ok tals

first-one : (t u : TalValue) (ts us : List TalValue) → oks (t ∷ ts) ≡ oks (u ∷ us) → t ≡ u
first-one t u ts us e = cc

tals-one : (lanes : List (List ℕ)) (t u : TalValue) (ts us : List TalValue) (tss uss : List (List TalValue)) → AreLanesOf lanes ((t ∷ ts) ∷ tss) → AreLanesOf lanes ((u ∷ us) ∷ uss) → t ≡ u
tals-one [] t u ts us tss uss h k = absurd h
tals-one (lane ∷ lanes) t u ts us tss uss h k = first-one t u ts us (sym (lane-read (t ∷ ts) lane h.0) ∙ lane-read (u ∷ us) lane k.0)

pub start-one : (h : Head) (bytes : List ℕ) (start other : ℤ) (ns ms : List NoteValue) → SaysRecord h bytes start ns → SaysRecord h bytes other ms → start ≡ other
start-one h bytes start other ns ms s r =
    ap (λ (t : TalValue). t.onset) (tals-one (annotation_lanes h.signals bytes)
    (record { onset = start; duration = s.duration; texts = [] ∷ s.texts }) (record { onset = other; duration = r.duration; texts = [] ∷ r.texts }) s.beside r.beside s.others r.others s.lanes r.lanes)

-- data records follow one another
lasts : (file : List ℕ) (h : Head) → Conforms file h → pos 0 <ℤ h.duration
lasts file h c = let some : pos 1 ≤ℤ h.duration = (c.header).standard.some_time in omega (arith, ints, some)

follows-later : (kind : Kind) (ended start : ℤ) → FollowsOn kind ended start → ended ≤ℤ start
follows-later Contiguous ended start e = subst (λ s. ended ≤ℤ s) (sym e) (omega (arith, ints))
follows-later Interrupted ended start e = e

starts-rise : (file : List ℕ) (h : Head) (c : Conforms file h) (k j : ℕ) → k < j → j < h.records → ((c.says).starts k +ℤ h.duration) ≤ℤ (c.says).starts j
starts-rise file h c k zero lt within = absurd (omega (arith, lt))
starts-rise file h c k (suc j) lt within =
    let next : ((c.says).starts j +ℤ h.duration) ≤ℤ (c.says).starts (suc j) = follows-later h.kind ((c.says).starts j +ℤ h.duration) ((c.says).starts (suc j)) (c.follows j within) in
    elim (cases_lt k j) [
      | inl less ↦
          let q : ((c.says).starts k +ℤ h.duration) ≤ℤ (c.says).starts j = starts-rise file h c k j less (omega (arith, within)) in
          let p = lasts file h c in
          omega (arith, ints, q, p, next)
      | inr le ↦ let e : k ≡ j = omega (arith, lt, le) in subst (λ m. ((c.says).starts m +ℤ h.duration) ≤ℤ (c.says).starts (suc j)) (sym e) next
    ]

-- the sample at a place of a lane
abbrev sample_there : List ℕ → Head → ℤ → ℕ → ℕ → ℕ → SignalHead → SampleValue
sample_there file h start k s p signal = record {
  label = signal.label;
  instant = record { num = (pos signal.samples *ℤ (file_start h +ℤ start)) +ℤ (pos p *ℤ h.duration); den = signal.samples };
  value = digital_value (lane_at file h k s) p;
}

is-there : (file : List ℕ) (h : Head) (c : Conforms file h) (k s p : ℕ) (signal : SignalHead) → k < h.records → slice_get h.signals s ≡ Some signal → is_annotations signal.label ≡ false → p < signal.samples
    → IsSample file h (sample_there file h ((c.says).starts k) k s p signal)
is-there file h c k s p signal within get ordinary low = record {
  signal = signal;
  data_record = k;
  place = p;
  start = (c.says).starts k;
  notes = (c.says).notes k;
  channel = record { there = has-at h.signals s signal get; labelled = (refl, ordinary) };
  count = refl;
  in_file = within;
  in_lane = low;
  says = (c.says).say k within;
  instant = refl;
  value_is = ap (λ o. digital_value (option_map_or (λ (x : SignalHead). lane_of x (record_at file h k)) o []) p) get;
}

-- the starts of two files with one header and the same samples
not-later : (file other : List ℕ) (h : Head) (c : Conforms file h) (d : Conforms other h) → HaveSameSamples file h other h → (k s : ℕ) (signal : SignalHead) → slice_get h.signals s ≡ Some signal
    → is_annotations signal.label ≡ false → 0 < signal.samples → k < h.records → ((i : ℕ) → i < k → (c.says).starts i ≡ (d.says).starts i) → (d.says).starts k ≤ℤ (c.says).starts k
not-later file other h c d same k s signal get ordinary some within before =
    let n = signal.samples in
    let x = sample_there file h ((c.says).starts k) k s 0 signal in
    let r : IsSample other h x = (same x).0 (is-there file h c k s 0 signal within get ordinary some) in
    let j : ℕ = r.data_record in
    let start : r.start ≡ (d.says).starts j = start-one h (record_at other h j) r.start ((d.says).starts j) r.notes ((d.says).notes j) r.says ((d.says).say j r.in_file) in
    let lasting = lasts file h c in
    let fs = file_start h in
    let num = (pos n *ℤ (fs +ℤ (c.says).starts k)) +ℤ (pos 0 *ℤ h.duration) in
    let is : num ≡ (pos n *ℤ (fs +ℤ (d.says).starts j)) +ℤ (pos r.place *ℤ h.duration) = r.instant ∙ ap (λ z. (pos n *ℤ (fs +ℤ z)) +ℤ (pos r.place *ℤ h.duration)) start in
    let from : (pos n *ℤ (fs +ℤ (c.says).starts k)) ≤ℤ num = not-before-start n 0 (fs +ℤ (c.says).starts k) h.duration num lasting refl in
    let none : pos 0 *ℤ h.duration ≡ pos 0 = omega (arith, ints) in
    elim (cases_lt j k) [
      | inl early ↦
          let rise : ((c.says).starts j +ℤ h.duration) ≤ℤ (c.says).starts k = starts-rise file h c j k early within in
          let equal = before j early in
          let behind : ((fs +ℤ (d.says).starts j) +ℤ h.duration) ≤ℤ (fs +ℤ (c.says).starts k) = omega (arith, ints, rise, equal) in
          let far : (pos n *ℤ ((fs +ℤ (d.says).starts j) +ℤ h.duration)) ≤ℤ (pos n *ℤ (fs +ℤ (c.says).starts k)) = scale-mono n ((fs +ℤ (d.says).starts j) +ℤ h.duration) (fs +ℤ (c.says).starts k) behind in
          let inside : num <ℤ (pos n *ℤ ((fs +ℤ (d.says).starts j) +ℤ h.duration)) = before-end n r.place (fs +ℤ (d.says).starts j) h.duration num lasting r.in_lane is in
          absurd (omega (arith, ints, far, inside, from))
      | inr late ↦
          let reach : (pos n *ℤ (fs +ℤ (d.says).starts j)) ≤ℤ num = not-before-start n r.place (fs +ℤ (d.says).starts j) h.duration num lasting is in
          let all : (pos n *ℤ (fs +ℤ (d.says).starts j)) ≤ℤ (pos n *ℤ (fs +ℤ (c.says).starts k)) = omega (arith, ints, reach, none) in
          let least : (fs +ℤ (d.says).starts j) ≤ℤ (fs +ℤ (c.says).starts k) = scale-strict n (fs +ℤ (d.says).starts j) (fs +ℤ (c.says).starts k) some all in
          let up : (d.says).starts k ≤ℤ (d.says).starts j = elim (cases_lt k j) [
            | inl less ↦ (let rise : ((d.says).starts k +ℤ h.duration) ≤ℤ (d.says).starts j = starts-rise other h d k j less r.in_file in omega (arith, ints, rise, lasting))
            | inr eq ↦ (let e : k ≡ j = omega (arith, late, eq) in subst (λ m. (d.says).starts k ≤ℤ (d.says).starts m) e (omega (arith, ints)))
          ] in
          omega (arith, ints, least, up)
    ]

flip : (file other : List ℕ) (h : Head) → HaveSameSamples file h other h → HaveSameSamples other h file h
flip file other h same x = ((same x).1, (same x).0)

pub starts-equal : (file other : List ℕ) (h : Head) (c : Conforms file h) (d : Conforms other h) → HaveSameSamples file h other h → (s : ℕ) (signal : SignalHead) → slice_get h.signals s ≡ Some signal
    → is_annotations signal.label ≡ false → 0 < signal.samples → (n k : ℕ) → k < n → k < h.records → (c.says).starts k ≡ (d.says).starts k
starts-equal file other h c d same s signal get ordinary some zero k low within = absurd (omega arith)
starts-equal file other h c d same s signal get ordinary some (suc n) k low within =
    let before : (i : ℕ) → i < k → (c.says).starts i ≡ (d.says).starts i = λ i less. starts-equal file other h c d same s signal get ordinary some n i (omega (arith, low, less)) (omega (arith, within, less)) in
    let one = not-later file other h c d same k s signal get ordinary some within before in
    let two = not-later other file h d c (flip file other h same) k s signal get ordinary some within (λ i less. sym (before i less)) in
    omega (arith, ints, one, two)

-- ---- from digital values to bytes

-- each of them is a byte
abbrev pub Bytes : List ℕ → Type 0
Bytes [] = Unit {0}
Bytes (b ∷ bs) = (b < 256) × Bytes bs

all-bytes : (bs : List ℕ) → AreBytes bs → Bytes bs
all-bytes [] h = tt
all-bytes (b ∷ bs) h = (h 0 0 (omega arith), all-bytes bs (λ k d low. h (suc k) d (omega arith)))

bytes-take : (n : ℕ) (bs : List ℕ) → Bytes bs → Bytes (take n bs)
bytes-take zero bs h = tt
bytes-take (suc n) [] h = tt
bytes-take (suc n) (b ∷ bs) h = (h.0, bytes-take n bs h.1)

bytes-drop : (n : ℕ) (bs : List ℕ) → Bytes bs → Bytes (drop n bs)
bytes-drop zero bs h = h
bytes-drop (suc n) [] h = tt
bytes-drop (suc n) (b ∷ bs) h = bytes-drop n bs h.1

bytes-part : (bs : List ℕ) (at n : ℕ) → Bytes bs → Bytes (part bs at n)
bytes-part bs at n h = bytes-take n (drop at bs) (bytes-drop at bs h)

digital-low : (low high : ℕ) → high < 128 → digital low high ≡ pos (low + 256 * high)
digital-low low high h = rw (lt-ltb high 128 h) refl

digital-high : (low high : ℕ) → 128 ≤ high → digital low high ≡ (pos (low + 256 * high) -ℤ pos 65536)
digital-high low high h = rw (le-ltb high 128 h) refl

digital-same : (a b c d : ℕ) → a < 256 → b < 256 → c < 256 → d < 256 → digital a b ≡ digital c d → (a ≡ c) × (b ≡ d)
digital-same a b c d p q r s e = elim (cases_lt b 128) [
  | inl low ↦ elim (cases_lt d 128) [
    | inl less ↦ (let one = digital-low a b low in let two = digital-low c d less in (omega (arith, ints, one, two, e), omega (arith, ints, one, two, e)))
    | inr more ↦ (let one = digital-low a b low in let two = digital-high c d more in absurd (omega (arith, ints, one, two, e)))
  ]
  | inr high ↦ elim (cases_lt d 128) [
    | inl less ↦ (let one = digital-high a b high in let two = digital-low c d less in absurd (omega (arith, ints, one, two, e)))
    | inr more ↦ (let one = digital-high a b high in let two = digital-high c d more in (omega (arith, ints, one, two, e), omega (arith, ints, one, two, e)))
  ]
]

-- a lane further on
value-later : (a b : ℕ) (bs : List ℕ) (p : ℕ) → digital_value (a ∷ b ∷ bs) (suc p) ≡ digital_value bs p
value-later a b bs p =
    ap (λ i. digital (slice_index (a ∷ b ∷ bs) i) (slice_index (a ∷ b ∷ bs) (i + 1))) (let e : 2 * suc p ≡ suc (suc (2 * p)) = omega arith in e)
    ∙ ap (λ i. digital (slice_index bs (2 * p)) (slice_index (a ∷ b ∷ bs) i)) (let e : suc (suc (2 * p)) + 1 ≡ suc (suc (2 * p + 1)) = omega arith in e)

value-first : (a b : ℕ) (bs : List ℕ) → digital_value (a ∷ b ∷ bs) 0 ≡ digital a b
value-first a b bs = refl

lane-values : (xs ys : List ℕ) (n : ℕ) → length xs ≡ 2 * n → length ys ≡ 2 * n → Bytes xs → Bytes ys → ((p : ℕ) → p < n → digital_value xs p ≡ digital_value ys p) → xs ≡ ys
lane-values [] [] n long less h k same = refl
lane-values [] (y ∷ ys) n long less h k same = absurd (omega arith)
lane-values (x ∷ xs) [] n long less h k same = absurd (omega arith)
lane-values (x ∷ []) (y ∷ ys) n long less h k same = absurd (omega arith)
lane-values (x ∷ a ∷ xs) (y ∷ []) n long less h k same = absurd (omega arith)
lane-values (x ∷ a ∷ xs) (y ∷ b ∷ ys) zero long less h k same = absurd (omega arith)
lane-values (x ∷ a ∷ xs) (y ∷ b ∷ ys) (suc n) long less h k same =
    let one = digital-same x a y b h.0 h.1.0 k.0 k.1.0 (same 0 (omega arith)) in
    let rest = lane-values xs ys n (omega arith) (omega arith) h.1.1 k.1.1
    (λ p low. sym (value-later x a xs p) ∙ same (suc p) (omega arith) ∙ value-later y b ys p) in
    ap (λ z. z ∷ a ∷ xs) one.0 ∙ ap (λ z. y ∷ z ∷ xs) one.1 ∙ ap (λ r. y ∷ b ∷ r) rest

-- ---- from lanes to data records, and from these to the file

-- the lanes of signals that stand side by side
side-same : (xs ys : List ℕ) (before : ℕ) (signals : List SignalHead) → AreSideBySide before signals
    → ((s : ℕ) (signal : SignalHead) → slice_get signals s ≡ Some signal → lane_of signal xs ≡ lane_of signal ys)
    → drop (before + 2 * samples_together signals) xs ≡ drop (before + 2 * samples_together signals) ys → drop before xs ≡ drop before ys
side-same xs ys before [] beside each behind = subst (λ n. drop n xs ≡ drop n ys) (let e : before + 0 ≡ before = omega arith in e) behind
side-same xs ys before (signal ∷ signals) beside each behind =
    let here : part xs before (2 * signal.samples) ≡ part ys before (2 * signal.samples) =
    subst (λ n. part xs n (2 * signal.samples) ≡ part ys n (2 * signal.samples)) beside.0 (each 0 signal refl) in
    let there : before + 2 * (signal.samples + samples_together signals) ≡ before + 2 * signal.samples + 2 * samples_together signals = omega arith in
    join-parts xs ys before (2 * signal.samples) here
    (side-same xs ys (before + 2 * signal.samples) signals beside.1 (λ s other e. each (suc s) other e) (subst (λ n. drop n xs ≡ drop n ys) there behind))

record-same : (xs ys : List ℕ) (h : Head) → length xs ≡ record_bytes h → length ys ≡ record_bytes h → AreSideBySide 0 h.signals
    → ((s : ℕ) (signal : SignalHead) → slice_get h.signals s ≡ Some signal → lane_of signal xs ≡ lane_of signal ys) → xs ≡ ys
record-same xs ys h long less beside each =
    side-same xs ys 0 h.signals beside each
    (nothing-behind xs (0 + 2 * samples_together h.signals) (omega arith) ∙ sym (nothing-behind ys (0 + 2 * samples_together h.signals) (omega arith)))

place-is : (h : Head) (k : ℕ) → record_place h k ≡ header_bytes h + record_bytes h * k
place-is h k = ap (λ n. header_bytes h + n) (mul_comm k (record_bytes h))

-- the data records of a file, one behind the other
records-same : (file other : List ℕ) (h : Head) → length file ≡ record_place h h.records → length other ≡ record_place h h.records
    → take (header_bytes h) file ≡ take (header_bytes h) other → ((k : ℕ) → k < h.records → record_at file h k ≡ record_at other h k) → file ≡ other
records-same file other h long less front each =
    let at = header_bytes h in
    let w = record_bytes h in
    let part-at : (xs : List ℕ) (k : ℕ) → part xs (at + w * k) w ≡ record_at xs h k = λ xs k. ap (λ n. part xs n w) (sym (place-is h k)) in
    let size : record_place h h.records ≡ at + w * (0 + h.records) = place-is h h.records ∙ ap (λ n. at + w * n) (let e : h.records ≡ 0 + h.records = omega arith in e) in
    let end : drop (at + w * (0 + h.records)) file ≡ drop (at + w * (0 + h.records)) other =
    nothing-behind file (at + w * (0 + h.records)) (omega (arith, long, size)) ∙ sym (nothing-behind other (at + w * (0 + h.records)) (omega (arith, less, size))) in
    let body : drop (at + w * 0) file ≡ drop (at + w * 0) other =
    column-same file other at w 0 h.records (λ k low high. part-at file k ∙ each k (omega arith) ∙ sym (part-at other k)) end in
    let behind : drop at file ≡ drop at other = subst (λ n. drop n file ≡ drop n other) (let e : at + w * 0 ≡ at = omega arith in e) body in
    sym (take-append-drop at file) ∙ ap (λ f. f ++ drop at file) front ∙ ap (λ r. take at other ++ r) behind ∙ take-append-drop at other

-- ---- together

bool-cases : (b : Bool) → (b ≡ true) ⊎ (b ≡ false)
bool-cases true = inl refl
bool-cases false = inr refl

-- a lane lies within its data record
offset-fits : (signals : List SignalHead) (before s : ℕ) (signal : SignalHead) → AreSideBySide before signals → slice_get signals s ≡ Some signal → signal.offset + 2 * signal.samples ≤ before + 2 * samples_together signals
offset-fits [] before s signal beside e = absurd (let z : None ≡ Some signal = e in cc)
offset-fits (x ∷ xs) before zero signal beside e =
    let is : x ≡ signal = cc in
    let place : signal.offset ≡ before = ap (λ (z : SignalHead). z.offset) (sym is) ∙ beside.0 in
    let count : signal.samples ≡ x.samples = ap (λ (z : SignalHead). z.samples) (sym is) in
    omega (arith, place, count)
offset-fits (x ∷ xs) before (suc s) signal beside e = let more = offset-fits xs (before + 2 * x.samples) s signal beside.1 e in omega (arith, more)

part-long : (xs : List ℕ) (at n : ℕ) → at + n ≤ length xs → length (part xs at n) ≡ n
part-long xs at n fits = let a = length-take n (drop at xs) in let b = length-drop at xs in omega arith

record-long : (file : List ℕ) (h : Head) (k : ℕ) → Conforms file h → k < h.records → length (record_at file h k) ≡ record_bytes h
record-long file h k c within =
    let size = c.size in
    let low : (k + 1) * record_bytes h ≤ h.records * record_bytes h = mul-le-mul_right (record_bytes h) (let z : k + 1 ≤ h.records = omega arith in z) in
    let more : (k + 1) * record_bytes h ≡ k * record_bytes h + record_bytes h = omega arith in
    part-long file (record_place h k) (record_bytes h) (omega (arith, size, low, more))

pub lane-long : (file : List ℕ) (h : Head) (k s : ℕ) (signal : SignalHead) → Conforms file h → k < h.records → slice_get h.signals s ≡ Some signal → length (lane_of signal (record_at file h k)) ≡ 2 * signal.samples
lane-long file h k s signal c within get =
    let fits = offset-fits h.signals 0 s signal ((c.header).head).offsets get in
    let long = record-long file h k c within in
    part-long (record_at file h k) signal.offset (2 * signal.samples) (omega (arith, fits, long))

pub lane-is : (file : List ℕ) (h : Head) (k s : ℕ) (signal : SignalHead) → slice_get h.signals s ≡ Some signal → lane_at file h k s ≡ lane_of signal (record_at file h k)
lane-is file h k s signal get = ap (λ o. option_map_or (λ (x : SignalHead). lane_of x (record_at file h k)) o []) get

pub sound-at : (signals : List SignalHead) (s : ℕ) (signal : SignalHead) → All IsSoundSignal signals → slice_get signals s ≡ Some signal → 0 < signal.samples
sound-at [] s signal h e = absurd (let z : None ≡ Some signal = e in cc)
sound-at (x ∷ xs) zero signal h e =
    let is : x ≡ signal = cc in
    let some = (h 0 x (omega arith)).some_samples in
    let count : signal.samples ≡ x.samples = ap (λ (z : SignalHead). z.samples) (sym is) in
    omega (arith, some, count)
sound-at (x ∷ xs) (suc s) signal h e = sound-at xs s signal (λ k d low. h (suc k) d (omega arith)) e

-- the lane of a channel
channel-lane : (file other : List ℕ) (h : Head) (c : Conforms file h) (d : Conforms other h) → AreBytes file → AreBytes other → HaveSameSamples file h other h
    → (k s : ℕ) (signal : SignalHead) → k < h.records → slice_get h.signals s ≡ Some signal → is_annotations signal.label ≡ false → lane_of signal (record_at file h k) ≡ lane_of signal (record_at other h k)
channel-lane file other h c d bytes more same k s signal within get ordinary =
    let some = sound-at h.signals s signal ((c.header).standard).signals get in
    let n = signal.samples in
    let start : (c.says).starts k ≡ (d.says).starts k = starts-equal file other h c d same s signal get ordinary some (suc k) k (omega arith) within in
    let values : (p : ℕ) → p < n → digital_value (lane_at file h k s) p ≡ digital_value (lane_at other h k s) p = λ p low.
    let x = sample_there file h ((c.says).starts k) k s p signal in
    let y = sample_there other h ((d.says).starts k) k s p signal in
    let one : IsSample other h x = (same x).0 (is-there file h c k s p signal within get ordinary low) in
    let two : IsSample other h y = is-there other h d k s p signal within get ordinary low in
    let instant : (x.instant).num *ℤ pos (y.instant).den ≡ (y.instant).num *ℤ pos (x.instant).den =
    ap (λ z. ((pos n *ℤ (file_start h +ℤ z)) +ℤ (pos p *ℤ h.duration)) *ℤ pos n) start in
    ap (λ (z : SampleValue). z.value) (one_at_an_instant other h d x y one two refl instant) in
    lane-values (lane_of signal (record_at file h k)) (lane_of signal (record_at other h k)) n (lane-long file h k s signal c within get) (lane-long other h k s signal d within get)
    (bytes-part (record_at file h k) signal.offset (2 * n) (bytes-part file (record_place h k) (record_bytes h) (all-bytes file bytes)))
    (bytes-part (record_at other h k) signal.offset (2 * n) (bytes-part other (record_place h k) (record_bytes h) (all-bytes other more)))
    (λ p low. ap (λ l. digital_value l p) (sym (lane-is file h k s signal get)) ∙ values p low ∙ ap (λ l. digital_value l p) (lane-is other h k s signal get))

files-same : (file other : List ℕ) (h : Head) → AreBytes file → AreBytes other → Conforms file h → Conforms other h
    → take (header_bytes h) file ≡ take (header_bytes h) other → HaveSameSamples file h other h → HaveSameAnnotationLanes file h other h → file ≡ other
files-same file other h bytes more c d front same lanes =
    records-same file other h c.size d.size front (λ k within.
    record-same (record_at file h k) (record_at other h k) h (record-long file h k c within) (record-long other h k d within) ((c.header).head).offsets
    (λ s signal get. elim (bool-cases (is_annotations signal.label)) [
      | inl notes ↦ sym (lane-is file h k s signal get) ∙ lanes k s signal within get notes ∙ lane-is other h k s signal get
      | inr ordinary ↦ channel-lane file other h c d bytes more same k s signal within get ordinary
    ]))

pub lanes_are_the_rest : LanesAreTheRest
lanes_are_the_rest file other h g bytes more c d front same lanes =
    let is : g ≡ h = sym (head-same file other h g c.header d.header front) in
    files-same file other h bytes more c
    (subst (λ (k : Head). Conforms other k) is d)
    (subst (λ (k : Head). take (header_bytes h) file ≡ take (header_bytes k) other) is front)
    (subst (λ (k : Head). HaveSameSamples file h other k) is same)
    (subst (λ (k : Head). HaveSameAnnotationLanes file h other k) is lanes)
