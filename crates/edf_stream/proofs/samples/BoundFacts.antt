-- How large the instants of a file that conforms are, and where its least one is.
use Rattle.std.proofs.Common.{◌≡◌, ℕ, zero, suc, ℤ, pos, ◌+◌, ◌*◌, ◌<◌, ◌≤◌, ◌^◌, ◌+ℤ◌, ◌*ℤ◌, ◌≤ℤ◌, ◌<ℤ◌, neg_ℤ, None, List, [], ◌∷◌, Some, slice_get, unsigned_abs, refl, sym, ap, ◌∙◌, subst, arith}
use Rattle.edf_header.proofs.ForCallers.{some_channel}
use Rattle.std.specs.List.{All}
use Rattle.std.proofs.lemmas.Int.{ints, unsigned_abs-mul}
use Rattle.std.proofs.Math.Nat.{mul-le-mul, mul-le-mul_right}
use borrow.Author.Differences.{up, down}
use Rattle.edf_fields.proofs.ForCallers.{get-index, get-within, has-at, at-has}
use Rattle.edf_header.specs.Standard.{IsSoundSignal}
use Rattle.edf_header.specs.Heads.{SignalHead, Head, samples_together, day_number, record_bytes}
use Rattle.edf_header.specs.HeadsReading.{start_second}
use Rattle.edf_tal.proofs.ForCallers.{start_small}
use Rattle.edf_stream.specs.Conforming.{Conforms}
use Rattle.edf_stream.specs.Laws.{InstantsFit, StartIsOfLeast}
use Rattle.edf_stream.specs.annotation.NotesReading.{notes_in}
use Rattle.edf_stream.specs.records.Records.{record_at, lane_of}
use Rattle.edf_stream.specs.samples.Samples.{SampleValue, IsSample}
use Rattle.edf_stream.specs.times.Starts.{file_start}
use Rattle.edf_stream.specs.times.StartsReading.{start_at, end_at}
use Rattle.edf_stream.specs.samples.Values.{digital_value}
use Rattle.edf_stream.proofs.records.ReadFacts.{sound-of, says-read, starts_late, starts_early, sample-at}
use Rattle.edf_stream.proofs.records.SaidFacts.{begins}
use Rattle.edf_stream.proofs.samples.RisingFacts.{scale-mono, scale-sum, not-before-start, lasts, starts-behind}

-- a signal has no more samples than all together
few-samples : (signals : List SignalHead) (s : ℕ) (signal : SignalHead) → slice_get signals s ≡ Some signal → signal.samples ≤ samples_together signals
few-samples [] s signal e = absurd (let z : None ≡ Some signal = e in cc)
few-samples (x ∷ signals) zero signal e = let same : x ≡ signal = (let z : Some x ≡ Some signal = e in cc) in let n = ap (λ (y : SignalHead). y.samples) same in omega (arith, n)
few-samples (x ∷ signals) (suc s) signal e = let r = few-samples signals s signal e in omega (arith, r)

-- of a sample of a file that conforms: how many samples its lane has
few-in-lane : (file : List ℕ) (h : Head) (x : SampleValue) → Conforms file h → IsSample file h x → (x.instant).den ≤ 8388608
few-in-lane file h x c r =
    let at = at-has h.signals r.signal (r.channel).there in
    let few = few-samples h.signals at.0 r.signal at.1 in
    let small : record_bytes h ≤ 16777216 = (c.header).standard.small_record in
    let count = r.count in
    omega (arith, few, small, count)

-- the start of the file
file-near : (h : Head) → unsigned_abs (day_number h.day) < 5000000 → h.clock < 86400 → (neg_ℤ (pos 432000000000000000000000) ≤ℤ file_start h) × (file_start h <ℤ pos 432000086400000000000000)
file-near h near early = (omega (arith, ints, near, early), omega (arith, ints, near, early))

start-near : (file : List ℕ) (h : Head) (k : ℕ) → Conforms file h → k < h.records → (neg_ℤ (pos (10 ^ 21)) ≤ℤ start_at file h k) × (start_at file h k <ℤ pos (10 ^ 21))
start-near file h k c lt =
    let found = begins h (record_at file h k) (start_at file h k) (notes_in h (record_at file h k)) (says-read file h c k lt) in
    let small = start_small found.0 (start_at file h k) found.3 in
    (omega (arith, ints, small), omega (arith, ints, small))

-- the numerator of an instant
num-small : (n i : ℕ) (s d num : ℤ) → n ≤ 8388608 → i ≤ 8388608 → unsigned_abs s ≤ 433 * 10 ^ 21 → unsigned_abs d ≤ 10 ^ 20 → num ≡ (pos n *ℤ s) +ℤ (pos i *ℤ d) → unsigned_abs num < 2 ^ 102
num-small n i s d num few less near short e =
    let p : unsigned_abs (pos n *ℤ s) ≤ 8388608 * (433 * 10 ^ 21) = rw (unsigned_abs-mul (pos n) s) (mul-le-mul few near) in
    let q : unsigned_abs (pos i *ℤ d) ≤ 8388608 * 10 ^ 20 = rw (unsigned_abs-mul (pos i) d) (mul-le-mul less short) in
    omega (arith, ints, e, p, q)

sample-small : (file : List ℕ) (h : Head) (x : SampleValue) → Conforms file h → IsSample file h x → unsigned_abs (x.instant).num < 2 ^ 102
sample-small file h x c r =
    let bounds = (sound-of file h c).bounds in
    let few = few-in-lane file h x c r in
    let f = file-near h bounds.near bounds.early in
    let s = start-near file h r.data_record c r.in_file in
    let short : unsigned_abs h.duration < 10 ^ 20 = bounds.little_time in
    num-small (x.instant).den r.place (file_start h +ℤ start_at file h r.data_record) h.duration (x.instant).num few (omega (arith, few, r.in_lane))
    (omega (arith, ints, f, s)) (omega (arith, short)) (sample-at file h x r)

pub instants_fit : InstantsFit
instants_fit file other h g c d x y p q =
    let num = sample-small file h x c p in
    let n = few-in-lane file h x c p in
    let positive : 0 < (x.instant).den = omega (arith, p.in_lane) in
    let m = few-in-lane other g y d q in
    let product : unsigned_abs ((x.instant).num *ℤ pos (y.instant).den) ≤ 2 ^ 102 * 8388608 =
    rw (unsigned_abs-mul (x.instant).num (pos (y.instant).den)) (mul-le-mul (let z : unsigned_abs (x.instant).num ≤ 2 ^ 102 = omega (arith, num) in z) m) in
    ((omega (arith, num), positive, omega (arith, n)), omega (arith, product))

-- a product grows with a factor above 0
scale-strict : (n : ℕ) (x y : ℤ) → 0 < n → x <ℤ y → (pos n *ℤ x) <ℤ (pos n *ℤ y)
scale-strict n x y some lt =
    let q : (pos n *ℤ (x +ℤ pos 1)) ≤ℤ (pos n *ℤ y) = scale-mono n (x +ℤ pos 1) y (omega (arith, ints, lt)) in
    let sum = scale-sum n x (pos 1) in
    omega (arith, ints, q, sum, some)

-- no data record starts before the first one
first-starts : (file : List ℕ) (h : Head) (k : ℕ) → Conforms file h → k < h.records → start_at file h 0 ≤ℤ start_at file h k
first-starts file h zero c lt = omega (arith, ints)
first-starts file h (suc k) c lt =
    let behind : end_at file h 0 ≤ℤ start_at file h (suc k) = starts-behind file h 0 (suc k) c (omega arith) lt in
    let p = lasts file h c in
    omega (arith, ints, behind, p)

-- numerators over two denominators
crossed : (n m : ℕ) (s q y : ℤ) → q ≡ pos n *ℤ s → (pos m *ℤ s) ≤ℤ y → (q *ℤ pos m) ≤ℤ (y *ℤ pos n)
crossed n m s q y is le =
    let e : m * up s + down y ≤ up y + m * down s = omega (arith, ints, le) in
    let f : (m * up s + down y) * n ≤ (up y + m * down s) * n = mul-le-mul_right n e in
    let g : up q + n * down s ≡ n * up s + down q = omega (arith, ints, is) in
    let k : (up q + n * down s) * m ≡ (n * up s + down q) * m = ap (λ z. z * m) g in
    let goal : up q * m + down y * n ≤ up y * n + down q * m = omega (arith, f, k) in
    omega (arith, ints, goal)

sound-signal : (h : Head) (s : ℕ) (signal : SignalHead) → All IsSoundSignal h.signals → slice_get h.signals s ≡ Some signal → IsSoundSignal signal
sound-signal h s signal all e = subst IsSoundSignal (get-index h.signals s signal signal e) (all s signal (get-within h.signals s signal e))

pub start_is_of_least : StartIsOfLeast
start_is_of_least file h c =
    let standard = (c.header).standard in
    let channel = some_channel h.signals standard.channel in
    let s = channel.0 in
    let label = channel.1 in
    let signal = (channel.2).0 in
    let there = (channel.2).1 in
    let n = signal.samples in
    let some : 1 ≤ n = (sound-signal h s signal standard.signals there).some_samples in
    let start = file_start h +ℤ start_at file h 0 in
    let num : ℤ = (pos n *ℤ start) +ℤ (pos 0 *ℤ h.duration) in
    let records : 1 ≤ h.records = standard.some_records in
    let x : SampleValue = record { label = label; instant = record { num = num; den = n }; value = digital_value (lane_of signal (record_at file h 0)) 0 } in
    let z : num ≡ pos n *ℤ start = omega (arith, ints) in (
      x,
      record {
        sample = record {
          signal = signal;
          data_record = 0;
          place = 0;
          start = start_at file h 0;
          notes = notes_in h (record_at file h 0);
          channel = record { there = has-at h.signals s signal there; labelled = (channel.2).2 };
          count = refl;
          in_file = omega (arith, records);
          in_lane = omega (arith, some);
          says = says-read file h c 0 (omega (arith, records));
          instant = refl;
          value_is = refl;
        };
        least = λ y r.
            let m = (y.instant).den in
            let high = not-before-start m r.place (file_start h +ℤ start_at file h r.data_record) h.duration (y.instant).num (lasts file h c) (sample-at file h y r) in
            let first = first-starts file h r.data_record c r.in_file in
            let low : (pos m *ℤ start) ≤ℤ (pos m *ℤ (file_start h +ℤ start_at file h r.data_record)) = scale-mono m start (file_start h +ℤ start_at file h r.data_record) (omega (arith, ints, first)) in
            crossed n m start num (y.instant).num z (omega (arith, ints, high, low));
        second = record {
          reached =
              let early = starts_late file h c in
              let q = scale-mono n (file_start h) start (omega (arith, ints, early)) in
              omega (arith, ints, q, z);
          next_is_later =
              let late = starts_early file h c in
              let q = scale-strict n start ((start_second h +ℤ pos 1) *ℤ pos (10 ^ 12)) (omega (arith, some)) (omega (arith, ints, late)) in
              omega (arith, ints, q, z);
        };
      },
    )
