-- How many samples and annotations a file has.
use Rattle.std.proofs.Common.{◌≡◌, ℕ, zero, suc, ℤ, pos, ◌+◌, ◌*◌, ◌<◌, ◌≤◌, ◌+ℤ◌, ◌*ℤ◌, List, [], ◌∷◌, length, Some, slice_get, refl, arith, length-append}
use Rattle.std.proofs.lemmas.List.{length-map}
use Rattle.edf_header.specs.Heads.{SignalHead, Head, samples_together}
use Rattle.edf_stream.specs.Conforming.{Conforms}
use Rattle.edf_stream.specs.Laws.{SamplesAreCounted, NotesAreCounted}
use Rattle.edf_stream.specs.annotation.Notes.{moved_by}
use Rattle.edf_stream.specs.annotation.NotesReading.{notes_in, notes_before, moved_notes_in, moved_notes_before, notes_of}
use Rattle.edf_stream.specs.records.Records.{record_at, lane_of}
use Rattle.edf_stream.specs.samples.SamplesReading.{lane_samples, samples_by, samples_in, samples_before, samples_of}
use Rattle.edf_stream.specs.times.Starts.{file_start}
use Rattle.edf_stream.specs.times.StartsReading.{start_in}
use Rattle.edf_header.specs.signals.Channels.{channels_among}
use Rattle.edf_stream.proofs.samples.MemberFacts.{channel-among}
use Rattle.edf_stream.proofs.samples.RisingFacts.{lane-full}

lane-count : (c n : ℕ) (a d : ℤ) (lane : List ℕ) (m : ℕ) → length lane ≡ 2 * m → length (lane_samples c n a d lane) ≡ m
lane-count c n a d [] m e = omega (arith, e)
lane-count c n a d (byte ∷ []) m e = absurd (omega (arith, e))
lane-count c n a d (low ∷ high ∷ rest) zero e = absurd (omega (arith, e))
lane-count c n a d (low ∷ high ∷ rest) (suc m) e = let r = lane-count c n (a +ℤ d) d rest m (omega (arith, e)) in omega (arith, r)

record-count : (c : ℕ) (start d : ℤ) (channels : List SignalHead) (bytes : List ℕ)
    → ((s : ℕ) (signal : SignalHead) → slice_get channels s ≡ Some signal → length (lane_of signal bytes) ≡ 2 * signal.samples)
    → length (samples_by c start d channels bytes) ≡ samples_together channels
record-count c start d [] bytes full = refl
record-count c start d (signal ∷ channels) bytes full =
    let n = signal.samples in
    let here = lane-count c n (pos n *ℤ start) d (lane_of signal bytes) n (full 0 signal refl) in
    let rest = record-count (c + 1) start d channels bytes (λ s x e. full (suc s) x e) in
    omega (arith, here, rest, length-append (lane_samples c n (pos n *ℤ start) d (lane_of signal bytes)) (samples_by (c + 1) start d channels bytes))

in-count : (file : List ℕ) (h : Head) (k : ℕ) → Conforms file h → k < h.records → length (samples_in h (record_at file h k)) ≡ samples_together (channels_among h.signals)
unfolding samples_in
in-count file h k c lt =
    record-count 0 (file_start h +ℤ start_in h (record_at file h k)) h.duration (channels_among h.signals) (record_at file h k)
    (λ at signal e. let s = channel-among h.signals at signal e in lane-full file h k s.0 signal c lt s.1)

before-count : (file : List ℕ) (h : Head) (k : ℕ) → Conforms file h → k ≤ h.records → length (samples_before file h k) ≡ k * samples_together (channels_among h.signals)
before-count file h zero c le = omega arith
before-count file h (suc k) c le =
    let before = before-count file h k c (omega (arith, le)) in
    let here = in-count file h k c (omega (arith, le)) in
    omega (arith, before, here, length-append (samples_before file h k) (samples_in h (record_at file h k)))

pub samples_are_counted : SamplesAreCounted
unfolding samples_of
samples_are_counted file h c = before-count file h h.records c (omega arith)

moved-count : (h : Head) (bytes : List ℕ) → length (moved_notes_in h bytes) ≡ length (notes_in h bytes)
unfolding moved_notes_in
moved-count h bytes = length-map (notes_in h bytes) (moved_by (file_start h))

notes-count : (file : List ℕ) (h : Head) (k : ℕ) → length (moved_notes_before file h k) ≡ notes_before file h k
notes-count file h zero = refl
notes-count file h (suc k) =
    let before = notes-count file h k in
    let here = moved-count h (record_at file h k) in
    omega (arith, before, here, length-append (moved_notes_before file h k) (moved_notes_in h (record_at file h k)))

pub notes_are_counted : NotesAreCounted
unfolding notes_of
notes_are_counted file h = notes-count file h h.records
