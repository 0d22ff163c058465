-- The samples of lanes and of data records, as lists and place by place.
use Rattle.std.proofs.Common.{◌≡◌, ℕ, suc, ℤ, pos, Bool, true, false, cond, not, ◌+◌, ◌*◌, ◌/◌, ◌<◌, ◌≤◌, ◌+ℤ◌, ◌*ℤ◌, List, [], ◌∷◌, ◌++◌, length, drop, get_or, refl, sym, ap, ◌∙◌, arith, append_assoc, append-nil, length-drop}
use Rattle.std.proofs.Math.Seq.{drop-cons}
use Rattle.std.proofs.lemmas.Int.{ints}
use Rattle.edf_stream.specs.declared.times.instant.Instant.{Instant}
use Rattle.edf_stream.specs.declared.times.lane_times.LaneTimes.{LaneTimes}
use Rattle.edf_stream.specs.declared.samples.sample.Sample.{Sample}
use Rattle.edf_stream.specs.samples.Values.{digital_value}
use Rattle.edf_stream.specs.samples.SamplesReading.{instant_on, lane_samples, samples_by}
use Rattle.edf_stream.specs.records.Records.{lane_of}
use Rattle.edf_header.specs.signals.Channels.{channels_among}
use Rattle.edf_header.specs.Heads.{SignalHead, is_annotations}

-- two bytes from an even place on
pub two-at : (lane : List ℕ) (i : ℕ) → 2 * i + 1 < length lane → drop (2 * i) lane ≡ get_or lane (2 * i) 0 ∷ get_or lane (2 * i + 1) 0 ∷ drop (2 * (i + 1)) lane
two-at lane i lt =
    let low : 2 * i < length lane = omega arith in
    drop-cons lane (2 * i) 0 low
    ∙ ap (λ k. get_or lane (2 * i) 0 ∷ drop k lane) (let e : suc (2 * i) ≡ 2 * i + 1 = omega arith in e)
    ∙ ap (λ xs. get_or lane (2 * i) 0 ∷ xs) (drop-cons lane (2 * i + 1) 0 lt)
    ∙ ap (λ k. get_or lane (2 * i) 0 ∷ get_or lane (2 * i + 1) 0 ∷ drop k lane) (let e : suc (2 * i + 1) ≡ 2 * (i + 1) = omega arith in e)

next_step : (a d : ℤ) (i : ℕ) → (a +ℤ (pos i *ℤ d)) +ℤ d ≡ a +ℤ (pos (i + 1) *ℤ d)
next_step a d i = omega (arith, ints)

-- the sample at a place of a lane, and those behind it
lane_samples-at : (grid : LaneTimes) (lane : List ℕ) (i : ℕ) (x : Sample) → 2 * i + 1 < length lane → x.instant ≡ instant_on grid i → x.value ≡ digital_value lane i
    → lane_samples x.channel grid.den (grid.start +ℤ (pos i *ℤ grid.step)) grid.step (drop (2 * i) lane)
    ≡ x ∷ lane_samples x.channel grid.den (grid.start +ℤ (pos (i + 1) *ℤ grid.step)) grid.step (drop (2 * (i + 1)) lane)
lane_samples-at grid lane i x lt instant value =
    let c = x.channel in
    let n = grid.den in
    let a = grid.start in
    let d = grid.step in
    let make : Instant → ℤ → Sample = λ at v. record { channel = c; instant = at; value = v } in
    ap (lane_samples c n (a +ℤ (pos i *ℤ d)) d) (two-at lane i lt)
    ∙ ap (λ b. make (instant_on grid i) (digital_value lane i) ∷ lane_samples c n b d (drop (2 * (i + 1)) lane)) (next_step a d i)
    ∙ ap (λ at. make at (digital_value lane i) ∷ lane_samples c n (a +ℤ (pos (i + 1) *ℤ d)) d (drop (2 * (i + 1)) lane)) (sym instant)
    ∙ ap (λ v. make x.instant v ∷ lane_samples c n (a +ℤ (pos (i + 1) *ℤ d)) d (drop (2 * (i + 1)) lane)) (sym value)

-- nothing is left behind the last pair of bytes
lane_samples-end : (c n : ℕ) (a d : ℤ) (lane : List ℕ) → length lane ≤ 1 → lane_samples c n a d lane ≡ []
lane_samples-end c n a d [] h = refl
lane_samples-end c n a d (x ∷ []) h = refl
lane_samples-end c n a d (x ∷ y ∷ lane) h = absurd (omega arith)

-- one more sample of a lane was found
pub lane-more : (before found more : List Sample) (c : ℕ) (grid : LaneTimes) (lane : List ℕ) (i : ℕ) (x : Sample) → 2 * i + 1 < length lane
    → x.channel ≡ c → x.instant ≡ instant_on grid i → x.value ≡ digital_value lane i → more ≡ found ++ x ∷ []
    → found ++ lane_samples c grid.den (grid.start +ℤ (pos i *ℤ grid.step)) grid.step (drop (2 * i) lane) ≡ before ++ lane_samples c grid.den grid.start grid.step lane
    → more ++ lane_samples c grid.den (grid.start +ℤ (pos (i + 1) *ℤ grid.step)) grid.step (drop (2 * (i + 1)) lane) ≡ before ++ lane_samples c grid.den grid.start grid.step lane
lane-more before found more c grid lane i x lt channel instant value e h =
    let rest : ℕ → List Sample = λ k. lane_samples k grid.den (grid.start +ℤ (pos (i + 1) *ℤ grid.step)) grid.step (drop (2 * (i + 1)) lane) in
    ap (λ k. more ++ rest k) (sym channel)
    ∙ ap (λ xs. xs ++ rest x.channel) e ∙ append_assoc found (x ∷ []) (rest x.channel)
    ∙ ap (λ xs. found ++ xs) (sym (lane_samples-at grid lane i x lt instant value))
    ∙ ap (λ k. found ++ lane_samples k grid.den (grid.start +ℤ (pos i *ℤ grid.step)) grid.step (drop (2 * i) lane)) channel ∙ h

-- all samples of a lane were found
pub lane-all : (before found : List Sample) (c : ℕ) (grid : LaneTimes) (lane : List ℕ) (i : ℕ) → length lane / 2 ≤ i
    → found ++ lane_samples c grid.den (grid.start +ℤ (pos i *ℤ grid.step)) grid.step (drop (2 * i) lane) ≡ before ++ lane_samples c grid.den grid.start grid.step lane
    → found ≡ before ++ lane_samples c grid.den grid.start grid.step lane
lane-all before found c grid lane i le h =
    sym (append-nil found)
    ∙ ap (λ xs. found ++ xs) (sym (lane_samples-end c grid.den (grid.start +ℤ (pos i *ℤ grid.step)) grid.step (drop (2 * i) lane) (omega (arith, length-drop (2 * i) lane)))) ∙ h

-- the samples of a signal that is a channel
pub only-channel : (c : ℕ) (start d : ℤ) (signal : SignalHead) (bytes : List ℕ) (b : Bool) → b ≡ false → b ≡ is_annotations signal.label
    → lane_samples c signal.samples (pos signal.samples *ℤ start) d (lane_of signal bytes) ≡ samples_by c start d (channels_among (signal ∷ [])) bytes
only-channel c start d signal bytes b plain is =
    let e : false ≡ is_annotations signal.label = sym plain ∙ is in
    sym (append-nil (lane_samples c signal.samples (pos signal.samples *ℤ start) d (lane_of signal bytes)))
    ∙ ap (λ t. samples_by c start d (cond (not t) (signal ∷ []) []) bytes) e

-- the samples of a signal, where it is a channel, and those of the signals behind it
pub next-channel : (c : ℕ) (start d : ℤ) (x : SignalHead) (xs : List SignalHead) (bytes : List ℕ)
    → samples_by c start d (channels_among (x ∷ xs)) bytes
    ≡ samples_by c start d (channels_among (x ∷ [])) bytes ++ samples_by (c + length (channels_among (x ∷ []))) start d (channels_among xs) bytes
next-channel c start d x xs bytes = by-kind (is_annotations x.label) (channels_among xs)
  where
    by-kind : (b : Bool) (ys : List SignalHead) → samples_by c start d (cond (not b) (x ∷ ys) ys) bytes
        ≡ samples_by c start d (cond (not b) (x ∷ []) []) bytes ++ samples_by (c + length (cond (not b) (x ∷ []) [])) start d ys bytes
    by-kind true ys = let e : c ≡ c + 0 = omega arith in ap (λ k. samples_by k start d ys bytes) e
    by-kind false ys =
        let here = lane_samples c x.samples (pos x.samples *ℤ start) d (lane_of x bytes) in
        ap (λ zs. zs ++ samples_by (c + 1) start d ys bytes) (sym (append-nil here))

-- the samples of one signal more were found
pub signal-more : (before found more : List Sample) (c next : ℕ) (start d : ℤ) (x : SignalHead) (rest all xs : List SignalHead) (bytes : List ℕ)
    → rest ≡ x ∷ xs → more ≡ found ++ samples_by c start d (channels_among (x ∷ [])) bytes → next ≡ c + length (channels_among (x ∷ []))
    → found ++ samples_by c start d (channels_among rest) bytes ≡ before ++ samples_by 0 start d (channels_among all) bytes
    → more ++ samples_by next start d (channels_among xs) bytes ≡ before ++ samples_by 0 start d (channels_among all) bytes
signal-more before found more c next start d x rest all xs bytes split e is h =
    ap (λ ys. ys ++ samples_by next start d (channels_among xs) bytes) e
    ∙ ap (λ k. (found ++ samples_by c start d (channels_among (x ∷ [])) bytes) ++ samples_by k start d (channels_among xs) bytes) is
    ∙ append_assoc found (samples_by c start d (channels_among (x ∷ [])) bytes) (samples_by (c + length (channels_among (x ∷ []))) start d (channels_among xs) bytes)
    ∙ ap (λ ys. found ++ ys) (sym (next-channel c start d x xs bytes))
    ∙ ap (λ ys. found ++ samples_by c start d (channels_among ys) bytes) (sym split)
    ∙ h

pub one-at-most : (x : SignalHead) → length (channels_among (x ∷ [])) ≤ 1
one-at-most x = by-kind (is_annotations x.label)
  where
    by-kind : (b : Bool) → length (cond (not b) (x ∷ []) []) ≤ 1
    by-kind true = omega arith
    by-kind false = omega arith
