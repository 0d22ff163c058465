-- Samples of a channel at even distances, as a lane holds them, what of two lanes is alike, and lists of samples that are cut at a time.
-- EDF (1992), "Data record".
use Rattle.std.specs.Prelude.{ℕ, suc, ◌+◌, ◌*◌, ◌<◌, ◌≤◌, ◌^◌, ℤ, pos, ◌+ℤ◌, ◌*ℤ◌, ◌<ℤ◌, unsigned_abs, List, [], ◌∷◌, Option, length, drop, Bool, ◌&&◌, if◌then◌else◌, ◌≡◌, ◌≢◌, slice_index, not, filter}
use Rattle.edf_samples.specs.Words.{int_eq, Instant, PointDifference, Point}
use Rattle.edf_stream.specs.samples.Values.{digital, digital_value}
use Rattle.edf_samples.specs.declared.counts.head.Head.{Head}
use Rattle.edf_samples.specs.declared.stretch.Stretch.{Stretch}
use Rattle.edf_samples.specs.Differences.{first_difference_of, instant}
use Rattle.edf_samples.specs.InstantOrder.{is_before}

-- the samples of these bytes, two bytes each: the first at the numerator a, each further one d behind the one before
abbrev pub stretch_points : ℤ → ℤ → List ℕ → List Point
stretch_points a d [] = []
stretch_points a d (byte ∷ []) = []
stretch_points a d (low ∷ high ∷ rest) = record { num = a; value = digital low high } ∷ stretch_points (a +ℤ d) d rest

abbrev pub points_in : Stretch → List Point
points_in s = stretch_points s.num s.step s.bytes.now

-- those behind the first k
unfoldable pub points_behind : Stretch → ℕ → List Point
points_behind s k = stretch_points (s.num +ℤ pos k *ℤ s.step) s.step (drop (2 * k) s.bytes.now)

-- the one at a place
abbrev pub sample_at : Stretch → ℕ → Point
sample_at s k = record { num = s.num +ℤ pos k *ℤ s.step; value = digital_value s.bytes.now k }

-- a sample of a stretch, its instant and the distance to the next one, both times another denominator as well
abbrev pub IsHead : Stretch → ℕ → Head → Type 0
IsHead x m h = (h.time ≡ (x.num +ℤ pos h.place *ℤ x.step) *ℤ pos m) × (h.step ≡ x.step *ℤ pos m)

-- the first difference of two stretches; and of what is behind the first k samples of each
abbrev pub difference_of_both : Stretch → Stretch → Option PointDifference
difference_of_both x y = first_difference_of x.den (points_in x) y.den (points_in y)

abbrev pub difference_from : Stretch → Stretch → ℕ → Option PointDifference
difference_from x y k = first_difference_of x.den (points_behind x k) y.den (points_behind y k)

-- a lane of a data record: its times, and the distances from times to its samples, fit 128 bits
abbrev pub IsBounded : Stretch → Type 0
IsBounded s = (unsigned_abs s.num < 3 * 2 ^ 102) × (pos 0 <ℤ s.step) × (unsigned_abs s.step < 2 ^ 68) × (0 < s.den) × (s.den ≤ 2 ^ 23) × (length s.bytes.now ≤ 2 ^ 24)

-- a part of such a lane: each of its samples stands at a modest instant
abbrev pub IsPart : Stretch → Type 0
IsPart s = (unsigned_abs s.num < 3 * 2 ^ 102 + 2 ^ 93) × (unsigned_abs s.step < 2 ^ 68) × (0 < s.den) × (s.den ≤ 2 ^ 23) × (length s.bytes.now ≤ 2 ^ 24)

-- the samples stand at the same instants, one by one: the first ones do, and the distances are the same
abbrev pub are_on_one_grid : Stretch → Stretch → Bool
are_on_one_grid x y = int_eq (x.num *ℤ pos y.den) (y.num *ℤ pos x.den) && int_eq (x.step *ℤ pos y.den) (y.step *ℤ pos x.den)

-- how many samples from the front are before t
abbrev pub front_count : ℕ → List Point → Instant → ℕ
front_count n [] t = 0
front_count n (x ∷ xs) t = if is_before (instant n x) t then suc (front_count n xs t) else 0

-- two lists of bytes are the same before place n
abbrev pub AreAlikeBefore : ℕ → List ℕ → List ℕ → Type 0
AreAlikeBefore n xs ys = (k : ℕ) → k < n → slice_index xs k ≡ slice_index ys k

-- the least place where they differ
abbrev pub IsLeastPlace : ℕ → List ℕ → List ℕ → Type 0
IsLeastPlace p xs ys = (p < length xs) × (slice_index xs p ≢ slice_index ys p) × AreAlikeBefore p xs ys

-- a whole number of picoseconds after the second at which the original starts, before the shift
abbrev pub whole : ℤ → Instant
whole t = record { num = t; den = 1 }

-- those of a channel with n samples in a data record that stand at t or later
abbrev pub since : ℕ → ℤ → List Point → List Point
since n t xs = filter (λ x. not (is_before (instant n x) (whole t))) xs

-- those that stand before u
abbrev pub until : ℕ → ℤ → List Point → List Point
until n u xs = filter (λ x. is_before (instant n x) (whole u)) xs
