-- All differences of two rising lists of samples, and of each kind how many there are, the first and the last.
use Rattle.std.specs.Prelude.{ℕ, ◌+◌, ◌^◌, ◌-◌, max, min, List, [], ◌∷◌, map, length, filter, Bool, true, false, Option, Some, None, if◌then◌else◌}
use Rattle.edf_samples.specs.Words.{option_or, int_eq, PointDifference, Point}
use Rattle.edf_verdict.specs.declared.verdict.SampleMismatch.{SampleMismatch}
use Rattle.edf_verdict.specs.declared.verdict.SampleMismatch.TheVariants.{Missing, Extra, Value}
use Rattle.edf_samples.specs.declared.counts.counted.Counted.{Counted}
use Rattle.edf_samples.specs.declared.counts.tally.Tally.{Tally}
use Rattle.edf_samples.specs.declared.stretch.Stretch.{Stretch}
use Rattle.edf_samples.specs.InstantOrder.{is_before}
use Rattle.edf_samples.specs.Differences.{instant, missing, extra, other}
use Rattle.edf_samples.specs.Stretches.{points_behind, points_in, sample_at}

-- all differences, read from the left
unfoldable pub differences_of : ℕ → List Point → ℕ → List Point → List PointDifference
differences_of n [] m ys = map (extra m) ys
differences_of n (x ∷ xs) m [] = map (missing n) (x ∷ xs)
differences_of n (x ∷ xs) m (y ∷ ys) =
    if is_before (instant n x) (instant m y) then missing n x ∷ differences_of n xs m (y ∷ ys)
    else (if is_before (instant m y) (instant n x) then extra m y ∷ differences_of n (x ∷ xs) m ys
    else (if int_eq x.value y.value then differences_of n xs m ys else other n x y ∷ differences_of n xs m ys))

-- those behind the first i samples of one stretch and the first j of another
abbrev pub all_behind : Stretch → ℕ → Stretch → ℕ → List PointDifference
all_behind x i y j = differences_of x.den (points_behind x i) y.den (points_behind y j)

-- all of two stretches
abbrev pub all_of : Stretch → Stretch → List PointDifference
all_of x y = differences_of x.den (points_in x) y.den (points_in y)

-- each sample of a stretch from a place on is such a mismatch
abbrev pub each_is : SampleMismatch → Stretch → ℕ → List PointDifference
each_is mismatch x k = map (λ (p : Point). record { at = instant x.den p; mismatch = mismatch }) (points_behind x k)

-- the sample at a place of a stretch is such a mismatch
abbrev pub alone : SampleMismatch → Stretch → ℕ → PointDifference
alone mismatch x k = record { at = instant x.den (sample_at x k); mismatch = mismatch }

-- two samples at one instant have two values
abbrev pub change : Stretch → ℕ → Stretch → ℕ → PointDifference
change x i y j = other x.den (sample_at x i) (sample_at y j)

-- the first of some differences, and the last
abbrev pub first_of : List PointDifference → Option PointDifference
first_of [] = None
first_of (d ∷ ds) = Some d

abbrev pub last_of : List PointDifference → Option PointDifference
last_of [] = None
last_of (d ∷ ds) = option_or (last_of ds) (Some d)

abbrev pub is_missing : SampleMismatch → Bool
is_missing Missing = true
is_missing Extra = false
is_missing (Value v w) = false

abbrev pub is_extra : SampleMismatch → Bool
is_extra Missing = false
is_extra Extra = true
is_extra (Value v w) = false

abbrev pub is_changed : SampleMismatch → Bool
is_changed Missing = false
is_changed Extra = false
is_changed (Value v w) = true

-- whether one of two samples has no partner, as their difference says
abbrev pub lacks_second : Option PointDifference → Bool
lacks_second None = false
lacks_second (Some d) = is_missing d.mismatch

abbrev pub lacks_first : Option PointDifference → Bool
lacks_first None = false
lacks_first (Some d) = is_extra d.mismatch

-- those of a kind
abbrev pub of_kind : (SampleMismatch → Bool) → List PointDifference → List PointDifference
of_kind is ds = filter (λ d. is d.mismatch) ds

-- how many some differences are, as far as a counter goes, the first and the last
unfoldable pub counted : List PointDifference → Counted
counted ds = record { count = min (length ds) (2 ^ 64 - 1); first = first_of ds; last = last_of ds }

-- some, and then others
unfoldable pub joined_kind : Counted → Counted → Counted
joined_kind a b = record {
  count = min (a.count + b.count) (max a.count (2 ^ 64 - 1));
  first = option_or a.first b.first;
  last = option_or b.last a.last;
}

-- those of each kind, and the first of all
unfoldable pub tally_of : List PointDifference → Tally
tally_of ds = record {
  missing = counted (of_kind is_missing ds);
  extra = counted (of_kind is_extra ds);
  changed = counted (of_kind is_changed ds);
  first = first_of ds;
}

-- the tally of some, and then of others
unfoldable pub joined : Tally → Tally → Tally
joined a b = record {
  missing = joined_kind a.missing b.missing;
  extra = joined_kind a.extra b.extra;
  changed = joined_kind a.changed b.changed;
  first = option_or a.first b.first;
}

-- the tally where all are of one kind
abbrev pub all_missing : Counted → Tally
all_missing c = record { missing = c; extra = counted []; changed = counted []; first = c.first }

abbrev pub all_extra : Counted → Tally
all_extra c = record { missing = counted []; extra = c; changed = counted []; first = c.first }

abbrev pub all_changed : Counted → Tally
all_changed c = record { missing = counted []; extra = counted []; changed = c; first = c.first }

-- a tally, and that of what is behind the first i samples of one stretch and the first j of another
abbrev pub with_rest : Tally → Stretch → ℕ → Stretch → ℕ → Tally
with_rest tally x i y j = joined tally (tally_of (all_behind x i y j))
