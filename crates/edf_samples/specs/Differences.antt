-- The first difference of two rising lists of samples, and the earliest one of several channels.
use Rattle.std.specs.Prelude.{ℕ, List, [], ◌∷◌, Option, Some, None, if◌then◌else◌, ◌+◌}
use Rattle.edf_samples.specs.Words.{option_or, option_map, int_eq, Instant, PointDifference, Found, Point}
use Rattle.edf_verdict.specs.declared.verdict.SampleMismatch.TheVariants.{Missing, Extra, Value}
use Rattle.edf_samples.specs.InstantOrder.{is_before}

-- where a sample of a channel with n samples a record stands
abbrev pub instant : ℕ → Point → Instant
instant n x = record { num = x.num; den = n }

-- the sample of the first list has no partner
abbrev pub missing : ℕ → Point → PointDifference
missing n x = record { at = instant n x; mismatch = Missing }

-- the sample of the second list has no partner
abbrev pub extra : ℕ → Point → PointDifference
extra m y = record { at = instant m y; mismatch = Extra }

-- two samples at one instant have two values
abbrev pub other : ℕ → Point → Point → PointDifference
other n x y = record { at = instant n x; mismatch = Value x.value y.value }

-- the difference of two heads
abbrev pub heads : ℕ → Point → ℕ → Point → Option PointDifference
heads n x m y =
    if is_before (instant n x) (instant m y) then Some (missing n x)
    else (if is_before (instant m y) (instant n x) then Some (extra m y)
    else (if int_eq x.value y.value then None else Some (other n x y)))

-- the first difference, read from the left
abbrev pub first_difference_of : ℕ → List Point → ℕ → List Point → Option PointDifference
first_difference_of n [] m [] = None
first_difference_of n [] m (y ∷ ys) = Some (extra m y)
first_difference_of n (x ∷ xs) m [] = Some (missing n x)
first_difference_of n (x ∷ xs) m (y ∷ ys) = option_or (heads n x m y) (first_difference_of n xs m ys)

-- a difference of channel k
abbrev pub found : ℕ → PointDifference → Found
found k d = record { channel = k; difference = d }

-- the earlier of two, and the first where they are at one instant
abbrev pub earlier : Option Found → Option Found → Option Found
earlier None b = b
earlier (Some a) None = Some a
earlier (Some a) (Some b) = if is_before b.difference.at a.difference.at then Some b else Some a

-- the earliest of the channels' differences, the first of which is that of channel k
abbrev pub earliest : ℕ → List (Option PointDifference) → Option Found
earliest k [] = None
earliest k (d ∷ ds) = earlier (option_map (found k) d) (earliest (k + 1) ds)
