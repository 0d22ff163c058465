-- Which values of two lists of bytes differ.
use Rattle.std.specs.Prelude.{◌≡◌, ℕ, ◌+◌, ◌*◌, ◌==◌, ◌&&◌, ◌<◌, not, List, Bool, true, false, slice_index, length, filter, Option, MatchOption}
use Rattle.std.specs.List.{range_with_len}
use Rattle.edf_samples.specs.Words.{int_eq}
use Rattle.edf_stream.specs.samples.Values.{digital_value}
use Rattle.edf_samples.specs.declared.counts.places.Places.{Places}

-- of values of two bytes each, number k of the second list differs from that of the first, of which so many go by from one to the next
abbrev pub differs : ℕ → List ℕ → List ℕ → ℕ → Bool
differs stride long short k =
    not ((slice_index long (2 * (stride * k)) == slice_index short (2 * k)) && (slice_index long (2 * (stride * k) + 1) == slice_index short (2 * k + 1)))

-- the values of these bytes differ
abbrev pub values_differ : ℕ → List ℕ → List ℕ → ℕ → Bool
values_differ stride long short k = not (int_eq (digital_value long (stride * k)) (digital_value short k))

-- the value at place p k of the first list differs from that at place q k of the second
abbrev pub values_differ_at : ℕ → ℕ → List ℕ → List ℕ → ℕ → Bool
values_differ_at p q first second k = not (int_eq (digital_value first (p * k)) (digital_value second (q * k)))

-- of the numbers below n these pass a test: so many, this one first, and this one last
pub record ArePlaces (test : ℕ → Bool) (n : ℕ) (places : Places) : Type 0 where
  pub count_is : places.count ≡ length (filter test (range_with_len 0 n))
  pub first_passes : test places.first ≡ true
  pub none_before : (k : ℕ) → k < places.first → test k ≡ false
  pub last_passes : test places.last ≡ true
  pub last_within : places.last < n
  pub none_behind : (k : ℕ) → places.last < k → k < n → test k ≡ false

-- or none does
abbrev pub AreOthers : (ℕ → Bool) → ℕ → Option Places → Type 0
AreOthers test n places = MatchOption places ((k : ℕ) → k < n → test k ≡ false) (ArePlaces test n)
