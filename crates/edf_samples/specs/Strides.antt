-- Samples of a channel at two rates: how many of each lie from one instant that both have to the next.
use Rattle.std.specs.Prelude.{◌≡◌, ◌≢◌, ℕ, zero, suc, ◌+◌, ◌*◌, ◌<◌, ℤ, pos, ◌*ℤ◌, ◌<ℤ◌, List, [], ◌++◌}
use Rattle.std.specs.Int.{IsGcd, ◌∣◌}
use Rattle.std.specs.List.{range_with_len}
use Rattle.edf_samples.specs.declared.counts.strides.Strides.{Strides}
use Rattle.edf_samples.specs.declared.stretch.Stretch.{Stretch}

-- how far a sample of the first stretch stands behind the one before it, times both denominators
abbrev pub distance : Stretch → Stretch → ℤ
distance x y = x.step *ℤ pos y.den

-- the distances of two stretches are as the first number to the second
abbrev pub IsProportion : Stretch → Stretch → ℕ → ℕ → Type 0
IsProportion x y a b = (0 < a) × (0 < b) × (distance x y *ℤ pos b ≡ distance y x *ℤ pos a)

-- the greatest common divisor; what divides the same multiple of both divides that of it, too
abbrev pub IsCommonDivisor : ℕ → ℕ → ℕ → Type 0
IsCommonDivisor a b g = IsGcd a b g × ((k d : ℕ) → d ∣ k * a → d ∣ k * b → d ∣ k * g)

-- so many samples of one stretch last as long as so many of the other, and no sample of the first stands between at the instant of one of the second
pub record AreStrides (x y : Stretch) (strides : Strides) : Type 0 where
  pub some_here : 0 < strides.here
  pub some_there : 0 < strides.there
  pub other_rates : strides.here ≢ strides.there
  pub rises_here : pos 0 <ℤ x.step
  pub rises_there : pos 0 <ℤ y.step
  pub together : pos strides.here *ℤ distance x y ≡ pos strides.there *ℤ distance y x
  pub apart : (i j : ℕ) → 0 < i → i < strides.here → pos i *ℤ distance x y ≡ pos j *ℤ distance y x → ⊥

-- the places of n strides of a length, from number k on, but for the first of each
abbrev pub between : ℕ → ℕ → ℕ → List ℕ
between zero k n = []
between (suc p) k zero = []
between (suc p) k (suc n) = range_with_len (suc p * k + 1) p ++ between (suc p) (k + 1) n
