-- Which samples of a lane of a data record stand between two times.
use Rattle.std.specs.Prelude.{◌≡◌, ℕ, ℤ, pos, ◌+ℤ◌, ◌*ℤ◌, ◌<ℤ◌, ◌*◌, ◌-◌, List, length, max}
use Rattle.edf_samples.specs.Words.{Point}
use Rattle.edf_samples.specs.declared.share.Share.{Share}
use Rattle.edf_samples.specs.declared.stretch.Stretch.{Stretch}
use Rattle.edf_samples.specs.declared.times.Window.{Window}
use Rattle.edf_samples.specs.Stretches.{since, until, stretch_points, front_count, whole}

-- a share of each lane with so many samples, of which the first stands at the numerator a and each further one d behind the one before
pub record IsShareOf (a d : ℤ) (w : Window) (s : Share) : Type 0 where
  pub num : s.num ≡ a +ℤ pos s.begin *ℤ d
  pub begin : (bytes : List ℕ) → length bytes ≡ 2 * s.samples → s.begin ≡ front_count s.samples (stretch_points a d bytes) (whole (w.from).ps)
  pub end : (bytes : List ℕ) → length bytes ≡ 2 * s.samples → s.end ≡ max (front_count s.samples (stretch_points a d bytes) (whole (w.to).ps)) s.begin

-- a stretch is such a part of a lane: its samples stand where the share says, each so far behind the one before
abbrev pub IsCutBy : Share → ℤ → Stretch → Type 0
IsCutBy s d x = (x.num ≡ s.num) × (x.step ≡ d) × (x.den ≡ s.samples) × (length x.bytes.now ≡ 2 * s.end - 2 * s.begin)

-- the part of a lane that stands in the window of which this is the share
abbrev pub IsPartBy : Share → ℤ → List ℕ → List Point → Type 0
IsPartBy s d lane points = (a : ℤ) (w : Window) → pos 0 <ℤ d → IsShareOf a d w s
    → points ≡ until s.samples (w.to).ps (since s.samples (w.from).ps (stretch_points a d lane))
