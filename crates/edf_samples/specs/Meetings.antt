-- How the samples of two stretches meet. These are steps between the definitions and the code.
use Rattle.std.specs.Prelude.{◌≡◌, true, ◌<◌, ◌≤◌, ◌*◌, pos, ◌*ℤ◌, length, map}
use Rattle.edf_verdict.specs.declared.verdict.SampleMismatch.TheVariants.{Missing, Extra}
use Rattle.edf_samples.specs.declared.counts.meeting.Meeting.{Meeting}
use Rattle.edf_samples.specs.declared.counts.meeting.Meeting.TheVariants.{Each, AtStrides, Unknown}
use Rattle.edf_samples.specs.declared.counts.meeting.WholeStrides.{WholeStrides}
use Rattle.edf_samples.specs.declared.stretch.Stretch.{Stretch}
use Rattle.edf_samples.specs.Stretches.{are_on_one_grid}
use Rattle.edf_samples.specs.Strides.{AreStrides, between}
use Rattle.edf_samples.specs.Tallies.{alone, counted}

-- two stretches have as many samples at the same instants, over one denominator
abbrev pub AreSetAlike : Stretch → Stretch → Type 0
AreSetAlike x u = (u.num ≡ x.num) × (u.step ≡ x.step) × (u.den ≡ x.den) × (length u.bytes.now ≡ length x.bytes.now)

-- two stretches begin at one instant, have so many whole strides at least, and what lies between two common instants one of them has alone
pub record AreWholeStrides (x y : Stretch) (w : WholeStrides) : Type 0 where
  pub start : x.num *ℤ pos y.den ≡ y.num *ℤ pos x.den
  pub strides : AreStrides x y w.strides
  pub some : 0 < w.count
  pub here : 2 * ((w.strides).here * w.count) ≤ length x.bytes.now
  pub there : 2 * ((w.strides).there * w.count) ≤ length y.bytes.now
  pub missing : w.missing ≡ counted (map (alone Missing x) (between (w.strides).here 0 w.count))
  pub extra : w.extra ≡ counted (map (alone Extra y) (between (w.strides).there 0 w.count))

-- two stretches meet so
abbrev pub IsMeeting : Stretch → Stretch → Meeting → Type 0
IsMeeting x y Each = are_on_one_grid x y ≡ true
IsMeeting x y (AtStrides w) = AreWholeStrides x y w
IsMeeting x y Unknown = Unit {0}
