-- What two files say of the channels at instants, and where they differ. Nothing here knows data records.
use Rattle.std.specs.Prelude.{◌≡◌, ◌≢◌, ◌↔◌, ℕ, ◌<◌, ℤ, List}
use Rattle.edf_stream.specs.declared.times.instant.Instant.{Instant}
use Rattle.edf_stream.specs.times.Instants.{IsSame}
use Rattle.edf_verdict.specs.declared.verdict.SampleMismatch.{SampleMismatch}
use Rattle.edf_verdict.specs.declared.verdict.SampleMismatch.TheVariants.{Missing, Extra, Value}
use Rattle.edf_samples.specs.InstantOrder.{IsBefore, floor_of}
use Rattle.edf_heads.specs.Labels.{IsNotAbove}

-- which value the channel of a label has at an instant
abbrev pub Course : Type 1
Course = List ℕ → Instant → ℤ → Type 0

-- both have the same values at all instants of all channels
abbrev pub Agree : Course → Course → Type 0
Agree kept exported = (label : List ℕ) (at : Instant) (value : ℤ) → 0 < at.den → kept label at value ↔ exported label at value

-- what is kept and what is exported differ at an instant of a channel: one has no value there, or each has another
abbrev pub DifferAt : Course → Course → List ℕ → Instant → SampleMismatch → Type 0
DifferAt kept exported label at Missing = ((v : ℤ) × kept label at v) × ((w : ℤ) → exported label at w → ⊥)
DifferAt kept exported label at Extra = ((w : ℤ) × exported label at w) × ((v : ℤ) → kept label at v → ⊥)
DifferAt kept exported label at (Value v w) = kept label at v × exported label at w × (v ≢ w)

-- they differ at an instant of this channel, whose whole picoseconds are these; at none before it, and at it in no channel of a lower label
pub record IsFirstMismatch (kept exported : Course) (label : List ℕ) (at_ps : ℤ) (mismatch : SampleMismatch) : Type 0 where
  pub at : Instant
  pub positive : 0 < at.den
  pub floor : at_ps ≡ floor_of at
  pub differ : DifferAt kept exported label at mismatch
  pub none_before : (other : List ℕ) (t : Instant) (m : SampleMismatch) → 0 < t.den → DifferAt kept exported other t m → IsBefore t at → ⊥
  pub none_below : (other : List ℕ) (t : Instant) (m : SampleMismatch) → 0 < t.den → DifferAt kept exported other t m → IsSame t at → IsNotAbove label other
