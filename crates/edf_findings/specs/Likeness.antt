-- What two headers look like beside one another.
use Rattle.std.specs.Prelude.{◌≡◌, ◌⊎◌, ◌==◌, ◌&&◌, ℕ, ℤ, pos, ◌≤ℤ◌, ◌<ℤ◌, Bool, true, false, List, [], ◌∷◌}
use Rattle.std.specs.Ordering.{int_eq}
use Rattle.std.specs.Str.{bytes_eq}
use Rattle.edf_fields.specs.declared.fields.which.Which.{Which}
use Rattle.edf_fields.specs.declared.fields.which.Which.TheVariants.{PatientExtras, RecordingExtras}
use Rattle.edf_header.specs.Heads.{Head, SignalHead}
use Rattle.edf_header.specs.signals.Calibrations.{CalibrationValue}
use Rattle.edf_heads.specs.Comparisons.{IsUnchanged}
use Rattle.edf_stream.specs.times.Starts.{file_start}
use Rattle.edf_findings.specs.declared.heads.exchanged.Exchange.{Exchange}
use Rattle.edf_findings.specs.declared.heads.exchanged.Exchange.TheVariants.{ExportTwice, OriginalTwice, Swapped}

-- a number is nearer to 0 than another one, and on the same side of it, or 0
abbrev pub IsNearer : ℤ → ℤ → Type 0
IsNearer old new = ((pos 0 ≤ℤ new) × (new <ℤ old)) ⊎ ((old <ℤ new) × (new ≤ℤ pos 0))

-- or it is that one
unfoldable pub IsKeptOrNearer : ℤ → ℤ → Type 0
IsKeptOrNearer old new = (old ≡ new) ⊎ IsNearer old new

-- two signals have the same label, the same sensor and the same filter
abbrev pub have_same_texts_of : SignalHead → SignalHead → Bool
have_same_texts_of x y = bytes_eq x.label y.label && bytes_eq x.transducer y.transducer && bytes_eq x.prefilter y.prefilter

-- they have the same physical extremes, or the same digital ones
abbrev pub have_same_physical : CalibrationValue → CalibrationValue → Bool
have_same_physical l m = int_eq l.physical_minimum m.physical_minimum && int_eq l.physical_maximum m.physical_maximum

abbrev pub have_same_digital : CalibrationValue → CalibrationValue → Bool
have_same_digital l m = int_eq l.digital_minimum m.digital_minimum && int_eq l.digital_maximum m.digital_maximum

-- a header says the same of them, but for free text
abbrev pub are_same_signals_of : SignalHead → SignalHead → Bool
are_same_signals_of x y =
    have_same_texts_of x y && bytes_eq x.dimension y.dimension && (x.samples == y.samples)
    && (have_same_physical x.calibration y.calibration && have_same_digital x.calibration y.calibration)

-- these are as many, and each is like the one at its place
abbrev pub all_alike : (SignalHead → SignalHead → Bool) → List SignalHead → List SignalHead → Bool
all_alike alike [] [] = true
all_alike alike [] (y ∷ ys) = false
all_alike alike (x ∷ xs) [] = false
all_alike alike (x ∷ xs) (y ∷ ys) = alike x y && all_alike alike xs ys

-- each of these subfields is the same
abbrev pub AreUnchanged : Head → Head → List Which → Type 0
AreUnchanged one other [] = Unit {0}
AreUnchanged one other (which ∷ whiches) = IsUnchanged one other which × AreUnchanged one other whiches

-- two headers have the same texts: subfields, labels, sensors and filters
pub record HaveSameTexts (one other : Head) : Type 0 where
  pub signals : all_alike have_same_texts_of one.signals other.signals ≡ true
  pub subfields : (which : Which) → IsUnchanged one other which

-- two headers say the same, but for free text
pub record SayTheSame (one other : Head) : Type 0 where
  pub start : file_start one ≡ file_start other
  pub records : one.records ≡ other.records
  pub duration : one.duration ≡ other.duration
  pub signals : all_alike are_same_signals_of one.signals other.signals ≡ true
  pub subfields : (which : Which) → IsUnchanged one other which

-- one file can stand in the places of both only where both say the same, and each in the place of the other only where they don't
abbrev pub MayBe : Head → Head → Exchange → Type 0
MayBe original export ExportTwice = SayTheSame original export
MayBe original export OriginalTwice = SayTheSame original export
MayBe original export Swapped = ¬ SayTheSame original export

-- a header has a subfield: of those behind the name and behind the equipment there may be none
abbrev pub has_some : List (List ℕ) → Bool
has_some [] = false
has_some (text ∷ texts) = true

abbrev pub has_subfield_of : Head → Which → Bool
has_subfield_of h PatientExtras = has_some (h.patient).extras
has_subfield_of h RecordingExtras = has_some (h.recording).extras
has_subfield_of h which = true
