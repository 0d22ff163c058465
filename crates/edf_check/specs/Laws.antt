-- What follows from the definition of the verdict.
use Rattle.std.specs.Prelude.{◌≡◌, ◌↔◌, ◌<◌, ◌^◌, ◌*ℤ◌, ℕ, pos, neg_ℤ, unsigned_abs, List, [], ◌∷◌, length, ℤ, ◌+ℤ◌, ◌<ℤ◌, ◌≤ℤ◌}
use Rattle.edf_check.specs.Words.{IsPermutation, IsClaim, ClaimValue, Has, SignalHead, Head, start_second, head_of, AreBlankAlike, NoteValue, PartsVerdict, Verdict}
use Rattle.edf_claim.specs.declared.kept.interval.Interval.{Interval}
use Rattle.edf_fields.specs.texts.Dates.{NamesDashedDay}
use Rattle.edf_stream.specs.times.InstantOrder.{IsNotBefore, IsSecondOf}
use Rattle.edf_header.specs.signals.CalibrationLaws.{FitTogether}
use Rattle.edf_stream.specs.samples.Samples.{SampleValue, IsSample}
use Rattle.edf_pace.specs.Annotations.{SameNotes}
use Rattle.edf_verdict.specs.declared.verdict.Verdict.TheVariants.{Yes}
use Rattle.edf_check.specs.Exports.{BothConform, SameSamples, IsExport}
use Rattle.edf_heads.specs.HeadVerdicts.{IsBroken}
use Rattle.edf_verdict.specs.declared.verdict.Difference.{Difference}
use Rattle.edf_samples.specs.Instants.{later}
use Rattle.edf_check.specs.Headline.{Headline}
use Rattle.edf_pace.specs.Kept.{IsKeptSample, SamplesAsKept, shift_ps}
use Rattle.edf_check.specs.KeptReading.{KeptAt, kept_notes, origin_of}
use Rattle.edf_check.specs.Courses.{Agree}
use Rattle.edf_check.specs.parts.Counted.{AreCounted, HasNothing}
use Rattle.edf_check.specs.parts.Parts.{AllConform, AreTogether, ExportedByOne, FollowOneAnother, exported_by_all}
use Rattle.edf_check.specs.parts.PartsVerdicts.{AllAgreed, IsPartsVerdict}
use Rattle.edf_pace.specs.walk.Watching.{ExportCount}
use Rattle.edf_check.specs.SameFiles.{HoldTheSame}
use Rattle.edf_check.specs.Verdicts.{IsVerdict}

-- there is one verdict at most
abbrev pub OneVerdict : Type 0
OneVerdict = (original export : List ℕ) (claim : ClaimValue) (v w : Verdict) → IsVerdict original export claim v → IsVerdict original export claim w → v ≡ w

-- under a claim that is read there is one
abbrev pub SomeVerdict : Type 0
SomeVerdict = (original export : List ℕ) (claim : ClaimValue) → IsClaim claim → (v : Verdict) × IsVerdict original export claim v

-- the verdict is a Yes
abbrev pub IsYes : Verdict → Type 0
IsYes verdict = (channels samples annotations : ℕ) × (verdict ≡ Yes channels samples annotations)

-- where there is a verdict, it is a Yes exactly where both files conform and the second is the export of the first
abbrev pub YesExactly : Type 0
YesExactly = (original export : List ℕ) (claim : ClaimValue) (v : Verdict) → IsVerdict original export claim v →
    (BothConform original export × IsExport original export claim) ↔ IsYes v

-- the headline holds exactly where both files conform and the second is the export of the first
abbrev pub HeadlineExactly : Type 0
HeadlineExactly = (original export : List ℕ) (claim : ClaimValue) →
    Headline original export claim ↔ (BothConform original export × IsExport original export claim)

-- the samples are the same at all instants exactly where they are so one by one
abbrev pub SamplesInWords : Type 0
SamplesInWords = (original export : List ℕ) (claim : ClaimValue) →
    SameSamples original export claim ↔ SamplesAsKept original export (head_of original) (head_of export) claim

-- a single file is the export of an original exactly where it is so as the only part
abbrev pub OnePart : Type 0
OnePart = (original export : List ℕ) (claim : ClaimValue) → AreTogether original (export ∷ []) claim ↔ IsExport original export claim

-- what is said of it as the only part is the verdict on it, and is said of part 0
abbrev pub OnePartVerdict : Type 0
OnePartVerdict = (original export : List ℕ) (claim : ClaimValue) (v : PartsVerdict) →
    IsPartsVerdict original (export ∷ []) claim v ↔ ((v.part ≡ 0) × IsVerdict original export claim v.verdict)

-- several parts have one verdict at most, and it is said of one part
abbrev pub OneVerdictOnParts : Type 0
OneVerdictOnParts = (original : List ℕ) (parts : List (List ℕ)) (claim : ClaimValue) (v w : PartsVerdict) →
    IsPartsVerdict original parts claim v → IsPartsVerdict original parts claim w → v ≡ w

-- where there is a verdict on several parts, it is a Yes exactly where all conform and the parts are together the export
abbrev pub YesTogether : Type 0
YesTogether = (original : List ℕ) (parts : List (List ℕ)) (claim : ClaimValue) (v : PartsVerdict) → IsPartsVerdict original parts claim v →
    (AllConform original parts × AreTogether original parts claim) ↔ IsYes v.verdict

-- each annotation stands equally often in two lists exactly where one is a rearrangement of the other
abbrev pub NotesInWords : Type 0
NotesInWords = (kept exported : List NoteValue) → SameNotes kept exported ↔ IsPermutation kept exported

-- the products by which the samples of an original are kept and compared with those of an export, at the claimed shift, fit 128 bits, and so
-- do those of the calibrations, of either with the other
pub record ProductsFit (original export : List ℕ) (claim : ClaimValue) : Type 0 where
  pub bounds : (x : SampleValue) (i : Interval) → IsSample original (head_of original) x → Has claim.keep i →
      (unsigned_abs (i.from_ps *ℤ pos (x.instant).den) < 2 ^ 127) × (unsigned_abs (i.to_ps *ℤ pos (x.instant).den) < 2 ^ 127)
  pub shifts : (x : SampleValue) → IsSample original (head_of original) x →
      (unsigned_abs (origin_of original *ℤ pos (x.instant).den) < 2 ^ 127) × (unsigned_abs (shift_ps claim *ℤ pos (x.instant).den) < 2 ^ 127)
  pub kept : (x : SampleValue) → IsSample original (head_of original) x → unsigned_abs (later (neg_ℤ (origin_of original)) x.instant).num < 2 ^ 127
  pub moved : (x y : SampleValue) → IsSample original (head_of original) x → IsSample export (head_of export) y →
      (unsigned_abs ((later (shift_ps claim) x.instant).num *ℤ pos (y.instant).den) < 2 ^ 127) × (unsigned_abs ((y.instant).num *ℤ pos (x.instant).den) < 2 ^ 127)
  pub calibrations : (x y : SignalHead) → Has (head_of original).signals x → Has (head_of export).signals y → FitTogether x.calibration y.calibration × FitTogether y.calibration x.calibration

abbrev pub AllProductsFit : Type 0
AllProductsFit = (original export : List ℕ) (claim : ClaimValue) → BothConform original export → IsClaim claim → ProductsFit original export claim

-- of the samples of the original that the claim keeps this is one, and none of them is earlier
pub record IsFirstKept (original : List ℕ) (h : Head) (claim : ClaimValue) (x : SampleValue) : Type 0 where
  pub kept : IsKeptSample original h claim x
  pub least : (y : SampleValue) → IsKeptSample original h claim y → IsNotBefore y.instant x.instant

-- the second is one of the day with this number; both count from 1970-01-01 on
abbrev pub IsDayOf : ℤ → ℤ → Type 0
IsDayOf day second = ((pos 86400 *ℤ day) ≤ℤ second) × (second <ℤ (pos 86400 *ℤ (day +ℤ pos 1)))

-- the export starts at the whole second of the first kept sample, moved by the claimed shift; and the date of its recording, where
-- that is told, is the day of this second
pub record StartsAsKept (original export : List ℕ) (h g : Head) (claim : ClaimValue) : Type 0 where
  pub sample : SampleValue
  pub first : IsFirstKept original h claim sample
  pub second : IsSecondOf (later (shift_ps claim) sample.instant) (start_second g)
  pub day : (n : ℤ) → NamesDashedDay g.recording.date n → IsDayOf n (start_second g)

-- under the headline the start of an export, and its date, follow from the samples that are kept
abbrev pub StartFollows : Type 0
StartFollows = (original export : List ℕ) (claim : ClaimValue) (r : Headline original export claim) →
    StartsAsKept original export r.original_head r.export_head claim

-- however a writer cuts the export, the verdict on it is the same: it is that of every file that holds the same and has free text in
-- the same places
abbrev pub AnyCutOfExport : Type 0
AnyCutOfExport = (original export other : List ℕ) (claim : ClaimValue) (v : Verdict) → HoldTheSame export other → AreBlankAlike (head_of export) (head_of other)
    → IsVerdict original export claim v → IsVerdict original other claim v

-- the same of the original, whatever free text it has
abbrev pub AnyCutOfOriginal : Type 0
AnyCutOfOriginal = (original other export : List ℕ) (claim : ClaimValue) (v : Verdict) → HoldTheSame original other
    → IsVerdict original export claim v → IsVerdict other export claim v

-- of parts whose headers agree and that follow one another nothing is counted exactly where the samples of all together are as the claim says
abbrev pub NothingIsCounted : Type 0
NothingIsCounted = (original : List ℕ) (parts : List (List ℕ)) (claim : ClaimValue) (counts : List ExportCount) → IsClaim claim → 0 < length parts → AllAgreed original parts claim → FollowOneAnother parts
    → AreCounted original parts claim [] counts → HasNothing counts ↔ Agree (KeptAt original claim) (ExportedByOne original parts claim)

-- of an original and exports that conform nothing was found: no rule of the two headers is broken in any of them, none begins before the one
-- before it ends, nothing was counted of any channel, and no annotation is in the original or the exports alone
pub record NothingIsFoundIn (original : List ℕ) (parts : List (List ℕ)) (claim : ClaimValue) (counts : List ExportCount) : Type 0 where
  pub heads : (part : List ℕ) (rule : Difference) → Has parts part → IsBroken (head_of original) (head_of part) claim rule → ⊥
  pub order : FollowOneAnother parts
  pub samples : HasNothing counts
  pub notes : SameNotes (kept_notes original claim) (exported_by_all original parts claim)

-- nothing is found exactly where the verdict is a Yes
abbrev pub NothingIsFound : Type 0
NothingIsFound = (original : List ℕ) (parts : List (List ℕ)) (claim : ClaimValue) (counts : List ExportCount) (v : PartsVerdict) → IsClaim claim → 0 < length parts → AllConform original parts
    → IsPartsVerdict original parts claim v → AreCounted original parts claim [] counts → NothingIsFoundIn original parts claim counts ↔ IsYes v.verdict
