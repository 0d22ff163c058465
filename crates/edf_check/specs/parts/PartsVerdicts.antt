-- The verdict on an original and several exports, one after the other: the first difference in the order of `Difference`, but that the
-- order of the exports goes before the samples; or Yes.
use Rattle.std.specs.Prelude.{◌≡◌, ℕ, ◌+◌, ◌*◌, ◌<◌, ◌<ℤ◌, ◌≤ℤ◌, List, [], ◌∷◌, length, None, Some, slice_get}
use Rattle.edf_check.specs.Words.{ClaimValue, Has, channels_among, Head, samples_together, head_of, HeadsAgree, file_fault, PartsVerdict, Verdict}
use Rattle.edf_pace.specs.Annotations.{IsFirstNote}
use Rattle.edf_check.specs.Courses.{Agree, IsFirstMismatch}
use Rattle.edf_check.specs.KeptReading.{KeptAt, kept_notes}
use Rattle.edf_check.specs.parts.Parts.{AllConform, AreTogether, ExportedByOne, FollowOneAnother, exported_by_all, first_begin, last_end}
use Rattle.edf_check.specs.parts.PartsFirst.{IsFirstFault, IsFirstHead}
use Rattle.edf_verdict.specs.declared.verdict.Verdict.TheVariants.{Yes, No}
use Rattle.edf_verdict.specs.declared.verdict.Difference.TheVariants.{OriginalFault, ExportFault, PartOrder, Sample, Annotation}

-- the part of this number, counted from 0, is the first one that begins before the one before it ends
pub record IsFirstOverlap (parts : List (List ℕ)) (part : ℕ) : Type 0 where
  pub before : ℕ
  pub number : part ≡ before + 1
  pub one : List ℕ
  pub next : List ℕ
  pub one_is : slice_get parts before ≡ Some one
  pub next_is : slice_get parts (before + 1) ≡ Some next
  pub early : first_begin next <ℤ last_end one
  pub none_before : (j : ℕ) (x y : List ℕ) → j < before → slice_get parts j ≡ Some x → slice_get parts (j + 1) ≡ Some y → last_end x ≤ℤ first_begin y

-- the original and all parts conform, and the header of each part agrees
pub record AllAgreed (original : List ℕ) (parts : List (List ℕ)) (claim : ClaimValue) : Type 0 where
  pub conform : AllConform original parts
  pub agree : (part : List ℕ) → Has parts part → HeadsAgree (head_of original) (head_of part) claim

-- the same, and the parts follow one another
pub record AllInOrder (original : List ℕ) (parts : List (List ℕ)) (claim : ClaimValue) : Type 0 where
  pub agreed : AllAgreed original parts claim
  pub order : FollowOneAnother parts

-- how many samples the channels of a file with this header have together
abbrev pub samples_in : Head → ℕ
samples_in h = h.records * samples_together (channels_among h.signals)

-- those of all parts
abbrev pub samples_of_all : List (List ℕ) → ℕ
samples_of_all [] = 0
samples_of_all (part ∷ parts) = samples_in (head_of part) + samples_of_all parts

-- what a Yes counts: the channels of the claim, and the samples and annotations of all parts
pub record HaveCounts (original : List ℕ) (parts : List (List ℕ)) (claim : ClaimValue) (channels samples annotations : ℕ) : Type 0 where
  pub channels_are : channels ≡ length claim.channels
  pub samples_are : samples ≡ samples_of_all parts
  pub annotations_are : annotations ≡ length (exported_by_all original parts claim)

-- all conform, and of the parts whose header differs this is the first: the one with the lowest number, and of several with that number the
-- first part. A channel that the original doesn't have is missing beside every part, so that the part is then 0
abbrev pub HeadDiffers : List ℕ → List (List ℕ) → ClaimValue → ℕ → Verdict → Type 0
HeadDiffers original parts claim part verdict = AllConform original parts × IsFirstHead (head_of original) claim 0 parts part verdict

-- this is the verdict, and it is said of this part; each says that those before it don't apply. Any other than those named here is a rule of
-- two headers
abbrev pub IsVerdictOnParts : List ℕ → List (List ℕ) → ClaimValue → ℕ → Verdict → Type 0
IsVerdictOnParts original parts claim part (No (OriginalFault fault)) = (part ≡ 0) × (file_fault original ≡ Some fault)
IsVerdictOnParts original parts claim part (No (ExportFault fault)) = (file_fault original ≡ None) × IsFirstFault 0 parts part fault
IsVerdictOnParts original parts claim part (No PartOrder) = AllAgreed original parts claim × IsFirstOverlap parts part
IsVerdictOnParts original parts claim part (No (Sample label at_ps mismatch)) =
    (part ≡ 0) × AllInOrder original parts claim × IsFirstMismatch (KeptAt original claim) (ExportedByOne original parts claim) label at_ps mismatch
IsVerdictOnParts original parts claim part (No (Annotation mismatch onset duration text)) =
    (part ≡ 0) × AllInOrder original parts claim × Agree (KeptAt original claim) (ExportedByOne original parts claim)
    × IsFirstNote (kept_notes original claim) (exported_by_all original parts claim) mismatch (record { onset = onset; duration = duration; text = text })
IsVerdictOnParts original parts claim part (Yes channels samples annotations) =
    (part ≡ 0) × AllConform original parts × AreTogether original parts claim × HaveCounts original parts claim channels samples annotations
IsVerdictOnParts original parts claim part verdict = HeadDiffers original parts claim part verdict

abbrev pub IsPartsVerdict : List ℕ → List (List ℕ) → ClaimValue → PartsVerdict → Type 0
IsPartsVerdict original parts claim verdict = IsVerdictOnParts original parts claim verdict.part verdict.verdict
