-- What is told of the samples of claimed channels that both files have is all in which they differ; and a verdict on samples or annotations is the
-- first that is told.
use Rattle.std.specs.Prelude.{◌≡◌, ◌<◌, ℕ, ℤ, List, [], ◌∷◌, Option, Some, length, option_and_then, slice_get}
use Rattle.std.specs.List.Sorted.{IsPermutation, IsSorted}
use Rattle.edf_check.specs.Exports.{BothConform}
use Rattle.edf_check.specs.KeptReading.{KeptAt}
use Rattle.edf_check.specs.Verdicts.{IsVerdict}
use Rattle.edf_check.specs.parts.Parts.{AllConform, FollowOneAnother}
use Rattle.edf_check.specs.parts.PartsVerdicts.{IsPartsVerdict}
use Rattle.edf_claim.specs.ClaimValues.{ClaimValue}
use Rattle.edf_claim.specs.Claims.{IsClaim}
use Rattle.edf_fields.specs.Lists.{Has}
use Rattle.edf_heads.specs.Labels.{IsNotAbove}
use Rattle.edf_pace.specs.Annotations.{note_cmp}
use Rattle.edf_pace.specs.declared.notes.only_in_one.OnlyInOne.{OnlyInOne}
use Rattle.edf_pace.specs.notes.OnlyInOne.{AreOnlyInOne, said_at}
use Rattle.edf_pace.specs.walk.Readings.{beginning}
use Rattle.edf_samples.specs.InstantOrder.{floor_of}
use Rattle.edf_stream.specs.Views.{note_value}
use Rattle.edf_stream.specs.annotation.Notes.{NoteValue}
use Rattle.edf_stream.specs.declared.annotation.notes.Note.{Note}
use Rattle.edf_stream.specs.times.InstantOrder.{IsNotBefore}
use Rattle.edf_stream.specs.times.Instants.{IsSame}
use Rattle.edf_verdict.specs.declared.parts_verdict.PartsVerdict.{PartsVerdict}
use Rattle.edf_verdict.specs.declared.verdict.AnnotationMismatch.{AnnotationMismatch}
use Rattle.edf_verdict.specs.declared.verdict.AnnotationMismatch.TheVariants.{Missing, Extra}
use Rattle.edf_verdict.specs.declared.verdict.Difference.TheVariants.{Annotation, Sample}
use Rattle.edf_verdict.specs.declared.verdict.SampleMismatch.{SampleMismatch}
use Rattle.edf_verdict.specs.declared.verdict.Verdict.TheVariants.{No}
use Rattle.edf_findings.specs.Exports.{channels_of}
use Rattle.edf_findings.specs.Laws.{AreFoundFrom}
use Rattle.edf_findings.specs.declared.findings.Findings.{Findings}
use Rattle.edf_findings.specs.declared.notes.both.Notes.{Notes}
use Rattle.edf_findings.specs.declared.part.PartFindings.{PartFindings}
use Rattle.edf_findings.specs.declared.samples.compared.ComparedChannel.{ComparedChannel}
use Rattle.edf_findings.specs.declared.samples.compared.Spot.{Spot}
use Rattle.edf_all_told.specs.Told.{AreAllTold, AreToldInTurn, IsToldUnder, first_told, of_mismatch}

-- these are the findings in two files that conform, under a claim that can be made
pub record AreFoundInTwo (original export : List ℕ) (claim : ClaimValue) (found : Findings) : Type 0 where
  pub claimed : IsClaim claim
  pub conform : BothConform original export
  pub found_are : AreFoundFrom original (export ∷ []) claim found

-- in an original and several exports that conform and follow one another
pub record AreFoundInSeveral (original : List ℕ) (parts : List (List ℕ)) (claim : ClaimValue) (found : Findings) : Type 0 where
  pub claimed : IsClaim claim
  pub some : 0 < length parts
  pub conform : AllConform original parts
  pub follow : FollowOneAnother parts
  pub found_are : AreFoundFrom original parts claim found

-- of one export all is told
abbrev pub AllIsTold : Type 0
AllIsTold = (original export : List ℕ) (claim : ClaimValue) (found : Findings) → AreFoundInTwo original export claim found
    → (part : PartFindings) × (found.parts.items ≡ part ∷ []) × AreAllTold (KeptAt original claim) original export claim part

-- and of several all that differs in the time of each
abbrev pub AllIsToldOfSeveral : Type 0
AllIsToldOfSeveral = (original : List ℕ) (parts : List (List ℕ)) (claim : ClaimValue) (found : Findings) → AreFoundInSeveral original parts claim found
    → AreToldInTurn original claim beginning parts found.parts.items

-- in the channel of this label, in one of the exports, this difference is told as the first of its kind; no first one that is told of any
-- channel of any export is before it, and at its instant none of a lower label
pub record IsFirstTold (claim : ClaimValue) (found : List PartFindings) (label : List ℕ) (at_ps : ℤ) (mismatch : SampleMismatch) : Type 0 where
  pub part : PartFindings
  pub is_found : Has found part
  pub channel : ComparedChannel
  pub told : IsToldUnder claim part label channel
  pub spot : Spot
  pub first : first_told (of_mismatch mismatch channel) ≡ Some spot
  pub positive : 0 < ((spot.difference).at).den
  pub instant : floor_of (spot.difference).at ≡ at_ps
  pub mismatch_is : (spot.difference).mismatch ≡ mismatch
  pub none_before : (of : PartFindings) (other : ComparedChannel) (kind : SampleMismatch) (earlier : Spot) → Has found of → Has (channels_of of) other
      → first_told (of_mismatch kind other) ≡ Some earlier → IsNotBefore (earlier.difference).at (spot.difference).at
  pub none_below : (of : PartFindings) (name : List ℕ) (other : ComparedChannel) (kind : SampleMismatch) (beside : Spot) → Has found of → IsToldUnder claim of name other
      → first_told (of_mismatch kind other) ≡ Some beside → IsSame (beside.difference).at (spot.difference).at → IsNotAbove label name

-- the difference of samples that a verdict names is so: of one export, and of several
abbrev pub FirstIsTold : Type 0
FirstIsTold = (original export : List ℕ) (claim : ClaimValue) (found : Findings) (label : List ℕ) (at_ps : ℤ) (mismatch : SampleMismatch)
    → AreFoundInTwo original export claim found → IsVerdict original export claim (No (Sample label at_ps mismatch))
    → IsFirstTold claim found.parts.items label at_ps mismatch

abbrev pub FirstIsToldOfSeveral : Type 0
FirstIsToldOfSeveral = (original : List ℕ) (parts : List (List ℕ)) (claim : ClaimValue) (found : Findings) (v : PartsVerdict) (label : List ℕ) (at_ps : ℤ) (mismatch : SampleMismatch)
    → AreFoundInSeveral original parts claim found → IsPartsVerdict original parts claim v → v.verdict ≡ No (Sample label at_ps mismatch)
    → IsFirstTold claim found.parts.items label at_ps mismatch

-- the annotations of findings were put in order, and those found that don't stand equally often on both sides, as `Notes::only_in_one` gives them
pub record AreListed (notes : Notes) (kept exported : List Note) (only : OnlyInOne) : Type 0 where
  pub kept_are : IsPermutation notes.kept.items kept
  pub kept_order : IsSorted (λ x y. note_cmp (note_value x) (note_value y)) kept
  pub exported_are : IsPermutation notes.exported.items exported
  pub exported_order : IsSorted (λ x y. note_cmp (note_value x) (note_value y)) exported
  pub only_are : AreOnlyInOne kept exported only

-- what the first of them says that is missing, or that is extra
abbrev pub first_said : AnnotationMismatch → List Note → List Note → OnlyInOne → Option NoteValue
first_said Missing kept exported only = option_and_then (said_at kept) (slice_get only.missing.items 0)
first_said Extra kept exported only = option_and_then (said_at exported) (slice_get only.extra.items 0)

-- the annotation that a verdict names is the first of its kind there: of one export, and of several
abbrev pub FirstNoteIsTold : Type 0
FirstNoteIsTold = (original export : List ℕ) (claim : ClaimValue) (found : Findings) (mismatch : AnnotationMismatch) (note : NoteValue) (kept exported : List Note) (only : OnlyInOne)
    → AreFoundInTwo original export claim found → IsVerdict original export claim (No (Annotation mismatch note.onset note.duration note.text))
    → AreListed found.notes kept exported only → first_said mismatch kept exported only ≡ Some note

abbrev pub FirstNoteIsToldOfSeveral : Type 0
FirstNoteIsToldOfSeveral = (original : List ℕ) (parts : List (List ℕ)) (claim : ClaimValue) (found : Findings) (v : PartsVerdict)
    → (mismatch : AnnotationMismatch) (note : NoteValue) (kept exported : List Note) (only : OnlyInOne)
    → AreFoundInSeveral original parts claim found → IsPartsVerdict original parts claim v → v.verdict ≡ No (Annotation mismatch note.onset note.duration note.text)
    → AreListed found.notes kept exported only → first_said mismatch kept exported only ≡ Some note
