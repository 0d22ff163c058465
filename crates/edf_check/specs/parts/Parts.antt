-- When several files, one after the other, are together the export of an original under a claim.
use Rattle.std.specs.Prelude.{◌≡◌, ℕ, ◌+◌, ℤ, ◌+ℤ◌, ◌≤ℤ◌, List, [], ◌∷◌, ◌++◌, Some, slice_get}
use Rattle.edf_claim.specs.ClaimValues.{ClaimValue}
use Rattle.edf_fields.specs.Lists.{Has}
use Rattle.edf_header.specs.HeadsReading.{head_of}
use Rattle.edf_heads.specs.HeadVerdicts.{HeadsAgree}
use Rattle.edf_stream.specs.Conforming.{Conforms}
use Rattle.edf_stream.specs.annotation.Notes.{NoteValue}
use Rattle.edf_stream.specs.times.StartsReading.{start_at, end_before}
use Rattle.edf_pace.specs.Annotations.{SameNotes}
use Rattle.edf_check.specs.Courses.{Course, Agree}
use Rattle.edf_check.specs.KeptReading.{origin_of, KeptAt, ExportedAt, kept_notes, exported_notes}

-- one of the parts has a value at the instant moved by the shift
abbrev pub ExportedByOne : List ℕ → List (List ℕ) → ClaimValue → Course
ExportedByOne original parts claim label at value = (part : List ℕ) × Has parts part × ExportedAt original part claim label at value

-- the annotations of all parts with the shift taken off
abbrev pub exported_by_all : List ℕ → List (List ℕ) → ClaimValue → List NoteValue
exported_by_all original [] claim = []
exported_by_all original (part ∷ parts) claim = exported_notes original part claim ++ exported_by_all original parts claim

-- where the first data record of a file begins, and where its last one ends, in picoseconds after 1970-01-01 00:00:00
abbrev pub first_begin : List ℕ → ℤ
first_begin file = origin_of file +ℤ start_at file (head_of file) 0

abbrev pub last_end : List ℕ → ℤ
last_end file = origin_of file +ℤ end_before file (head_of file) (head_of file).records

-- each part begins where the one before it ends, or later
abbrev pub FollowOneAnother : List (List ℕ) → Type 0
FollowOneAnother parts = (j : ℕ) (part next : List ℕ) → slice_get parts j ≡ Some part → slice_get parts (j + 1) ≡ Some next → last_end part ≤ℤ first_begin next

-- the original and all parts conform to the profile (docs/PROFILE.md)
pub record AllConform (original : List ℕ) (parts : List (List ℕ)) : Type 0 where
  pub original_conforms : Conforms original (head_of original)
  pub parts_conform : (part : List ℕ) → Has parts part → Conforms part (head_of part)

-- the parts, of which there is at least one, are together the original, cut and made anonymous as the claim says, and nothing else: the
-- header of each agrees (channels, texts, calibrations, subfields, free text), they follow one another, the samples of all of them are the
-- kept ones, and so are the annotations of all of them, each as often, whichever part holds it
pub record AreTogether (original : List ℕ) (parts : List (List ℕ)) (claim : ClaimValue) : Type 0 where
  pub heads : (part : List ℕ) → Has parts part → HeadsAgree (head_of original) (head_of part) claim
  pub order : FollowOneAnother parts
  pub samples : Agree (KeptAt original claim) (ExportedByOne original parts claim)
  pub notes : SameNotes (kept_notes original claim) (exported_by_all original parts claim)
