-- When a file is the export of an original under a claim.
use Rattle.std.specs.Prelude.{ℕ, List}
use Rattle.edf_claim.specs.ClaimValues.{ClaimValue}
use Rattle.edf_header.specs.HeadsReading.{head_of}
use Rattle.edf_stream.specs.Conforming.{Conforms}
use Rattle.edf_pace.specs.Annotations.{SameNotes}
use Rattle.edf_check.specs.Courses.{Agree}
use Rattle.edf_heads.specs.HeadVerdicts.{HeadsAgree}
use Rattle.edf_check.specs.KeptReading.{KeptAt, ExportedAt, kept_notes, exported_notes}

-- both files conform to the profile (docs/PROFILE.md)
pub record BothConform (original export : List ℕ) : Type 0 where
  pub original_conforms : Conforms original (head_of original)
  pub export_conforms : Conforms export (head_of export)

-- the export's samples are exactly those that the claim keeps of the original, at the instants moved by the shift, value for value
abbrev pub SameSamples : List ℕ → List ℕ → ClaimValue → Type 0
SameSamples original export claim = Agree (KeptAt original claim) (ExportedAt original export claim)

-- the export is the original, cut and made anonymous as the claim says, and nothing else: the headers agree (channels, texts,
-- calibrations, subfields, free text), the samples are the kept ones, and so are the annotations, each as often
pub record IsExport (original export : List ℕ) (claim : ClaimValue) : Type 0 where
  pub heads : HeadsAgree (head_of original) (head_of export) claim
  pub samples : SameSamples original export claim
  pub notes : SameNotes (kept_notes original claim) (exported_notes original export claim)
