-- The verdict on an original and an export: the first difference in the order of `Difference`, or Yes.
use Rattle.std.specs.Prelude.{◌≡◌, ℕ, List, None, Some}
use Rattle.edf_check.specs.Words.{ClaimValue, head_of, HeadsAgree, IsHeadVerdict, file_fault, notes_of, Verdict}
use Rattle.edf_pace.specs.Annotations.{IsFirstNote}
use Rattle.edf_check.specs.Courses.{IsFirstMismatch}
use Rattle.edf_check.specs.Exports.{BothConform, SameSamples, IsExport}
use Rattle.edf_check.specs.Headline.{AreCounts}
use Rattle.edf_check.specs.KeptReading.{KeptAt, ExportedAt, kept_notes, exported_notes}
use Rattle.edf_verdict.specs.declared.verdict.Verdict.TheVariants.{Yes, No}
use Rattle.edf_verdict.specs.declared.verdict.Difference.TheVariants.{OriginalFault, ExportFault, PartOrder, Sample, Annotation}

-- this is the verdict; each says that those before it don't apply. Any other than those named here is a rule of two headers
abbrev pub IsVerdict : List ℕ → List ℕ → ClaimValue → Verdict → Type 0
IsVerdict original export claim (No (OriginalFault fault)) = file_fault original ≡ Some fault
IsVerdict original export claim (No (ExportFault fault)) = (file_fault original ≡ None) × (file_fault export ≡ Some fault)
IsVerdict original export claim (No PartOrder) = ⊥
IsVerdict original export claim (No (Sample label at_ps mismatch)) =
    BothConform original export × HeadsAgree (head_of original) (head_of export) claim
    × IsFirstMismatch (KeptAt original claim) (ExportedAt original export claim) label at_ps mismatch
IsVerdict original export claim (No (Annotation mismatch onset duration text)) =
    BothConform original export × HeadsAgree (head_of original) (head_of export) claim × SameSamples original export claim
    × IsFirstNote (kept_notes original claim) (exported_notes original export claim) mismatch (record { onset = onset; duration = duration; text = text })
IsVerdict original export claim (Yes channels samples annotations) =
    BothConform original export × IsExport original export claim
    × AreCounts (head_of export) (notes_of export (head_of export)) channels samples annotations
IsVerdict original export claim verdict = BothConform original export × IsHeadVerdict (head_of original) (head_of export) claim verdict
