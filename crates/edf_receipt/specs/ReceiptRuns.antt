-- What is written where a receipt is asked for.
use Rattle.std.specs.Prelude.{◌≡◌, ◌<◌, ◌-◌, ◌^◌, ℕ, List, [], ◌∷◌, ◌++◌, map, Bool, true, IsTrue, length}
use Rattle.std.specs.List.{AllByRecursion}
use Rattle.edf_check.specs.Runs.{IsPartsVerdictUnder, IsPartWritten, IsVerdictUnder, IsWritten}
use Rattle.edf_receipt.specs.Digests.{digest_reads}
use Rattle.edf_fields.specs.declared.in_out.source.Source.{Ghosts}
use Rattle.edf_fields.specs.in_out.Sources.{Reads}
use Rattle.edf_pace.specs.PartsStops.{PartsStops}
use Rattle.edf_stop.specs.declared.parts_stops.PartsStop.{PartsStop}
use Rattle.edf_receipt.specs.Receipts.{files_of, line_of, part_lines, receipt}
use Rattle.edf_receipt.specs.declared.file_line.FileLine.{FileLine}
use Rattle.edf_receipt.specs.declared.file_line.ReceiptFile.{ReceiptFile}
use Rattle.edf_receipt.specs.declared.file_line.ReceiptFile.TheVariants.{Export}
use Rattle.edf_verdict.specs.Lines.{verdict_line}
use Rattle.edf_verdict.specs.Outcomes.{outcome_of}
use Rattle.edf_verdict.specs.PartsLines.{parts_verdict_line}
use Rattle.edf_verdict.specs.declared.outcome.Outcome.{Outcome}
use Rattle.edf_verdict.specs.declared.parts_verdict.PartsVerdict.{PartsVerdict}
use Rattle.edf_verdict.specs.declared.verdict.Verdict.{Verdict}

-- this is told of the reads of a source that digests and began with these bytes, fewer than the most that are counted
abbrev pub IsDigested : Reads → List ℕ → Type 0
IsDigested reads whole = (reads ≡ digest_reads 0 whole true) × (length whole < 2 ^ 64 - 1)

-- the same of several
abbrev pub AreDigested : List Reads → List (List ℕ) → Type 0
AreDigested [] [] = Unit {0}
AreDigested (read ∷ reads) (whole ∷ wholes) = IsDigested read whole × AreDigested reads wholes
AreDigested reads wholes = ⊥

-- nothing was read yet of a source that digests, its bytes are known, and they are fewer than the most that are counted
pub record IsFresh (reads : Reads) (honest : Bool) (left : List ℕ) : Type 0 where
  pub honest_is : IsTrue honest
  pub digested : IsDigested reads left

-- the same of one over another source, where that is honest and gives fewer bytes than the most that are counted
abbrev pub IsFreshOver : {S D : Type 0} → Ghosts S → S → Ghosts D → D → Type 0
IsFreshOver source s digest d = IsTrue (source.is_honest s) → length (source.left s) < 2 ^ 64 - 1 → IsFresh (digest.reads d) (digest.is_honest d) (digest.left d)

-- the same of several
pub record AreFresh (reads : List Reads) (honests : List Bool) (lefts : List (List ℕ)) : Type 0 where
  pub honest_are : AllByRecursion IsTrue honests
  pub digested : AreDigested reads lefts

-- the receipt of two files and of the text of a claim was written, with the line of the verdict on these very bytes and its outcome
abbrev pub IsReceipt : (version original export text old new : List ℕ) (outcome : Outcome) → Type 0
IsReceipt version original export text =
    IsWritten Verdict (IsVerdictUnder original export text) (λ v. receipt version (files_of original (line_of Export export ∷ []) text) (verdict_line v)) outcome_of

-- a front of that receipt was written
abbrev pub IsPartOfReceipt : (version original export text old new : List ℕ) → Type 0
IsPartOfReceipt version original export text =
    IsPartWritten Verdict (IsVerdictUnder original export text) (λ v. receipt version (files_of original (line_of Export export ∷ []) text) (verdict_line v))

-- the same, whatever the sources are: a front of a receipt that names some files and has the line of some verdict
abbrev pub IsFrontOfAReceipt : (version old new : List ℕ) → Type 0
IsFrontOfAReceipt version = IsPartWritten (List FileLine × Verdict) (λ said. Unit {0}) (λ said. receipt version said.0 (verdict_line said.1))

-- the receipt of an original, several exports and the text of a claim was written, in the same way
abbrev pub IsPartsReceipt : (version original : List ℕ) (parts : List (List ℕ)) (text old new : List ℕ) (outcome : Outcome) → Type 0
IsPartsReceipt version original parts text =
    IsWritten PartsVerdict (IsPartsVerdictUnder original parts text)
    (λ v. receipt version (files_of original (part_lines 0 parts) text) (parts_verdict_line (length parts) v)) (λ v. outcome_of v.verdict)

-- a front of that receipt was written
abbrev pub IsPartOfPartsReceipt : (version original : List ℕ) (parts : List (List ℕ)) (text old new : List ℕ) → Type 0
IsPartOfPartsReceipt version original parts text =
    IsPartWritten PartsVerdict (IsPartsVerdictUnder original parts text)
    (λ v. receipt version (files_of original (part_lines 0 parts) text) (parts_verdict_line (length parts) v))

-- the same, whatever the sources are: a front of a receipt that names some files and has the line of some verdict on so many exports
abbrev pub IsFrontOfAPartsReceipt : (version : List ℕ) (parts : ℕ) (old new : List ℕ) → Type 0
IsFrontOfAPartsReceipt version parts =
    IsPartWritten (List FileLine × PartsVerdict) (λ said. Unit {0}) (λ said. receipt version said.0 (parts_verdict_line parts said.1))

-- ---- the same of sources that digest, before and behind

-- the line names a file of the known bytes that the source began with
abbrev pub IsLineOf : {D : Type 0} → Ghosts D → D → ReceiptFile → FileLine → Type 0
IsLineOf source d file line = (whole : List ℕ) → IsDigested (source.reads d) whole → line ≡ line_of file whole

-- the lines name an original, an export and a claim of this text
abbrev pub AreFilesOf : {O E : Type 0} → Ghosts O → Ghosts E → O → E → List ℕ → List FileLine → Type 0
AreFilesOf original export o e text files = (first second : List ℕ) → IsDigested (original.reads o) first → IsDigested (export.reads e) second
    → files ≡ files_of first (line_of Export second ∷ []) text

-- no read of them failed
abbrev pub NeitherFails : {O E : Type 0} → Ghosts O → Ghosts E → O → O → E → E → Type 0
NeitherFails original export o o' e e' = (original.reads o' ≡ original.reads o) × (export.reads e' ≡ export.reads e)

-- the lines of several exports, of which the first has this number, stand behind those before
abbrev pub ArePartsOf : {E : Type 0} → Ghosts E → List E → ℕ → List FileLine → List FileLine → Type 0
ArePartsOf export parts first lines lines' = (wholes : List (List ℕ)) → AreDigested (map export.reads parts) wholes → lines' ≡ lines ++ part_lines first wholes

-- no read of one of them failed
abbrev pub NoPartFails : {E : Type 0} → Ghosts E → List E → List E → Type 0
NoPartFails export parts parts' = map export.reads parts' ≡ map export.reads parts

-- why reading them stops: none of the original failed
abbrev pub StopsOfParts : {E : Type 0} → Ghosts E → ℕ → List E → List E → PartsStop → Type 0
StopsOfParts export first parts parts' = PartsStops ⊥ (map export.reads parts' ≡ map export.reads parts) first (map export.reads parts) (map export.reads parts')

-- the lines name an original, several exports and a claim of this text
abbrev pub AreFilesOfAll : {O E : Type 0} → Ghosts O → Ghosts E → O → List E → List ℕ → List FileLine → Type 0
AreFilesOfAll original export o parts text files = (first : List ℕ) (wholes : List (List ℕ)) → IsDigested (original.reads o) first
    → AreDigested (map export.reads parts) wholes → files ≡ files_of first (part_lines 0 wholes) text

-- no read of one of them failed
abbrev pub NoneOfAllFails : {O E : Type 0} → Ghosts O → Ghosts E → O → O → List E → List E → Type 0
NoneOfAllFails original export o o' parts parts' = (original.reads o' ≡ original.reads o) × (map export.reads parts' ≡ map export.reads parts)
