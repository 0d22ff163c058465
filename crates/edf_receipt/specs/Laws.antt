-- Laws of receipts.
use Rattle.std.specs.Prelude.{◌≡◌, ◌<◌, ◌^◌, ℕ, List, [], ◌∷◌, ◌++◌, length}
use Rattle.edf_check.specs.Runs.{IsPartsReport, IsReport}
use Rattle.edf_receipt.specs.ReceiptRuns.{IsPartsReceipt, IsReceipt}
use Rattle.edf_receipt.specs.Receipts.{receipt}
use Rattle.edf_receipt.specs.declared.file_line.FileLine.{FileLine}
use Rattle.edf_receipt.specs.declared.file_line.ReceiptFile.{ReceiptFile}
use Rattle.edf_receipt.specs.declared.file_line.ReceiptFile.TheVariants.{Part}
use Rattle.edf_verdict.specs.declared.outcome.Outcome.{Outcome}

-- the number of a part has 64 bits at the most
abbrev pub IsShort : ReceiptFile → Type 0
IsShort (Part part) = part < 2 ^ 64
IsShort file = Unit {0}

-- the numbers in these lines have 64 bits at the most
abbrev pub AreShort : List FileLine → Type 0
AreShort [] = Unit {0}
AreShort (line ∷ lines) = (IsShort line.file × (line.digested.bytes < 2 ^ 64)) × AreShort lines

-- the text of a receipt of so many files determines the line of the verdict
abbrev pub TextTellsLine : Type 0
TextTellsLine = (version : List ℕ) (files others : List FileLine) (line other : List ℕ) → length files ≡ length others → AreShort files → AreShort others →
    receipt version files line ≡ receipt version others other → line ≡ other

-- behind the end of a line stands this one, and nothing behind it
abbrev pub EndsInLine : List ℕ → List ℕ → Type 0
EndsInLine text line = (front : List ℕ) × (text ≡ (front ++ (10 ∷ [])) ++ line)

-- what a run of the check writes of files is the last line of their receipt, and the outcome is the same
abbrev pub RunIsLastLine : Type 0
RunIsLastLine = (version original export text line written : List ℕ) (outcome other : Outcome) →
    IsReport original export text [] line outcome → IsReceipt version original export text [] written other → EndsInLine written line × (other ≡ outcome)

-- the same of several exports
abbrev pub PartsRunIsLastLine : Type 0
PartsRunIsLastLine = (version original : List ℕ) (parts : List (List ℕ)) (text line written : List ℕ) (outcome other : Outcome) →
    IsPartsReport original parts text [] line outcome → IsPartsReceipt version original parts text [] written other → EndsInLine written line × (other ≡ outcome)
