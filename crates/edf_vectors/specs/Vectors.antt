-- What the worked rows write.
use Rattle.std.specs.Prelude.{◌≡◌, ◌↔◌, ℕ, Bool, true, false, List, ◌++◌, length, map, codes}
use Rattle.std.specs.Fmt.{decimal}
use Rattle.std.specs.List.{All, flat_map}
use Rattle.edf_verdict.specs.declared.outcome.Outcome.{Outcome}
use Rattle.edf_verdict.specs.declared.outcome.Outcome.TheVariants as outcomes
use Rattle.edf_verdict.specs.declared.parts_verdict.PartsVerdict.{PartsVerdict}
use Rattle.edf_verdict.specs.declared.verdict.Verdict.{Verdict}
use Rattle.edf_verdict.specs.Lines.{verdict_line}
use Rattle.edf_verdict.specs.PartsLines.{parts_verdict_line}
use Rattle.edf_check.specs.Runs.{IsVerdictUnder, IsPartsVerdictUnder}
use Rattle.edf_stop.specs.declared.stops.ReportStop.{ReportStop}
use Rattle.edf_stop.specs.Stops.{ReportStops}
use Rattle.edf_rows.specs.Rows.{WorkedRow, worked_rows}

-- the line of the verdict on two files under the claim that a text says
pub record IsLine (original export claim line : List ℕ) : Type 0 where
  pub verdict : Verdict
  pub under : IsVerdictUnder original export claim verdict
  pub line_is : line ≡ verdict_line verdict

-- the line of the verdict on an original and several exports under that claim
pub record IsPartsLine (original : List ℕ) (parts : List (List ℕ)) (claim line : List ℕ) : Type 0 where
  pub verdict : PartsVerdict
  pub under : IsPartsVerdictUnder original parts claim verdict
  pub line_is : line ≡ parts_verdict_line (length parts) verdict

-- the line of a row of one export, or of one of several: the files and the text of the claim that were built for it, and that this is their line
abbrev pub IsLineOfRow : Bool → List ℕ → Type 0
IsLineOfRow false line = (original export claim : List ℕ) × IsLine original export claim line
IsLineOfRow true line = (original : List ℕ) × (parts : List (List ℕ)) × (claim : List ℕ) × IsPartsLine original parts claim line

-- a row's number, a space, and the line
unfoldable pub row_text : ℕ → List ℕ → List ℕ
row_text number line = decimal number ++ (codes " " ++ line)

-- a row that was run, and its line
pub record CheckedRow : Type 0 where
  pub row : WorkedRow
  pub line : List ℕ
  pub is_line : IsLineOfRow row.of_several line

-- its text
abbrev pub checked_text : CheckedRow → List ℕ
checked_text checked = row_text checked.row.number checked.line

-- its line is the stored one
abbrev pub IsStored : CheckedRow → Type 0
IsStored checked = checked.line ≡ checked.row.stored

-- a row was run and its text appended, and Yes is said exactly where its line is the stored one
pub record IsRowWritten (row : WorkedRow) (old new : List ℕ) (outcome : Outcome) : Type 0 where
  pub line : List ℕ
  pub is_line : IsLineOfRow row.of_several line
  pub text : new ≡ old ++ row_text row.number line
  pub is_stored : (outcome ≡ outcomes.Yes) ↔ (line ≡ row.stored)

-- the same of rows, one after the other: Yes is said exactly where each line is the stored one
pub record AreRowsWritten (rows : List WorkedRow) (old new : List ℕ) (outcome : Outcome) : Type 0 where
  pub checked : List CheckedRow
  pub rows_are : map (λ c. c.row) checked ≡ rows
  pub text : new ≡ old ++ flat_map checked_text checked
  pub are_stored : (outcome ≡ outcomes.Yes) ↔ All IsStored checked

-- all worked rows were run and written
abbrev pub AreAllRowsWritten : (old new : List ℕ) (outcome : Outcome) → Type 0
AreAllRowsWritten = AreRowsWritten worked_rows

-- a report over files in memory stops for want of memory, or where its sink failed, and then this is said
abbrev pub RowStops : Type 0 → ReportStop → Type 0
RowStops failed stop = ReportStops ⊥ failed (Unit {0}) stop
