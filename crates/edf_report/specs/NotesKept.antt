-- The lines of annotations that come one after the other. These are steps between the definitions and the code.
use Rattle.std.specs.Prelude.{◌≡◌, ℕ, List, [], ◌++◌, IsTrue}
use Rattle.std.proofs.Common.{sym, ap, ◌∙◌, append_assoc}
use Rattle.std.proofs.lemmas.List.{append-nil}
use Rattle.std.proofs.lemmas.Grind.{flat_map-append}
use Rattle.edf_fields.specs.declared.in_out.sink.Sink.{Ghosts as SinkGhosts}
use Rattle.edf_fields.specs.declared.in_out.source.Source.{Ghosts}
use Rattle.edf_fields.specs.in_out.Sinks.{HoldsPrefix}
use Rattle.edf_stream.specs.Faults.{body_fault}
use Rattle.edf_stream.specs.annotation.Notes.{NoteValue}
use Rattle.edf_stream.specs.records.Readers.{Reader, StandsIn}
use Rattle.edf_verdict.specs.declared.outcome.Outcome.{Outcome}
use Rattle.edf_report.specs.NotesTexts.{body_text, note_line, note_lines}
use Rattle.edf_report.specs.Reports.{IsReported}
use Rattle.edf_report.specs.declared.notes.Lines.{Lines}

-- it got these annotations; where there was memory for all, it has their lines behind those before
abbrev pub GotLines : Lines → List NoteValue → Lines → Type 0
GotLines before notes after = IsTrue after.whole → IsTrue before.whole × (after.text.items ≡ before.text.items ++ note_lines notes)

pub lines_none : (lines : Lines) → GotLines lines [] lines
lines_none lines = λ whole. (whole, sym (append-nil lines.text.items))

pub lines_both : (a b c : Lines) (xs ys : List NoteValue) → GotLines a xs b → GotLines b ys c → GotLines a (xs ++ ys) c
lines_both a b c xs ys first second = λ whole.
    let then = second whole in
    let had = first then.0 in (
      had.0,
      then.1 ∙ ap (λ front. front ++ note_lines ys) had.1 ∙ append_assoc a.text.items (note_lines xs) (note_lines ys)
          ∙ ap (λ more. a.text.items ++ more) (sym (flat_map-append note_line xs ys)),
    )

-- where there was memory for all, these are the lines of the annotations
abbrev pub AreLinesOf : Lines → List NoteValue → Type 0
AreLinesOf lines notes = IsTrue lines.whole → lines.text.items ≡ note_lines notes

-- ---- the same of a source and a sink, before and behind

-- an honest sink holds the lines of these annotations behind what it held
abbrev pub LinesArePut : {K : Type 0} → SinkGhosts K → Lines → K → K → Type 0
LinesArePut sink lines k k' = IsTrue (sink.is_honest k) → (notes : List NoteValue) → AreLinesOf lines notes → sink.held k' ≡ sink.held k ++ note_lines notes

-- or a beginning of them
abbrev pub PartOfLinesIsPut : {K : Type 0} → SinkGhosts K → Lines → K → K → Type 0
PartOfLinesIsPut sink lines k k' =
    IsTrue (sink.is_honest k) → (notes : List NoteValue) → AreLinesOf lines notes → HoldsPrefix (sink.held k) (sink.held k') (note_lines notes)

-- of each file in which the reader stands whose header was read, an honest sink holds the annotations, and behind them the line of its fault
abbrev pub RecordsArePut : {S K : Type 0} → Ghosts S → Reader → S → SinkGhosts K → K → K → Outcome → Type 0
RecordsArePut source r s sink k k' outcome =
    IsTrue (source.is_honest s) → IsTrue (sink.is_honest k) → (file : List ℕ) → StandsIn r (source.left s) file
    → IsReported (body_text file r.head) (body_fault file r.head) (sink.held k) (sink.held k') outcome

-- or a beginning of that
abbrev pub PartOfRecordsIsPut : {S K : Type 0} → Ghosts S → Reader → S → SinkGhosts K → K → K → Type 0
PartOfRecordsIsPut source r s sink k k' =
    IsTrue (source.is_honest s) → IsTrue (sink.is_honest k) → (file : List ℕ) → StandsIn r (source.left s) file
    → HoldsPrefix (sink.held k) (sink.held k') (body_text file r.head)
