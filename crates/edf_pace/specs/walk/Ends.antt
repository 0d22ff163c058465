-- How a walk over the data records of an original and a part ends. By `ps` a file is moved: its times, in picoseconds after 1970-01-01
-- 00:00:00, then count from the second at which the original starts, before the shift. These are steps between the definitions and the code.
use Rattle.std.specs.Prelude.{◌≡◌, ℕ, ℤ, ◌<◌, ◌≤ℤ◌, Bool, true, false, List, [], Option, None, Some}
use Rattle.edf_pace.specs.Words.{Fault, Ghosts, Head, Conforms, body_fault, file_fault, NoteValue, notes_of, Reader, is_current, end_before, Found, Frame, Reading, Time, Window, Turn, FaultOf}
use Rattle.edf_pace.specs.declared.walk.watchers.found_in.ChannelCount.{ChannelCount}
use Rattle.edf_pace.specs.declared.walk.lockstep.ReadOn.{ReadOn}
use Rattle.edf_pace.specs.declared.walk.lockstep.Step.{Step}
use Rattle.edf_pace.specs.declared.walk.fault_of.FaultOf.TheVariants.{Original as OfOriginal, Part as OfPart}
use Rattle.edf_samples.specs.InstantOrder.{IsModest}
use Rattle.edf_pace.specs.Premises.{Known, OfFile, OfFiles}
use Rattle.edf_pace.specs.walk.Counting.{span_counts}
use Rattle.edf_pace.specs.walk.Gathered.{gathered_of}
use Rattle.edf_pace.specs.walk.Pairs.{places_in}
use Rattle.edf_pace.specs.walk.Readings.{ExportIn, ExportMoves, OriginalIn, OriginalMoves, export_at, going, original_at}
use Rattle.edf_pace.specs.walk.Shown.{last_end_by}
use Rattle.edf_pace.specs.walk.Watching.{TwoFiles, two_files}
pub use Rattle.edf_pace.specs.walk.Watching.{moved_export, moved_original}
use Rattle.edf_pace.specs.walk.Windows.{sampled, span_difference}

-- what a fault of the part of this number comes to, behind that of the original
abbrev pub first_fault_of : Option Fault → ℕ → Fault → FaultOf
first_fault_of None part fault = OfPart part fault
first_fault_of (Some first) part fault = OfOriginal first

-- the first fault of the data records of the original, or else of the part of this number; then nothing is left of the original
abbrev pub IsFaultOf : List ℕ → Head → List ℕ → List ℕ → Head → ℕ → FaultOf → Type 0
IsFaultOf o h left e g part (OfOriginal fault) = body_fault o h ≡ Some fault
IsFaultOf o h left e g part (OfPart other fault) = (other ≡ part) × (body_fault o h ≡ None) × (body_fault e g ≡ Some fault) × (left ≡ [])

-- the same where the part's header may have the fault
abbrev pub IsFaultBy : List ℕ → Head → List ℕ → List ℕ → ℕ → FaultOf → Type 0
IsFaultBy o h left e part (OfOriginal fault) = body_fault o h ≡ Some fault
IsFaultBy o h left e part (OfPart other fault) = (other ≡ part) × (body_fault o h ≡ None) × (file_fault e ≡ Some fault) × (left ≡ [])

abbrev pub AreFaulty : Known → Known → List ℕ → ℕ → FaultOf → Type 0
AreFaulty original export left part fault = OfFiles original export (λ o e. IsFaultOf o original.head left e export.head part fault)

-- the data records of a file were read to the end, and the file conforms
pub record IsReadThrough (file : List ℕ) (h : Head) (left : List ℕ) : Type 0 where
  pub fault : body_fault file h ≡ None
  pub conforms : Conforms file h
  pub gone : left ≡ []

-- a file was read to its end, where its last data record ends, or has this fault
abbrev pub IsFinished : List ℕ → Head → List ℕ → ℤ → Option Fault → Type 0
IsFinished file h left ended None = IsReadThrough file h left × (ended ≡ end_before file h h.records)
IsFinished file h left ended (Some fault) = body_fault file h ≡ Some fault

abbrev pub HasFinished : Known → List ℕ → ℤ → Option Fault → Type 0
HasFinished known left ended found = OfFile known (λ file. IsFinished file known.head left ended found)

-- both were read to their ends, and the part ends there
abbrev pub AreThrough : Known → Known → List ℕ → List ℕ → Turn → Time → Type 0
AreThrough original export left left' turn end = OfFiles original export
    (λ o e. IsReadThrough o original.head left × IsReadThrough e export.head left' × (end.ps ≡ last_end_by e export.head ((turn.setting).clock.export).ps))

-- the difference is near, and one of so many channels has it
abbrev pub IsFoundAmong : ℕ → Found → Type 0
IsFoundAmong channels found = IsModest found.difference.at × (found.channel < channels)

-- what the part's fault comes to that is found, behind that of the original
abbrev pub IsFirstFaultOf : Known → List ℕ → ℕ → Fault → FaultOf → Type 0
IsFirstFaultOf original left part fault found =
    OfFile original (λ o. (found ≡ first_fault_of (body_fault o original.head) part fault) × (body_fault o original.head ≡ None → left ≡ []))

-- nothing is left of the part, nor, where none follows, of the original
abbrev pub IsOver : Bool → Reader → Reader → Type 0
IsOver is_last original export = (is_current export.status ≡ false) × (is_last ≡ true → is_current original.status ≡ false)

-- two files were read from the turn's time on, and who held what there is before that time then holds what there is before the time that
-- was seen. Where others follow, that is no later than the part's end, and where it hasn't seen enough, the part's end was reached
pub record IsWalked (turn : Turn) (files : TwoFiles) (Held Holds : TwoFiles → ℤ → ℤ → Type 0) (enough : Bool) (walked : ReadOn) : Type 0 where
  pub holds : Conforms files.original files.head → Conforms files.export files.export_head
      → Held files (turn.from).ps (turn.from).ps → Holds files (turn.from).ps (walked.seen).ps
  pub within : turn.is_last ≡ false → Conforms files.export files.export_head
      → (walked.seen).ps ≤ℤ last_end_by files.export files.export_head (moved_export turn)
  pub ends : enough ≡ false → turn.is_last ≡ false → (walked.reached).ps ≡ last_end_by files.export files.export_head (moved_export turn)

-- an original and a part
pub record Both : Type 1 where
  pub original : Known
  pub export : Known

-- both were read to the begin of the turn
abbrev pub at_turn : {O E : Type 0} → Ghosts O → Ghosts E → Reading → O → Reading → E → Turn → Both
at_turn o e r s r' s' turn = record { original = original_at o r s turn.setting turn.from; export = export_at e r' s' turn.setting turn.from }

-- both were read to the begin of a window
abbrev pub at_window : {O E : Type 0} → Ghosts O → Ghosts E → Reading → O → Reading → E → Turn → Window → Both
at_window o e r s r' s' turn w = record { original = original_at o r s turn.setting w.from; export = going e r'.reader s' }

abbrev pub FaultyBy : Both → List ℕ → ℕ → FaultOf → Type 0
FaultyBy both left part fault = AreFaulty both.original both.export left part fault

-- ---- the same of readers and their sources, before and behind

-- both were read to their ends, and the part ends there
abbrev pub BothThrough : {O E : Type 0} → Ghosts O → Ghosts E → Reader → O → O → Reader → E → E → Turn → Time → Type 0
BothThrough o e r s s_behind r' s' s'_behind turn = AreThrough (going o r s) (going e r' s') (o.left s_behind) (e.left s'_behind) turn

-- or this is their first fault
abbrev pub BothFaulty : {O E : Type 0} → Ghosts O → Ghosts E → Reader → O → O → Reader → E → ℕ → FaultOf → Type 0
BothFaulty o e r s s_behind r' s' part = AreFaulty (going o r s) (going e r' s') (o.left s_behind) part

-- a reader is moved through a step
abbrev pub OriginalSteps : {S : Type 0} → Ghosts S → Reading → S → Reading → S → Step → Type 0
OriginalSteps source r s r' s' step = OriginalIn source r s r' s' step.turn step.within

abbrev pub ExportSteps : {S : Type 0} → Ghosts S → Reading → S → Reading → S → Step → Type 0
ExportSteps source r s r' s' step = ExportIn source r s r' s' step.turn step.within

-- or this is the first fault
abbrev pub FaultyIn : {O E : Type 0} → Ghosts O → Ghosts E → Reading → O → O → Reading → E → Step → FaultOf → Type 0
FaultyIn o e r s s_behind r' s' step = FaultyBy (at_window o e r s r' s' step.turn step.within) (o.left s_behind) (step.turn).part

-- a reader is moved from the begin of a turn to the time that was reached
abbrev pub OriginalReadOn : {S : Type 0} → Ghosts S → Reading → S → Reading → S → Turn → ReadOn → Type 0
OriginalReadOn source r s r' s' turn walked = OriginalMoves source r s r' s' turn walked.reached

abbrev pub ExportReadOn : {S : Type 0} → Ghosts S → Reading → S → Reading → S → Turn → ReadOn → Type 0
ExportReadOn source r s r' s' turn walked = ExportMoves source r s r' s' turn walked.reached

-- or this is the first fault
abbrev pub FaultyOn : {O E : Type 0} → Ghosts O → Ghosts E → Reading → O → O → Reading → E → Turn → FaultOf → Type 0
FaultyOn o e r s s_behind r' s' turn = FaultyBy (at_turn o e r s r' s' turn) (o.left s_behind) turn.part

-- where not enough was seen, all was seen to the time that was reached, and nothing is left of the part, nor, where none follows, of the
-- original
abbrev pub HasSeenAll : Bool → Frame → Reading → Reading → ReadOn → Type 0
HasSeenAll enough frame original export walked = enough ≡ false
    → ((walked.seen).ps ≡ (walked.reached).ps) × IsOver (frame.turn).is_last original.reader export.reader

abbrev pub WalkedBy : Both → Turn → (TwoFiles → ℤ → ℤ → Type 0) → (TwoFiles → ℤ → ℤ → Type 0) → Bool → ReadOn → Type 0
WalkedBy both turn Held Holds enough walked = OfFiles both.original both.export
    (λ o e. IsWalked turn (two_files o (both.original).head e (both.export).head) Held Holds enough walked)

-- the part's annotations were gathered, and behind the last part those that are kept of the original
pub record AreGathered (turn : Turn) (o : List ℕ) (h : Head) (notes : List NoteValue) (e : List ℕ) (g : Head) (notes' : List NoteValue) : Type 0 where
  pub exported : notes' ≡ gathered_of None (moved_export turn) (notes_of e g)
  pub kept : turn.is_last ≡ true → notes ≡ gathered_of (Some ((turn.setting).claim).now) (moved_original turn) (notes_of o h)

-- it was compared; where it doesn't differ, annotations were gathered
pub record IsMatched (turn : Turn) (o : List ℕ) (h : Head) (notes : List NoteValue) (e : List ℕ) (g : Head) (notes' : List NoteValue) (found : Option Found) : Type 0 where
  pub first : Conforms o h
      → found ≡ span_difference turn.is_last ((turn.setting).claim).now (sampled o h (moved_original turn)) (sampled e g (moved_export turn))
      (places_in h g ((turn.setting).labels).now) (turn.from).ps (last_end_by e g (moved_export turn))
  pub gathered : found ≡ None → AreGathered turn o h notes e g notes'

-- its samples were counted by channel
abbrev pub IsCounted : Turn → List ℕ → Head → List ℕ → Head → List ChannelCount → Type 0
IsCounted turn o h e g counts = Conforms o h
    → counts ≡ span_counts turn.is_last ((turn.setting).claim).now (two_files o h e g) (moved_original turn) (moved_export turn)
    (places_in h g ((turn.setting).labels).now) (turn.from).ps (last_end_by e g (moved_export turn))
