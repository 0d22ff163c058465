-- What is written of two files: the draft of a claim, or the fault of one of them; and why nothing is.
use Rattle.std.specs.Prelude.{◌≡◌, ℕ, ℤ, Bool, IsTrue, List, [], ◌∷◌, ◌++◌, ◌⊎◌, None, Some, codes}
use Rattle.edf_claim.specs.Claims.{SaysClaimText}
use Rattle.edf_claim.specs.ClaimValues.{ClaimValue}
use Rattle.edf_fields.specs.FaultTexts.{fault_text}
use Rattle.edf_fields.specs.declared.faults.fault.Fault.{Fault}
use Rattle.edf_fields.specs.declared.in_out.source.Source.{Ghosts}
use Rattle.edf_fields.specs.in_out.Sources.{Fails}
use Rattle.edf_stop.specs.declared.sides.Side.{Side}
use Rattle.edf_stop.specs.declared.sides.Side.TheVariants.{Original, Export}
use Rattle.edf_stop.specs.declared.stops.CheckStop.{CheckStop}
use Rattle.edf_stop.specs.declared.stops.CheckStop.TheVariants.{OutOfMemory, ReadFailed}
use Rattle.edf_stop.specs.declared.stops.RunStop.{RunStop}
use Rattle.edf_stop.specs.declared.stops.RunStop.TheVariants as runs
use Rattle.edf_stream.specs.Conforming.{Conforms}
use Rattle.edf_stream.specs.Faults.{file_fault}
use Rattle.edf_verdict.specs.declared.outcome.Outcome.{Outcome}
use Rattle.edf_verdict.specs.declared.outcome.Outcome.TheVariants.{Yes, No}
use Rattle.edf_draft.specs.Days.{IsShift}
use Rattle.edf_draft.specs.Drafts.{IsDraftFor, IsDraftText, IsMoved}
use Rattle.edf_draft.specs.FirstLines.{Anew}
use Rattle.edf_recording.specs.Times.{begin_of, end_of}
use Rattle.edf_draft.specs.Exported.{heads_of}
use Rattle.edf_draft.specs.declared.exported.Exported.{Exported}
use Rattle.edf_recording.specs.declared.recorded.Recorded.{Recorded}

-- a comment says which file it is, and then comes the line of its fault
abbrev pub fault_text_of : Side → Fault → List ℕ
fault_text_of Original fault = codes "# the original\nFAULT " ++ (fault_text fault ++ (10 ∷ []))
fault_text_of Export fault = codes "# the export\nFAULT " ++ (fault_text fault ++ (10 ∷ []))

-- the shift is the one that the times of the files tell that were read
abbrev pub IsShiftBetween : Recorded → Exported → ℤ → Type 0
IsShiftBetween o e shift =
    (told : Bool) × IsShift (o.times).begin_ps (o.times).end_ps ((e.together).times).begin_ps ((e.together).times).end_ps told shift

-- a text says just what is drafted of the files that were read
pub record IsTextOf (again : Anew) (o : Recorded) (e : Exported) (text : List ℕ) : Type 0 where
  pub claim : ClaimValue
  pub says : SaysClaimText text claim
  pub drafts : IsDraftFor (o.reader).head (heads_of e) claim.shift claim
  pub moved : IsMoved again (o.reader).head (heads_of e) (IsShiftBetween o e) text claim.shift

-- the first fault of the file of this side, and where it is the export's, the original has none
abbrev pub IsFaultAt : Side → Fault → List ℕ → List ℕ → Type 0
IsFaultAt Original fault original export = file_fault original ≡ Some fault
IsFaultAt Export fault original export = (file_fault original ≡ None) × (file_fault export ≡ Some fault)

-- a file that conforms was read to its end, and this is when it begins and ends
pub record IsReadOf (file : List ℕ) (recorded : Recorded) : Type 0 where
  pub conforms : Conforms file (recorded.reader).head
  pub begins : (recorded.times).begin_ps ≡ begin_of file (recorded.reader).head
  pub ends : (recorded.times).end_ps ≡ end_of file (recorded.reader).head

-- the same of a single export
pub record IsOneReadOf (file : List ℕ) (exported : Exported) : Type 0 where
  pub alone : heads_of exported ≡ ((exported.together).reader).head ∷ []
  pub read : IsReadOf file exported.together

-- a comment says that no claim says what the export is
abbrev pub none_text : List ℕ
none_text = codes "# no draft: the export needs more than a claim can say (1,000 intervals, 65,536 bytes, 9 digits of seconds, a shift of 10,000,000,000 s)\n"

-- what is written of two files, with the outcome: the draft of a claim and Yes; the fault of the original, or else of the export, and No; or,
-- of two files that conform, No and that comment, where no claim says it
abbrev pub IsAnswer : Anew → List ℕ → List ℕ → List ℕ → Outcome → Type 0
IsAnswer again original export text Yes = IsDraftText again original export text
IsAnswer again original export text No =
    ((fault : Fault) × (file_fault original ≡ Some fault) × (text ≡ fault_text_of Original fault))
    ⊎ ((fault : Fault) × (file_fault original ≡ None) × (file_fault export ≡ Some fault) × (text ≡ fault_text_of Export fault))
    ⊎ ((file_fault original ≡ None) × (file_fault export ≡ None) × (text ≡ none_text))

-- only the file of this side was read
abbrev pub SideStops : Side → Type 0 → Type 0 → CheckStop → Type 0
SideStops side failed none OutOfMemory = none
SideStops side failed none (ReadFailed other) = (other ≡ side) × failed

-- of a failed read of the original the first is said, of one of the export the second, and of want of memory that no read failed
abbrev pub BothStop : Type 0 → Type 0 → Type 0 → CheckStop → Type 0
BothStop original export none OutOfMemory = none
BothStop original export none (ReadFailed Original) = original
BothStop original export none (ReadFailed Export) = export

-- the same of a run that writes, where of a failed write the third is said
abbrev pub DraftStops : Type 0 → Type 0 → Type 0 → Type 0 → RunStop → Type 0
DraftStops original export written none runs.OutOfMemory = none
DraftStops original export written none (runs.ReadFailed Original) = original
DraftStops original export written none (runs.ReadFailed Export) = export
DraftStops original export written none (runs.Claim cause) = ⊥
DraftStops original export written none runs.WriteFailed = written

-- ---- the same of sources, before and behind

-- what is written of what two honest sources have left
abbrev pub IsAnswerBy : {O E : Type 0} → Anew → Ghosts O → O → Ghosts E → E → List ℕ → Outcome → Type 0
IsAnswerBy again original o export e text outcome = IsTrue (original.is_honest o) → IsTrue (export.is_honest e) → IsAnswer again (original.left o) (export.left e) text outcome

-- why a side isn't read to its end
abbrev pub StopsSide : {S : Type 0} → Ghosts S → Side → S → S → CheckStop → Type 0
StopsSide source side s s' stop = SideStops side (Fails (source.reads s) (source.reads s')) (source.reads s' ≡ source.reads s) stop

-- why neither is
abbrev pub StopsBoth : {O E : Type 0} → Ghosts O → O → O → Ghosts E → E → E → CheckStop → Type 0
StopsBoth original o o' export e e' stop =
    BothStop (Fails (original.reads o) (original.reads o')) (Fails (export.reads e) (export.reads e')) ((original.reads o' ≡ original.reads o) × (export.reads e' ≡ export.reads e)) stop
