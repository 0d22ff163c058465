-- What is written of two files.
use Rattle.std.proofs.Common.{◌≡◌, inl, inr, ℕ, ℤ, List, Bool, None, subst}
use Rattle.edf_fields.specs.declared.faults.fault.Fault.{Fault}
use Rattle.edf_stop.specs.declared.sides.Side.{Side}
use Rattle.edf_stop.specs.declared.sides.Side.TheVariants.{Original, Export}
use Rattle.edf_stop.specs.declared.stops.CheckStop.{CheckStop}
use Rattle.edf_stop.specs.declared.stops.CheckStop.TheVariants.{OutOfMemory, ReadFailed}
use Rattle.edf_stop.specs.declared.stops.RunStop.TheVariants.{WriteFailed}
use Rattle.edf_stop.specs.Stops.{stop_of_check}
use Rattle.edf_stream.specs.Faults.{file_fault}
use Rattle.edf_stream.proofs.ForCallers.{conforming_is_faultless}
use Rattle.edf_verdict.specs.declared.outcome.Outcome.TheVariants.{No}
use Rattle.edf_draft.specs.Answers.{IsAnswer, IsFaultAt, IsOneReadOf, IsReadOf, IsShiftBetween, IsTextOf, fault_text_of, none_text}
use Rattle.edf_draft.specs.Days.{IsShift}
use Rattle.edf_draft.specs.Drafts.{IsDraftFor, IsDraftText, IsMoved, IsShiftOf}
use Rattle.edf_draft.specs.Exported.{heads_of}
use Rattle.edf_draft.specs.FirstLines.{Anew}
use Rattle.edf_recording.specs.Times.{begin_of, end_of}
use Rattle.edf_draft.specs.declared.exported.Exported.{Exported}
use Rattle.edf_recording.specs.declared.recorded.Recorded.{Recorded}
use Rattle.edf_draft.proofs.ChoiceFacts.{moved_weaker}

-- a file that was read to its end has no fault
pub faultless : (file : List ℕ) (recorded : Recorded) → IsReadOf file recorded → file_fault file ≡ None
faultless file recorded read = (conforming_is_faultless file).1 ((recorded.reader).head, read.conforms)

pub fault_answers : (again : Anew) (original export text : List ℕ) (side : Side) (fault : Fault) → text ≡ fault_text_of side fault
    → IsFaultAt side fault original export → IsAnswer again original export text No
fault_answers again original export text Original fault is at = inl (fault, at, is)
fault_answers again original export text Export fault is at = inr (inl (fault, at.0, at.1, is))

pub none_answers : (again : Anew) (original export text : List ℕ) (o : Recorded) (e : Exported) → text ≡ none_text → IsReadOf original o → IsOneReadOf export e
    → IsAnswer again original export text No
none_answers again original export text o e is first second = inr (inr (faultless original o first, faultless export e.together second.read, is))

moved_there : (a b c d p q r s : ℤ) (told : Bool) (shift : ℤ) → a ≡ p → b ≡ q → c ≡ r → d ≡ s → IsShift a b c d told shift → IsShift p q r s told shift
moved_there a b c d p q r s told shift first second third fourth moved =
    subst (λ x. IsShift x q r s told shift) first (subst (λ x. IsShift a x r s told shift) second
    (subst (λ x. IsShift a b x s told shift) third (subst (λ x. IsShift a b c x told shift) fourth moved)))

shift_there : (original export : List ℕ) (o : Recorded) (e : Exported) → IsReadOf original o → IsReadOf export e.together → (shift : ℤ) → IsShiftBetween o e shift
    → IsShiftOf original (o.reader).head export ((e.together).reader).head shift
shift_there original export o e first second shift is = (
  is.0,
  moved_there (o.times).begin_ps (o.times).end_ps ((e.together).times).begin_ps ((e.together).times).end_ps
      (begin_of original (o.reader).head) (end_of original (o.reader).head) (begin_of export ((e.together).reader).head) (end_of export ((e.together).reader).head)
      is.0 shift first.begins first.ends second.begins second.ends is.1,
)

pub draft_answers : (again : Anew) (original export text : List ℕ) (o : Recorded) (e : Exported) → IsReadOf original o → IsOneReadOf export e → IsTextOf again o e text
    → IsDraftText again original export text
draft_answers again original export text o e first second is = record {
  o = (o.reader).head;
  e = ((e.together).reader).head;
  claim = is.claim;
  original_conforms = first.conforms;
  export_conforms = (second.read).conforms;
  says = is.says;
  drafts = subst (λ h. IsDraftFor (o.reader).head h (is.claim).shift is.claim) second.alone is.drafts;
  moved = subst (λ h. IsMoved again (o.reader).head h (IsShiftOf original (o.reader).head export ((e.together).reader).head) text (is.claim).shift) second.alone
      (moved_weaker again (o.reader).head (heads_of e) (IsShiftBetween o e) (IsShiftOf original (o.reader).head export ((e.together).reader).head)
      text (is.claim).shift (shift_there original export o e first second.read) is.moved);
}

-- a stop of the reading is no failed write
pub none_written : (A : Type 0) (stop : CheckStop) → stop_of_check stop ≡ WriteFailed → A
none_written A OutOfMemory same = absurd cc
none_written A (ReadFailed side) same = absurd cc
