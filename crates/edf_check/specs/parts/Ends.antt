-- How a part is read to its end beside an original, compared or passed over, and what follows behind it. By `ps` a file is moved, as in the
-- walk. These are steps between the definitions and the code.
use Rattle.std.specs.Prelude.{◌≡◌, ℕ, ℤ, ◌≤ℤ◌, ◌<ℤ◌, Bool, true, false, not, ◌&&◌, IsTrue, is_some, List, map, None, Some, MatchOption}
use Rattle.edf_check.specs.Words.{ClaimValue, Ghosts, Head, head_of, HeadsAgree, IsHeadVerdict, NoteValue, Reader, note_value, Course, Reading, Time, Turn, FaultOf}
use Rattle.edf_check.specs.declared.parts.part.PartRead.{PartRead}
use Rattle.edf_check.specs.parts.PartsVerdicts.{samples_in}
use Rattle.edf_pace.specs.Premises.{Known, OfFile, OfFiles}
use Rattle.edf_pace.specs.walk.Readings.{IsAt, IsThere, gathered_so_far, going, standing}
use Rattle.edf_pace.specs.walk.Shown.{IsAhead, IsGoing, begin_by, last_end_by}
use Rattle.edf_pace.specs.walk.Ends.{Both, FaultyBy, IsFaultBy, IsMatched, IsReadThrough, at_turn, moved_export, moved_original}

-- a part was read to its end, which is there
pub record IsEnded (turn : Turn) (e : List ℕ) (g : Head) (left : List ℕ) (end : Time) : Type 0 where
  pub through : IsReadThrough e g left
  pub end_is : end.ps ≡ last_end_by e g (moved_export turn)

-- the same, and it begins early or not
pub record IsPassed (turn : Turn) (e : List ℕ) (g : Head) (left : List ℕ) (course : Course) : Type 0 where
  pub ended : IsEnded turn e g left course.end
  pub early : course.is_early ≡ true → begin_by e g (moved_export turn) 0 <ℤ (turn.from).ps
  pub later : course.is_early ≡ false → (turn.from).ps ≤ℤ begin_by e g (moved_export turn) 0

-- a part was read to its end beside an original, whose header is h
pub record IsPartRead (turn : Turn) (o : List ℕ) (h : Head) (left : List ℕ) (notes : List NoteValue) (e : List ℕ) (left' : List ℕ) (part : PartRead) : Type 0 where
  pub heads_are : MatchOption part.heads (HeadsAgree h (head_of e) ((turn.setting).claim).now) (IsHeadVerdict h (head_of e) ((turn.setting).claim).now)
  pub passed : IsPassed turn e (head_of e) left' part.course
  pub matched : turn.is_compared ≡ true → part.heads ≡ None → (part.course).is_early ≡ false
      → IsMatched turn o h notes e (head_of e) (map note_value (part.notes).items) (part.course).found
  pub through : turn.is_last ≡ true → IsReadThrough o h left
  pub samples_are : part.samples ≡ samples_in (head_of e)

-- a reader goes through the original, and where parts are compared it has come to t
pub record IsBeside (compared : Bool) (r : Reader) (left : List ℕ) (notes : List NoteValue) (file : List ℕ) (claim : ClaimValue) (ps t : ℤ) : Type 0 where
  pub there : IsThere r left file
  pub at : compared ≡ true → IsAt r left notes file (Some claim) ps t

abbrev pub beside : {S : Type 0} → Ghosts S → Reading → S → Turn → Known
beside source r s turn = record {
  honest = source.is_honest s;
  head = (r.reader).head;
  goes = λ file. IsBeside turn.is_compared r.reader (source.left s) (map note_value (r.notes).items) file ((turn.setting).claim).now (moved_original turn) (turn.from).ps;
}

-- the part's header was read
abbrev pub at_part : {O E : Type 0} → Ghosts O → Ghosts E → Reading → O → Reading → E → Turn → Both
at_part o e r s r' s' turn = record { original = beside o r s turn; export = standing e r'.reader s' }

-- the original is read on beside it
abbrev pub over : {O E : Type 0} → Ghosts O → Ghosts E → Reader → O → Reader → E → Both
over o e r s r' s' = record { original = going o r s; export = standing e r' s' }

abbrev pub ThroughBy : Both → List ℕ → Type 0
ThroughBy both left = OfFiles both.original both.export (λ o e. IsReadThrough o (both.original).head left)

abbrev pub EndedBy : Both → Turn → List ℕ → Course → Type 0
EndedBy both turn left course = OfFiles both.original both.export (λ o e. IsEnded turn e (both.export).head left course.end)

abbrev pub PassedBy : Both → Turn → List ℕ → Course → Type 0
PassedBy both turn left course = OfFiles both.original both.export (λ o e. IsPassed turn e (both.export).head left course)

abbrev pub MatchedBy : Both → Turn → Reading → Reading → Course → Type 0
MatchedBy both turn r' s' course = turn.is_compared ≡ true → course.is_early ≡ false → OfFiles both.original both.export
    (λ o e. IsMatched turn o (both.original).head (gathered_so_far r') e (both.export).head (gathered_so_far s') course.found)

-- ---- the same of readers and their sources, before and behind: where both were read to the begin of the turn

-- the original was read to its end, where no part follows
abbrev pub TurnThrough : {O E : Type 0} → Ghosts O → Ghosts E → Reading → O → O → Reading → E → Turn → Course → Type 0
TurnThrough o e r s s_behind r' s' turn course = turn.is_last ≡ true → ThroughBy (at_turn o e r s r' s' turn) (o.left s_behind)

-- the part was read to its end
abbrev pub TurnEnded : {O E : Type 0} → Ghosts O → Ghosts E → Reading → O → Reading → E → E → Turn → Course → Type 0
TurnEnded o e r s r' s' s'_behind turn = EndedBy (at_turn o e r s r' s' turn) turn (e.left s'_behind)

-- it was compared
abbrev pub TurnMatched : {O E : Type 0} → Ghosts O → Ghosts E → Reading → O → Reading → Reading → E → Reading → Turn → Course → Type 0
TurnMatched o e r s r_behind r' s' r'_behind turn = MatchedBy (at_turn o e r s r' s' turn) turn r_behind r'_behind

-- ---- the same where of the part the header was read

-- the original was read to its end, where no part follows
abbrev pub PartThrough : {O E : Type 0} → Ghosts O → Ghosts E → Reading → O → O → Reading → E → Turn → Course → Type 0
PartThrough o e r s s_behind r' s' turn course = turn.is_last ≡ true → ThroughBy (at_part o e r s r' s' turn) (o.left s_behind)

-- the part was read to its end, and begins early or not
abbrev pub PartPassed : {O E : Type 0} → Ghosts O → Ghosts E → Reading → O → Reading → E → E → Turn → Course → Type 0
PartPassed o e r s r' s' s'_behind turn = PassedBy (at_part o e r s r' s' turn) turn (e.left s'_behind)

-- it was compared
abbrev pub PartMatched : {O E : Type 0} → Ghosts O → Ghosts E → Reading → O → Reading → Reading → E → Reading → Turn → Course → Type 0
PartMatched o e r s r_behind r' s' r'_behind turn = MatchedBy (at_part o e r s r' s' turn) turn r_behind r'_behind

-- or this is the first fault
abbrev pub PartFaulty : {O E : Type 0} → Ghosts O → Ghosts E → Reading → O → O → Reading → E → Turn → FaultOf → Type 0
PartFaulty o e r s s_behind r' s' turn = FaultyBy (at_part o e r s r' s' turn) (o.left s_behind) turn.part

-- ---- the same where the original is read on beside it, and nothing is compared

-- the original was read to its end
abbrev pub ThroughOver : {O E : Type 0} → Ghosts O → Ghosts E → Reader → O → O → Reader → E → Course → Type 0
ThroughOver o e r s s_behind r' s' course = ThroughBy (over o e r s r' s') (o.left s_behind)

-- the part was read to its end, and begins early or not
abbrev pub PassedOver : {O E : Type 0} → Ghosts O → Ghosts E → Reader → O → Reader → E → E → Turn → Course → Type 0
PassedOver o e r s r' s' s'_behind turn = PassedBy (over o e r s r' s') turn (e.left s'_behind)

-- or this is the first fault
abbrev pub FaultyOver : {O E : Type 0} → Ghosts O → Ghosts E → Reader → O → O → Reader → E → ℕ → FaultOf → Type 0
FaultyOver o e r s s_behind r' s' part = FaultyBy (over o e r s r' s') (o.left s_behind) part

-- ---- of a part whose header is read with it

abbrev pub PartReadBy : {O E : Type 0} → Ghosts O → Ghosts E → Turn → Reading → O → Reading → O → E → E → PartRead → Type 0
PartReadBy original export turn r s r' s' e e' part = OfFile (beside original r s turn) (λ o. IsTrue (export.is_honest e)
    → IsPartRead turn o (r.reader).head (original.left s') (gathered_so_far r') (export.left e) (export.left e') part)

abbrev pub PartFaultBy : {O E : Type 0} → Ghosts O → Ghosts E → Turn → Reading → O → O → E → FaultOf → Type 0
PartFaultBy original export turn r s s' e fault = OfFile (beside original r s turn) (λ o. IsTrue (export.is_honest e)
    → IsFaultBy o (r.reader).head (original.left s') (export.left e) turn.part fault)

-- a part is read beside a reader of the original that stands at its turn, where it is compared
abbrev pub IsReady : Turn → Reader → Type 0
IsReady turn r = IsGoing r.status × (turn.is_compared ≡ true → IsAhead r (moved_original turn) (turn.from).ps)

-- a part is the same as the original, as far as its header and its samples show it
abbrev pub is_same : PartRead → Bool
is_same part = not (is_some part.heads) && (not (part.course).is_early && not (is_some (part.course).found))

-- whatever file it went through before the part, it still does behind it, at the part's end where the next one is compared
pub record Passes (turn : Turn) (old new : Reader) (honest honest' : Bool) (left left' : List ℕ) (notes notes' : List NoteValue) (compared : Bool) (end : Time) : Type 0 where
  pub head : new.head ≡ old.head
  pub going : IsGoing new.status
  pub ahead : compared ≡ true → IsAhead new (moved_original turn) end.ps
  pub honesty : IsTrue honest → IsTrue honest'
  pub comes : IsTrue honest → (file : List ℕ) → IsBeside turn.is_compared old left notes file ((turn.setting).claim).now (moved_original turn) (turn.from).ps
      → IsBeside compared new left' notes' file ((turn.setting).claim).now (moved_original turn) end.ps

abbrev pub HasPassed : {S : Type 0} → Ghosts S → Reading → S → Reading → S → Turn → Bool → Time → Type 0
HasPassed source r s r' s' turn compared end =
    Passes turn r.reader r'.reader (source.is_honest s) (source.is_honest s') (source.left s) (source.left s') (map note_value (r.notes).items) (map note_value (r'.notes).items) compared end

-- behind what was read of a part that isn't the last
abbrev pub PassesBehind : {S : Type 0} → Ghosts S → Reading → S → Reading → S → Turn → Course → Type 0
PassesBehind source r s r' s' turn course = turn.is_last ≡ false → HasPassed source r s r' s' turn course.is_beside course.end

abbrev pub PassesPart : {S : Type 0} → Ghosts S → Reading → S → Reading → S → Turn → PartRead → Type 0
PassesPart source r s r' s' turn part = PassesBehind source r s r' s' turn part.course

-- the next part is compared where a part was and doesn't differ
abbrev pub Stays : Turn → Course → Type 0
Stays turn course = turn.is_last ≡ false → turn.is_compared ≡ true → course.is_early ≡ false → course.found ≡ None → course.is_beside ≡ true

abbrev pub PartStays : Turn → PartRead → Type 0
PartStays turn part = turn.is_last ≡ false → turn.is_compared ≡ true → is_same part ≡ true → (part.course).is_beside ≡ true
