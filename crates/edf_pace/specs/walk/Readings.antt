-- A reader that goes through a file, as far as the walk has come. Times are picoseconds after the second at which the original
-- starts, before the shift. These are steps between the definitions and the code.
use Rattle.std.specs.Prelude.{◌≡◌, ◌^◌, neg_ℤ, pos, ℕ, ℤ, IsTrue, Bool, true, List, [], ◌++◌, map, Option, None, Some, ◌+ℤ◌}
use Rattle.edf_pace.specs.Words.{ClaimValue, Reads, Ghosts, Conforms, body_fault, NoteValue, moved_notes_before, Comes, Reader, IsOpen, StandsIn, is_current, end_before, note_value, View, Reading, Time, Window, Setting, Turn, Head, file_start, Clock}
use Rattle.edf_stream.specs.annotation.NotesReading.{notes_in}
use Rattle.edf_stream.specs.declared.records.status.Status.TheVariants.{Ended}
use Rattle.edf_heads.specs.Comparisons.{AreSorted}
use Rattle.edf_pace.specs.declared.walk.offset.Offset.{Offset}
use Rattle.edf_pace.specs.Premises.{Known, OfFile}
use Rattle.edf_pace.specs.walk.Shown.{Shows, IsAhead, IsGoing}
use Rattle.edf_pace.specs.walk.Gathered.{claim_of, gathered_by, gathered_of}
use Rattle.edf_pace.specs.Kept.{shift_ps}

-- the annotations that were gathered
abbrev pub gathered_so_far : Reading → List NoteValue
gathered_so_far r = map note_value (r.notes).items

-- those of the data record at hand were added to them
abbrev pub HasGathered : View → Reading → Reading → Type 0
HasGathered view r r' = gathered_so_far r' ≡ gathered_so_far r ++ gathered_by view r'.reader

-- a reader goes through the file
pub record IsThere (r : Reader) (left file : List ℕ) : Type 0 where
  pub stands : IsOpen r.status → StandsIn r left file
  pub ended : r.status ≡ Ended → (body_fault file r.head ≡ None) × Conforms file r.head × (left ≡ []) × (r.read ≡ (r.head).records) × (r.ended ≡ end_before file r.head (r.head).records)

-- the same; it stands at t, and these are the annotations that were gathered
pub record IsAt (r : Reader) (left : List ℕ) (notes : List NoteValue) (file : List ℕ) (claim : Option ClaimValue) (ps t : ℤ) : Type 0 where
  pub shows : Shows r.status r file ps t
  pub there : IsThere r left file
  pub gathered : notes ≡ gathered_of claim ps (moved_notes_before file r.head r.read)

-- from t to u: whatever file the reader went through, it still does; of each pair the first is before
pub record Moves (old new : Reader) (honest honest' : Bool) (fails fails' : Reads) (left left' : List ℕ) (notes notes' : List NoteValue) (claim : Option ClaimValue) (ps t u : ℤ) : Type 0 where
  pub head : new.head ≡ old.head
  pub going : IsGoing new.status
  pub ahead : IsAhead new ps u
  pub honesty : IsTrue honest → IsTrue honest'
  pub failures : fails' ≡ fails
  pub comes : IsTrue honest → (file : List ℕ) → IsAt old left notes file claim ps t → IsAt new left' notes' file claim ps u

-- from the start to t: whatever file the reader stood in, it goes through that
pub record Follows (old new : Reader) (honest honest' : Bool) (fails fails' : Reads) (left left' : List ℕ) (notes' : List NoteValue) (claim : Option ClaimValue) (ps t : ℤ) : Type 0 where
  pub head : new.head ≡ old.head
  pub going : IsGoing new.status
  pub ahead : IsAhead new ps t
  pub honesty : IsTrue honest → IsTrue honest'
  pub failures : fails' ≡ fails
  pub comes : IsTrue honest → (file : List ℕ) → StandsIn old left file → IsAt new left' notes' file claim ps t

-- to wherever: whatever file the reader went through, it still does
pub record GoesOn (old new : Reader) (honest honest' : Bool) (left left' : List ℕ) : Type 0 where
  pub head : new.head ≡ old.head
  pub going : IsGoing new.status
  pub honesty : IsTrue honest → IsTrue honest'
  pub comes : IsTrue honest → (file : List ℕ) → IsThere old left file → IsThere new left' file

-- ---- the same of a reader and its source

-- a file in which a reader stands whose header was read
abbrev pub standing : {S : Type 0} → Ghosts S → Reader → S → Known
standing source r s = record { honest = source.is_honest s; head = r.head; goes = StandsIn r (source.left s) }

-- one that a reader goes through
abbrev pub going : {S : Type 0} → Ghosts S → Reader → S → Known
going source r s = record { honest = source.is_honest s; head = r.head; goes = IsThere r (source.left s) }

-- one that a reader goes through, and of which it has come to a time
abbrev pub at_time : {S : Type 0} → Ghosts S → Reading → S → Option ClaimValue → Offset → Time → Known
at_time source r s claim by t = record {
  honest = source.is_honest s;
  head = (r.reader).head;
  goes = λ file. IsAt r.reader (source.left s) (map note_value (r.notes).items) file claim by.ps t.ps;
}

abbrev pub original_at : {S : Type 0} → Ghosts S → Reading → S → Setting → Time → Known
original_at source r s setting t = at_time source r s (Some (setting.claim).now) (setting.clock).original t

abbrev pub export_at : {S : Type 0} → Ghosts S → Reading → S → Setting → Time → Known
export_at source r s setting t = at_time source r s None (setting.clock).export t

-- it moves from a time to another; of each pair the first is before
abbrev pub HasMoved : {S : Type 0} → Ghosts S → Reading → S → Reading → S → Option ClaimValue → Offset → Time → Time → Type 0
HasMoved source r s r' s' claim by t u =
    Moves r.reader r'.reader (source.is_honest s) (source.is_honest s') (source.reads s) (source.reads s') (source.left s) (source.left s')
    (map note_value (r.notes).items) (map note_value (r'.notes).items) claim by.ps t.ps u.ps

-- it moves as it is looked at, from the begin of a window to its end
abbrev pub HasMovedAs : {S : Type 0} → Ghosts S → Reading → S → Reading → S → View → Window → Type 0
HasMovedAs source r s r' s' view w = HasMoved source r s r' s' (claim_of view) view.moved w.from w.to

-- the next data record came, or the end
abbrev pub HasCome : {S : Type 0} → Ghosts S → Reader → S → Reader → S → Type 0
HasCome source r s r' s' = OfFile (standing source r s) (Comes (is_current r'.status) r r' (source.left s'))

-- a reader stands in the file that its source had, where that is honest
abbrev pub HasOpened : {S : Type 0} → Ghosts S → S → S → Reading → Type 0
HasOpened source s s' r = IsTrue (source.is_honest s) → StandsIn r.reader (source.left s') (source.left s)

-- the annotations of the data record at hand
abbrev pub notes_at_hand : Reader → List NoteValue
notes_at_hand r = notes_in r.head r.current

-- the first one is at hand
abbrev pub HasFirst : {S : Type 0} → Ghosts S → Reader → S → Reader → Type 0
HasFirst source r s r' = OfFile (standing source r s) (λ file. (is_current r'.status ≡ true) × (r'.read ≡ 1))

-- a reader is moved from the begin of a turn to a time
abbrev pub OriginalMoves : {S : Type 0} → Ghosts S → Reading → S → Reading → S → Turn → Time → Type 0
OriginalMoves source r s r' s' turn u = HasMoved source r s r' s' (Some ((turn.setting).claim).now) ((turn.setting).clock).original turn.from u

abbrev pub ExportMoves : {S : Type 0} → Ghosts S → Reading → S → Reading → S → Turn → Time → Type 0
ExportMoves source r s r' s' turn u = HasMoved source r s r' s' None ((turn.setting).clock).export turn.from u

-- or through a window
abbrev pub OriginalIn : {S : Type 0} → Ghosts S → Reading → S → Reading → S → Turn → Window → Type 0
OriginalIn source r s r' s' turn w = HasMoved source r s r' s' (Some ((turn.setting).claim).now) ((turn.setting).clock).original w.from w.to

abbrev pub ExportIn : {S : Type 0} → Ghosts S → Reading → S → Reading → S → Turn → Window → Type 0
ExportIn source r s r' s' turn w = HasMoved source r s r' s' None ((turn.setting).clock).export w.from w.to

-- a time before all data records of all files
abbrev pub beginning : ℤ
beginning = neg_ℤ (pos (2 ^ 90))

-- its first data record was read
abbrev pub HasFollowed : {S : Type 0} → Ghosts S → Reading → S → Reading → S → View → Type 0
HasFollowed source r s r' s' view =
    Follows r.reader r'.reader (source.is_honest s) (source.is_honest s') (source.reads s) (source.reads s') (source.left s) (source.left s')
    (map note_value (r'.notes).items) (claim_of view) (view.moved).ps beginning

abbrev pub HasGoneOn : {S : Type 0} → Ghosts S → Reader → S → Reader → S → Type 0
HasGoneOn source r s r' s' = GoesOn r r' (source.is_honest s) (source.is_honest s') (source.left s) (source.left s')

-- by how much the two files are moved, so that both count from the second at which the original starts, before the shift
pub record IsClock (h : Head) (claim : ClaimValue) (clock : Clock) : Type 0 where
  pub original : (clock.original).ps ≡ neg_ℤ (file_start h)
  pub export : (clock.export).ps ≡ neg_ℤ (file_start h +ℤ shift_ps claim)

-- the clock is that of an original with this header and of the claim, and the labels are the claim's, in the order of their bytes
pub record IsSetting (h : Head) (setting : Setting) : Type 0 where
  pub clock : IsClock h (setting.claim).now setting.clock
  pub sorted : AreSorted ((setting.claim).now).channels (setting.labels).now
