-- What a watcher of two files that are read in step gets to see.
use Rattle.std.specs.Prelude.{◌≡◌, ℕ, ℤ, ◌≤ℤ◌, Bool, List, map, Option}
use Rattle.edf_pace.specs.Words.{Found, Frame, Head, Note, NoteValue, Reader, Reading, Turn, Window, note_value}
use Rattle.edf_pace.specs.declared.walk.watchers.found_in.ChannelCount.{ChannelCount}
use Rattle.edf_pace.specs.walk.Pairs.{places_of}
use Rattle.edf_pace.specs.walk.Shown.{Covers}
use Rattle.edf_pace.specs.walk.Windows.{sampled, window_difference}

-- an original and an export, each with its header
pub record TwoFiles : Type 0 where
  pub original : List ℕ
  pub head : Head
  pub export : List ℕ
  pub export_head : Head

abbrev pub two_files : List ℕ → Head → List ℕ → Head → TwoFiles
two_files o h e g = record { original = o; head = h; export = e; export_head = g }

-- by how much an original and a part are moved
abbrev pub moved_original : Turn → ℤ
moved_original turn = ((turn.setting).clock.original).ps

abbrev pub moved_export : Turn → ℤ
moved_export turn = ((turn.setting).clock.export).ps

-- what an onlooker has of an export that was read to its end: its header, and what was counted of each channel
pub record ExportCount : Type 0 where
  pub head : Head
  pub counts : List ChannelCount

-- what it has of all files once the original was read to its end: the original's header, those of its annotations that are kept, and the
-- annotations of all exports
pub record WholeShown : Type 0 where
  pub head : Head
  pub kept : List NoteValue
  pub exported : List NoteValue

abbrev pub shown_whole : Reading → List Note → WholeShown
shown_whole original exported = record {
  head = (original.reader).head;
  kept = map note_value original.notes.items;
  exported = map note_value exported;
}

-- what stays as it is while a watcher sees: whether it has an onlooker that looks on, and what that one counted of the exports before
pub record Kept : Type 0 where
  pub looks : Bool
  pub counted : List ExportCount

-- who held what there is in two files before t, then holds what there is before u: in any two files of which two readers show all that
-- stands from t on and before u
abbrev pub HasSeen : (TwoFiles → ℤ → ℤ → Type 0) → (TwoFiles → ℤ → ℤ → Type 0) → Frame → Reader → Reader → ℤ → ℤ → Type 0
HasSeen Held Holds frame r s t u = (o e : List ℕ) → Covers r o (moved_original frame.turn) t u → Covers s e (moved_export frame.turn) t u
    → (from : ℤ) → from ≤ℤ t → Held (two_files o r.head e s.head) from t → Holds (two_files o r.head e s.head) from u

-- the same between the two times of a window, of the channels of a frame
abbrev pub HasSeenIn : (Frame → TwoFiles → ℤ → ℤ → Type 0) → (Frame → TwoFiles → ℤ → ℤ → Type 0) → Frame → Reader → Reader → Window → Type 0
HasSeenIn Held Holds frame r s w = HasSeen (Held frame) (Holds frame) frame r s (w.from).ps (w.to).ps

-- the earliest difference of the channels of a frame, from t on and before u
abbrev pub first_between : Frame → TwoFiles → ℤ → ℤ → Option Found
first_between frame files t u =
    window_difference ((frame.turn).setting.claim).now (sampled files.original files.head (moved_original frame.turn)) (sampled files.export files.export_head (moved_export frame.turn)) (map places_of (frame.pairs).now) t u

-- what was found is that
abbrev pub IsFirst : Option Found → Frame → TwoFiles → ℤ → ℤ → Type 0
IsFirst found frame files t u = found ≡ first_between frame files t u
