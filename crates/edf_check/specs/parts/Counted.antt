-- What an onlooker counted of an original and the parts of its export, by channel. These are steps between the definitions and the code.
use Rattle.std.specs.Prelude.{◌≡◌, ◌++◌, ℕ, ℤ, neg_ℤ, ◌+ℤ◌, int_lt, if◌then◌else◌, ◌&&◌, not, Bool, true, false, IsTrue, List, [], ◌∷◌, map, MatchOption, None, Option, Some}
use Rattle.edf_check.specs.Words.{AllByRecursion, Bor, ClaimValue, Conforms, Course, Ghosts, Head, IsPermutation, NoteValue, PartsFound, ReadSoFar, Reading, SaysClaimText, Setting, Turn, head_of, note_value, notes_of}
use Rattle.edf_check.specs.KeptReading.{kept_notes, origin_of}
use Rattle.edf_check.specs.declared.parts.part.PartRead.{PartRead}
use Rattle.edf_check.specs.parts.Ends.{at_part, beside}
use Rattle.edf_check.specs.parts.Parts.{AllConform, FollowOneAnother, exported_by_all}
use Rattle.edf_check.specs.parts.Together.{gathered_of_all, held_notes}
use Rattle.edf_heads.specs.Comparisons.{AreSorted}
use Rattle.edf_pace.specs.Kept.{shift_ps}
use Rattle.edf_pace.specs.declared.walk.watchers.found_in.ChannelCount.{ChannelCount}
use Rattle.edf_pace.specs.Premises.{OfFile, OfFiles}
use Rattle.edf_samples.specs.Tallies.{tally_of}
use Rattle.edf_pace.specs.walk.Counting.{span_counts}
use Rattle.edf_pace.specs.walk.Ends.{AreGathered, Both, IsCounted, at_turn, moved_export, moved_original}
use Rattle.edf_pace.specs.walk.Gathered.{gathered_of}
use Rattle.edf_pace.specs.walk.Pairs.{places_in}
use Rattle.edf_pace.specs.walk.Readings.{beginning, gathered_so_far, standing}
use Rattle.edf_pace.specs.walk.Shown.{begin_by, last_end_by}
use Rattle.edf_pace.specs.walk.Watching.{ExportCount, WholeShown, two_files}
use Rattle.edf_pace.specs.walk.Windows.{is_last}

-- this was counted of a part, whose header it is
abbrev pub count_of : List ℕ → List ChannelCount → ExportCount
count_of part counts = record { head = head_of part; counts = counts }

-- of parts that aren't compared nothing is counted of any channel, and their headers are known
abbrev pub uncounted : List (List ℕ) → List ExportCount
uncounted parts = map (λ (part : List ℕ). count_of part []) parts

-- what differs between the original, moved by a, and each of the parts, moved by b, from t on, by channel; where a part begins before the one
-- before it ends, neither it nor any behind it is compared
abbrev pub serial_counts : ClaimValue → List ℕ → Head → ℤ → ℤ → List (Bor (List ℕ)) → ℤ → List (List ℕ) → List ExportCount
serial_counts claim o h a b labels t [] = []
serial_counts claim o h a b labels t (part ∷ parts) =
    if int_lt (begin_by part (head_of part) b 0) t then uncounted (part ∷ parts)
    else count_of part (span_counts (is_last parts) claim (two_files o h part (head_of part)) a b (places_in h (head_of part) labels) t (last_end_by part (head_of part) b))
    ∷ serial_counts claim o h a b labels (last_end_by part (head_of part) b) parts

-- nothing was counted of any channel of any part
abbrev pub HasNothing : List ExportCount → Type 0
HasNothing counts = AllByRecursion (λ (part : ExportCount). AllByRecursion (λ (count : ChannelCount). count.tally ≡ tally_of []) part.counts) counts

-- whether a part was compared in its turn: the one before it was, if there is one, and it didn't begin early
abbrev pub was_compared : Turn → Course → Bool
was_compared turn course = turn.is_compared && not course.is_early

-- where somebody looks on, the next part is compared exactly behind one that was
abbrev pub StaysBeside : Bool → Turn → Course → Type 0
StaysBeside looks turn course = looks ≡ true → turn.is_last ≡ false → course.is_beside ≡ was_compared turn course

-- where somebody looks on, nothing was counted of any channel of a part that wasn't compared
abbrev pub IsUncounted : Bool → Turn → List ChannelCount → Course → Type 0
IsUncounted looks turn counts course = looks ≡ true → was_compared turn course ≡ false → counts ≡ []

-- where somebody looks on, this was counted of a part that was compared, and annotations were gathered; the original keeps its header
pub record IsShown (turn : Turn) (o : List ℕ) (h : Head) (r : Reading) (e : List ℕ) (g : Head) (notes : List NoteValue) (counts : List ChannelCount) : Type 0 where
  pub counted : IsCounted turn o h e g counts
  pub gathered : AreGathered turn o h (gathered_so_far r) e g notes
  pub head : (r.reader).head ≡ h

abbrev pub CountedBy : Both → Turn → Reading → Reading → List ChannelCount → Type 0
CountedBy both turn r' s' counts =
    OfFiles both.original both.export (λ o e. IsShown turn o (both.original).head r' e (both.export).head (gathered_so_far s') counts)

-- where both were read to the begin of the turn
abbrev pub TurnCounted : {O E : Type 0} → Ghosts O → Ghosts E → Reading → O → Reading → Reading → E → Reading → Turn → Bool → List ChannelCount → Type 0
TurnCounted o e r s r_behind r' s' r'_behind turn looks counts = looks ≡ true → CountedBy (at_turn o e r s r' s' turn) turn r_behind r'_behind counts

-- where of the part the header was read, and it was compared
abbrev pub PartCounted : {O E : Type 0} → Ghosts O → Ghosts E → Reading → O → Reading → Reading → E → Reading → Turn → Bool → List ChannelCount → Course → Type 0
PartCounted o e r s r_behind r' s' r'_behind turn looks counts course = looks ≡ true → turn.is_compared ≡ true → course.is_early ≡ false
    → CountedBy (at_part o e r s r' s' turn) turn r_behind r'_behind counts

-- what was counted of a part stands behind that of the parts before it
abbrev pub IsCountedBehind : Turn → List ℕ → Head → List ℕ → List ExportCount → List ExportCount → Type 0
IsCountedBehind turn o h e before behind = Conforms o h → behind ≡ before ++ (count_of e (span_counts turn.is_last ((turn.setting).claim).now (two_files o h e (head_of e)) (moved_original turn) (moved_export turn)
    (places_in h (head_of e) ((turn.setting).labels).now) (turn.from).ps (last_end_by e (head_of e) (moved_export turn))) ∷ [])

-- where its header is read with it, and it was compared
abbrev pub PartCountedBy : {O E : Type 0} → Ghosts O → Ghosts E → Turn → Reading → O → Reading → E → Bool → List ExportCount → List ExportCount → PartRead → Type 0
PartCountedBy original export turn r s r' e looks before behind part = looks ≡ true → turn.is_compared ≡ true → (part.course).is_early ≡ false
    → OfFile (beside original r s turn) (λ o. IsTrue (export.is_honest e) → IsCountedBehind turn o (r.reader).head (export.left e) before behind
    × AreGathered turn o (r.reader).head (gathered_so_far r') (export.left e) (head_of (export.left e)) (map note_value (part.notes).items)
    × ((r'.reader).head ≡ (r.reader).head))

-- where it wasn't compared, only its header stands behind what was counted of the parts before it
abbrev pub PartUncountedBy : {E : Type 0} → Ghosts E → Turn → E → Bool → List ExportCount → List ExportCount → PartRead → Type 0
PartUncountedBy export turn e looks before behind part = looks ≡ true → was_compared turn part.course ≡ false
    → IsTrue (export.is_honest e) → behind ≡ before ++ uncounted (export.left e ∷ [])

-- behind a part and those behind it the annotations were gathered of the original that are kept, and those of these parts behind those of
-- the parts before them
pub record AreGatheredBehind (turn : Turn) (o : List ℕ) (h : Head) (parts : List (List ℕ)) (r : Reading) (held_before held_behind : List NoteValue) : Type 0 where
  pub head : (r.reader).head ≡ h
  pub kept : gathered_so_far r ≡ gathered_of (Some ((turn.setting).claim).now) (moved_original turn) (notes_of o h)
  pub exported : held_behind ≡ held_before ++ gathered_of_all (moved_export turn) parts

-- what is counted of a part and of those behind it, in the turn of the first of them
abbrev pub turn_counts : Turn → List ℕ → Head → List (List ℕ) → List ExportCount
turn_counts turn o h parts =
    if turn.is_compared then serial_counts ((turn.setting).claim).now o h (moved_original turn) (moved_export turn) ((turn.setting).labels).now (turn.from).ps parts
    else uncounted parts

-- what is counted of these parts stands behind what was counted of those before them; and where they are compared and none begins early, the annotations were gathered
abbrev pub AreCountedBehind : {O E : Type 0} → Ghosts O → Ghosts E → Turn → ReadSoFar → ReadSoFar → O → List E → Bool → List ExportCount → List ExportCount → PartsFound → Type 0
AreCountedBehind original export turn so_far so_far' s parts looks before behind found = looks ≡ true
    → OfFile (beside original so_far.original s turn) (λ o. AllByRecursion IsTrue (map export.is_honest parts) → Conforms o ((so_far.original).reader).head
    → (behind ≡ before ++ turn_counts turn o ((so_far.original).reader).head (map export.left parts))
    × (turn.is_compared ≡ true → found.early ≡ None
    → AreGatheredBehind turn o ((so_far.original).reader).head (map export.left parts) so_far'.original (held_notes so_far.exported) (held_notes so_far'.exported)))

-- those were gathered that are kept of an original, and these are those of its parts
pub record AreAllGathered (o : List ℕ) (parts : List (List ℕ)) (claim : ClaimValue) (r : Reading) (exported : List NoteValue) : Type 0 where
  pub head : (r.reader).head ≡ head_of o
  pub kept_are : gathered_so_far r ≡ kept_notes o claim
  pub exported_are : exported ≡ exported_by_all o parts claim

-- somebody who looked on has the header of the original, and these annotations, in some order
pub record IsWhole (o : List ℕ) (parts : List (List ℕ)) (claim : ClaimValue) (shown : WholeShown) : Type 0 where
  pub head : shown.head ≡ head_of o
  pub kept : IsPermutation (kept_notes o claim) shown.kept
  pub exported : IsPermutation (exported_by_all o parts claim) shown.exported

-- what was counted of an original and its parts, of each label of the claim in their order, stands behind what was counted before
pub record AreCounted (o : List ℕ) (parts : List (List ℕ)) (claim : ClaimValue) (before behind : List ExportCount) : Type 0 where
  pub labels : List (Bor (List ℕ))
  pub sorted : AreSorted claim.channels labels
  pub are : behind ≡ before ++ serial_counts claim o (head_of o) (neg_ℤ (origin_of o)) (neg_ℤ (origin_of o +ℤ shift_ps claim)) labels beginning parts

-- ---- the same of readers and their sources, where somebody looks on; annotations are gathered where the parts follow one another

abbrev pub SeriesCounted : {O E : Type 0} → Ghosts O → Ghosts E → Setting → ReadSoFar → ReadSoFar → O → List E → Bool → List ExportCount → List ExportCount → Type 0
SeriesCounted original export setting so_far so_far' o parts looks before behind = looks ≡ true
    → OfFile (standing original (so_far.original).reader o) (λ file. AllByRecursion IsTrue (map export.is_honest parts)
    → AreCounted file (map export.left parts) (setting.claim).now before behind
    × (FollowOneAnother (map export.left parts) → AreAllGathered file (map export.left parts) (setting.claim).now so_far'.original (held_notes so_far'.exported)))

-- what somebody has who looked on: what was counted before, and behind, and what was shown of all files
pub record LookedOn : Type 0 where
  pub before : List ExportCount
  pub behind : List ExportCount
  pub shown : Option WholeShown

abbrev pub looked_on : List ExportCount → List ExportCount → Option WholeShown → LookedOn
looked_on before behind shown = record { before = before; behind = behind; shown = shown }

-- that is of an original and its parts: what was counted, whether or not these follow one another; and all files were shown, with their whole
-- annotations where they do
pub record IsLookedOn (o : List ℕ) (parts : List (List ℕ)) (claim : ClaimValue) (seen : LookedOn) : Type 0 where
  pub counted : AreCounted o parts claim seen.before seen.behind
  pub whole : MatchOption seen.shown ⊥ (λ shown. FollowOneAnother parts → IsWhole o parts claim shown)

-- none has a fault
abbrev pub AreCountedOfAll : {O E : Type 0} → Ghosts O → Ghosts E → O → List E → ClaimValue → Bool → LookedOn → Type 0
AreCountedOfAll original export o parts claim looks seen = looks ≡ true → IsTrue (original.is_honest o) → AllByRecursion IsTrue (map export.is_honest parts)
    → AllConform (original.left o) (map export.left parts) → IsLookedOn (original.left o) (map export.left parts) claim seen

-- of one export
abbrev pub IsCountedOfTwo : {O E : Type 0} → Ghosts O → Ghosts E → O → E → ClaimValue → Bool → LookedOn → Type 0
IsCountedOfTwo original export o e claim looks seen = looks ≡ true → IsTrue (original.is_honest o) → IsTrue (export.is_honest e)
    → Conforms (original.left o) (head_of (original.left o)) → Conforms (export.left e) (head_of (export.left e)) → IsLookedOn (original.left o) (export.left e ∷ []) claim seen

-- the same under the claim that a text says
abbrev pub AreCountedUnder : {O E : Type 0} → Ghosts O → Ghosts E → O → List E → List ℕ → Bool → LookedOn → Type 0
AreCountedUnder original export o parts text looks seen =
    (claim : ClaimValue) × SaysClaimText text claim × AreCountedOfAll original export o parts claim looks seen

abbrev pub IsCountedUnder : {O E : Type 0} → Ghosts O → Ghosts E → O → E → List ℕ → Bool → LookedOn → Type 0
IsCountedUnder original export o e text looks seen =
    (claim : ClaimValue) × SaysClaimText text claim × IsCountedOfTwo original export o e claim looks seen
