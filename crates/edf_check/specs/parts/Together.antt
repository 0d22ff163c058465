-- An original and the parts of its export as they are read, one after the other, each in what it is moved by, and what was found in them when
-- all were read to their ends, in the words of their bytes. These are steps between the definitions and the code.
use Rattle.std.specs.Prelude.{◌≡◌, ℕ, List, [], IsTrue, length, map, Option, None, Some, slice_get, ◌+◌, ℤ, true, ◌∷◌, ◌++◌}
use Rattle.edf_check.specs.Words.{AllByRecursion, ClaimValue, Ghosts, head_of, file_fault, NoteValue, note_value, PartsVerdict, PartsStop, Finding, PartVerdict, PartsFound, Exported, ReadSoFar, Found, Reading, Setting, FaultOf, Bor, option_or, Head, body_fault, notes_of, Turn}
use Rattle.edf_pace.specs.declared.walk.fault_of.FaultOf.TheVariants.{Original as OfOriginal, Part as OfPart}
use Rattle.edf_verdict.specs.declared.verdict.Verdict.TheVariants.{Yes}
use Rattle.edf_check.specs.Checks.{AreRead as AreLeft}
use Rattle.edf_check.specs.Courses.{Agree, IsFirstMismatch}
use Rattle.edf_check.specs.Findings.{verdict_on}
use Rattle.edf_samples.specs.InstantOrder.{floor_of}
use Rattle.edf_check.specs.KeptReading.{KeptAt, kept_notes}
use Rattle.edf_check.specs.parts.Parts.{AllConform, ExportedByOne, exported_by_all}
use Rattle.edf_check.specs.parts.PartsFirst.{IsFirstFault, IsFirstHead}
use Rattle.edf_check.specs.parts.PartsVerdicts.{AllAgreed, AllInOrder, IsFirstOverlap, IsPartsVerdict, samples_of_all}
use Rattle.edf_pace.specs.Premises.{OfFile}
use Rattle.edf_pace.specs.PartsStops.{StopsOfAll}
use Rattle.edf_pace.specs.walk.Readings.{standing}
use Rattle.edf_check.specs.parts.PartsFound.{AllConformAt, IsEarlyFound, IsHeadsFound}
use Rattle.edf_check.specs.parts.Ends.{beside}
use Rattle.edf_pace.specs.walk.Ends.{IsReadThrough, moved_export, moved_original}
use Rattle.edf_pace.specs.walk.Gathered.{gathered_of}
use Rattle.edf_pace.specs.walk.Pairs.{places_in}
use Rattle.edf_pace.specs.walk.Shown.{last_end_by}
use Rattle.edf_pace.specs.walk.Windows.{sampled, span_difference, is_last}

-- the first difference of the original, moved by a, and of the parts, moved by b, from t on
abbrev pub serial_difference : ClaimValue → List ℕ → Head → ℤ → ℤ → List (Bor (List ℕ)) → ℤ → List (List ℕ) → Option Found
serial_difference claim o h a b labels t [] = None
serial_difference claim o h a b labels t (part ∷ parts) =
    option_or
    (span_difference (is_last parts) claim (sampled o h a) (sampled part (head_of part) b) (places_in h (head_of part) labels) t (last_end_by part (head_of part) b))
    (serial_difference claim o h a b labels (last_end_by part (head_of part) b) parts)

-- the annotations that the parts read so far hold
abbrev pub held_notes : Exported → List NoteValue
held_notes exported = map note_value (exported.notes).items

-- the annotations of all parts, moved by b
abbrev pub gathered_of_all : ℤ → List (List ℕ) → List NoteValue
gathered_of_all b [] = []
gathered_of_all b (part ∷ parts) = gathered_of None b (notes_of part (head_of part)) ++ gathered_of_all b parts

-- an original and the parts from a turn on were read to their ends, and this was found. What differs in a header, or begins early, was looked
-- for in all; the samples were compared where the turn says so, and count where neither was found; then the annotations count, too
pub record AreRead (turn : Turn) (o : List ℕ) (h : Head) (left : List ℕ) (notes : List NoteValue) (parts lefts : List (List ℕ)) (before behind : Exported) (found : PartsFound) : Type 0 where
  pub through : IsReadThrough o h left
  pub conform : AllConformAt parts
  pub gone : AllByRecursion (λ left. left ≡ []) lefts
  pub heads_are : IsHeadsFound h ((turn.setting).claim).now turn.part parts found.heads
  pub early_is : IsEarlyFound (moved_export turn) (turn.from).ps turn.part parts found.early
  pub first : turn.is_compared ≡ true → found.heads ≡ None → found.early ≡ None
      → serial_difference ((turn.setting).claim).now o h (moved_original turn) (moved_export turn) ((turn.setting).labels).now (turn.from).ps parts ≡ found.found
  pub same : turn.is_compared ≡ true → found.heads ≡ None → found.early ≡ None → found.found ≡ None
      → (notes ≡ gathered_of (Some ((turn.setting).claim).now) (moved_original turn) (notes_of o h))
      × (map note_value (behind.notes).items ≡ map note_value (before.notes).items ++ gathered_of_all (moved_export turn) parts)
  pub counted : behind.samples ≡ before.samples + samples_of_all parts

-- or this is the first fault: of the original, or else of the first part that has one; then nothing is left of the original
abbrev pub HaveFault : ℕ → List ℕ → Head → List ℕ → List (List ℕ) → FaultOf → Type 0
HaveFault first o h left parts (OfOriginal fault) = body_fault o h ≡ Some fault
HaveFault first o h left parts (OfPart part fault) = (body_fault o h ≡ None) × IsFirstFault first parts part fault × (left ≡ [])

-- ---- the same of readers and their sources, before and behind

abbrev pub AreReadFrom : {O E : Type 0} → Ghosts O → Ghosts E → Turn → Reading → O → Reading → O → E → E → List E → List E → Exported → Exported → PartsFound → Type 0
AreReadFrom original export turn r o r' o' e e' es es' before behind found =
    OfFile (beside original r o turn) (λ file. AllByRecursion IsTrue (map export.is_honest (e ∷ es))
    → AreRead turn file (r.reader).head (original.left o') (map note_value (r'.notes).items) (map export.left (e ∷ es)) (map export.left (e' ∷ es')) before behind found)

abbrev pub HaveFaultFrom : {O E : Type 0} → Ghosts O → Ghosts E → Turn → Reading → O → O → List E → FaultOf → Type 0
HaveFaultFrom original export turn r o o' parts fault =
    OfFile (beside original r o turn) (λ file. AllByRecursion IsTrue (map export.is_honest parts)
    → HaveFault turn.part file (r.reader).head (original.left o') (map export.left parts) fault)

-- the same of what was read so far, of a part and of those behind it
abbrev pub SeriesRead : {O E : Type 0} → Ghosts O → Ghosts E → Turn → ReadSoFar → ReadSoFar → O → O → E → E → List E → List E → PartsFound → Type 0
SeriesRead original export turn so_far so_far' o o' e e' es es' =
    AreReadFrom original export turn so_far.original o so_far'.original o' e e' es es' so_far.exported so_far'.exported

-- or this is the first fault
abbrev pub SeriesFault : {O E : Type 0} → Ghosts O → Ghosts E → Turn → ReadSoFar → O → O → E → List E → FaultOf → Type 0
SeriesFault original export turn so_far o o' e es = HaveFaultFrom original export turn so_far.original o o' (e ∷ es)

-- this is the first fault of all
abbrev pub IsFirstOfAll : List ℕ → List (List ℕ) → FaultOf → Type 0
IsFirstOfAll original parts (OfOriginal fault) = file_fault original ≡ Some fault
IsFirstOfAll original parts (OfPart part fault) = (file_fault original ≡ None) × IsFirstFault 0 parts part fault

-- this was found: a header that differs, or else a part that begins early, or else a difference at a place of the labels, or else none; then
-- these are the annotations that are compared
abbrev pub AreFoundIn : List ℕ → List (List ℕ) → ClaimValue → List (List ℕ) → List NoteValue → List NoteValue → Option PartVerdict → Option ℕ → Option Found → Type 0
AreFoundIn original parts claim labels kept exported (Some heads) early found =
    AllConform original parts × IsFirstHead (head_of original) claim 0 parts heads.part heads.verdict
AreFoundIn original parts claim labels kept exported None (Some part) found = AllAgreed original parts claim × IsFirstOverlap parts part
AreFoundIn original parts claim labels kept exported None None (Some found) =
    AllInOrder original parts claim
    × ((label : List ℕ) → slice_get labels found.channel ≡ Some label
    → IsFirstMismatch (KeptAt original claim) (ExportedByOne original parts claim) label (floor_of found.difference.at) found.difference.mismatch)
AreFoundIn original parts claim labels kept exported None None None =
    AllInOrder original parts claim × Agree (KeptAt original claim) (ExportedByOne original parts claim)
    × (kept ≡ kept_notes original claim) × (exported ≡ exported_by_all original parts claim)

-- this is what an original and its parts hold: what was found, and how many samples the parts have
pub record AreJudged (original : List ℕ) (parts : List (List ℕ)) (setting : Setting) (kept : List NoteValue) (exported : Exported) (found : PartsFound) : Type 0 where
  pub found_are : AreFoundIn original parts (setting.claim).now (map (λ label. label.now) (setting.labels).now) kept (map note_value (exported.notes).items)
      found.heads found.early found.found
  pub samples_are : exported.samples ≡ samples_of_all parts

-- the verdict on what was found first, or a Yes of what was taken in
abbrev pub verdict_by : Setting → Exported → Option Finding → PartsVerdict
verdict_by setting exported None = record { part = 0; verdict = Yes (length ((setting.claim).now).channels) exported.samples (length (exported.notes).items) }
verdict_by setting exported (Some finding) = verdict_on finding

-- this verdict follows from what was found in an original and its parts
abbrev pub FollowsFrom : Setting → List NoteValue → Exported → PartsFound → PartsVerdict → Type 0
FollowsFrom setting kept exported found verdict = (o : List ℕ) (parts : List (List ℕ))
    → AreJudged o parts setting kept exported found → IsPartsVerdict o parts (setting.claim).now verdict

-- the verdict on what is found first, or a Yes, follows from what was found
abbrev pub IsFindingOf : Setting → List NoteValue → Exported → PartsFound → Option Finding → Type 0
IsFindingOf setting kept exported found finding = FollowsFrom setting kept exported found (verdict_by setting exported finding)

-- ---- the same of readers and their sources, before and behind

-- this is the verdict on the files that honest sources give; and they were read as far as it says
abbrev pub IsVerdictOf : {O E : Type 0} → Ghosts O → Ghosts E → O → List E → ClaimValue → PartsVerdict → Type 0
IsVerdictOf original export o parts claim verdict =
    IsTrue (original.is_honest o) → AllByRecursion IsTrue (map export.is_honest parts) → IsPartsVerdict (original.left o) (map export.left parts) claim verdict

abbrev pub IsReadBy : {O E : Type 0} → Ghosts O → Ghosts E → O → O → List E → List E → PartsVerdict → Type 0
IsReadBy original export o o' parts parts' verdict =
    IsTrue (original.is_honest o) → AllByRecursion IsTrue (map export.is_honest parts) → AllByRecursion (AreLeft verdict.verdict (original.left o')) (map export.left parts')

-- the same of a part and those behind it
abbrev pub SeriesLeft : {O E : Type 0} → Ghosts O → Ghosts E → O → O → E → E → List E → List E → PartsVerdict → Type 0
SeriesLeft original export o o' e e' es es' = IsReadBy original export o o' (e ∷ es) (e' ∷ es')

-- why a check of them stops
abbrev pub SeriesStop : {O E : Type 0} → Ghosts O → O → O → Ghosts E → E → E → List E → List E → PartsStop → Type 0
SeriesStop original o o' export e e' es es' = StopsOfAll original o o' export 0 (e ∷ es) (e' ∷ es')

abbrev pub AreJudgedFrom : {O E : Type 0} → Ghosts O → Ghosts E → Setting → Reading → O → Reading → List E → Exported → PartsFound → Type 0
AreJudgedFrom original export setting r o r' parts behind found =
    OfFile (standing original r.reader o) (λ file. AllByRecursion IsTrue (map export.is_honest parts)
    → AreJudged file (map export.left parts) setting (map note_value (r'.notes).items) behind found)

-- all were read to their ends
abbrev pub AreGoneFrom : {O E : Type 0} → Ghosts O → Ghosts E → Reading → O → O → List E → List E → Type 0
AreGoneFrom original export r o o' parts parts' =
    OfFile (standing original r.reader o) (λ file. AllByRecursion IsTrue (map export.is_honest parts)
    → (original.left o' ≡ []) × AllByRecursion (λ left. left ≡ []) (map export.left parts'))

-- the same of what was read so far, of a part and of those behind it
abbrev pub SeriesJudged : {O E : Type 0} → Ghosts O → Ghosts E → Setting → ReadSoFar → ReadSoFar → O → E → List E → PartsFound → Type 0
SeriesJudged original export setting so_far so_far' o e es = AreJudgedFrom original export setting so_far.original o so_far'.original (e ∷ es) so_far'.exported

-- and all of these were read to their ends
abbrev pub SeriesGone : {O E : Type 0} → Ghosts O → Ghosts E → ReadSoFar → O → O → E → E → List E → List E → PartsFound → Type 0
SeriesGone original export so_far o o' e e' es es' found = AreGoneFrom original export so_far.original o o' (e ∷ es) (e' ∷ es')

-- behind a fault of a part nothing of the original is left
abbrev pub IsLeftBy : FaultOf → List ℕ → Type 0
IsLeftBy (OfOriginal fault) left = Unit {0}
IsLeftBy (OfPart part fault) left = left ≡ []

abbrev pub IsFirstFrom : {O E : Type 0} → Ghosts O → Ghosts E → Reading → O → O → List E → FaultOf → Type 0
IsFirstFrom original export r o o' parts fault =
    OfFile (standing original r.reader o) (λ file. AllByRecursion IsTrue (map export.is_honest parts)
    → IsFirstOfAll file (map export.left parts) fault × IsLeftBy fault (original.left o'))
