-- A reader that goes on.
use Rattle.edf_fields.specs.in_out.Sources.{Reads}
use Rattle.std.proofs.Common.{inl, inr, ◌≡◌, ℕ, suc, ◌+◌, ◌≤◌, ℤ, ◌+ℤ◌, ◌≤ℤ◌, ◌<ℤ◌, Bool, true, false, cond, List, [], ◌∷◌, ◌++◌, map, Option, Some, None, Ok, refl, sym, ap, ◌∙◌, arith, subst}
use Rattle.std.proofs.lemmas.Int.{ints}
use Rattle.std.proofs.lemmas.Bool.{cases_lt}
use Rattle.std.proofs.lemmas.List.{append-nil, map-append}
use Rattle.edf_claim.specs.Keeps.{keeps_annotation, kept_text}
use Rattle.edf_claim.specs.ClaimValues.{ClaimValue}
use Rattle.edf_header.specs.Heads.{Head}
use Rattle.edf_stream.specs.declared.records.status.Status.{Status}
use Rattle.edf_stream.specs.declared.records.status.Status.TheVariants.{Begun, Current, Ended, Stopped}
use Rattle.edf_stream.specs.Conforming.{Conforms}
use Rattle.edf_stream.specs.Faults.{body_fault}
use Rattle.edf_stream.specs.annotation.Notes.{NoteValue, moved_by}
use Rattle.edf_stream.specs.annotation.NotesReading.{notes_in, moved_notes_in, moved_notes_before}
use Rattle.edf_stream.specs.records.Readers.{Reader, IsOpen, is_current, status_after, StandsIn, Comes}
use Rattle.edf_stream.specs.records.Records.{record_at}
use Rattle.edf_stream.specs.times.Starts.{file_start}
use Rattle.edf_stream.specs.times.StartsReading.{end_before}
use Rattle.edf_stream.specs.Views.{note_value}
use Rattle.edf_stream.specs.declared.annotation.notes.Note.{Note}
use Rattle.edf_pace.specs.walk.Shown.{ArePast, end_by, ends_at, Shows, IsGoing, IsAhead}
use Rattle.edf_pace.specs.walk.Gathered.{as_kept, counted_text, counted_of, gathered_of, gathered_in}
use Rattle.edf_pace.specs.walk.Keepers.{counted_parts, gathered_nil}
use Rattle.edf_pace.specs.walk.Readings.{IsAt, IsThere, Moves}

-- what was answered is what is at hand
pub answered_current : (s : Status) (more : Bool) → s ≡ status_after (Ok more) → is_current s ≡ more
answered_current s true e = ap is_current e
answered_current s false e = ap is_current e

pub current_is : (s : Status) → is_current s ≡ true → s ≡ Current
current_is Begun e = absurd (let f : false ≡ true = e in cc)
current_is Current e = refl
current_is Ended e = absurd (let f : false ≡ true = e in cc)
current_is (Stopped x) e = absurd (let f : false ≡ true = e in cc)

pub ended_is : (s : Status) → IsGoing s → is_current s ≡ false → s ≡ Ended
ended_is Begun g e = absurd g
ended_is Current g e = absurd (let f : true ≡ false = e in cc)
ended_is Ended g e = refl
ended_is (Stopped x) g e = absurd g

pub current_open : (s : Status) → is_current s ≡ true → IsOpen s
current_open s e = let P : Status → Type 0 = IsOpen in subst P (sym (current_is s e)) tt

later_past : (file : List ℕ) (h : Head) (ps : ℤ) (k : ℕ) (t u : ℤ) → t ≤ℤ u → ArePast file h ps k t → ArePast file h ps k u
later_past file h ps k t u l past j lt = let p = past j lt in omega (arith, ints, p, l)

past_more : (file : List ℕ) (h : Head) (ps : ℤ) (k : ℕ) (t u : ℤ) → t ≤ℤ u → ArePast file h ps k t → end_by file h ps k ≤ℤ u → ArePast file h ps (suc k) u
past_more file h ps k t u l past e j lt =
    elim (cases_lt j k) [
      | inl less ↦ let p = past j less in omega (arith, ints, p, l)
      | inr more ↦ let q : j ≡ k = omega (arith, lt, more) in let P : ℕ → Type 0 = λ i. end_by file h ps i ≤ℤ u in subst P (sym q) e
    ]

shows_later : (s : Status) (r : Reader) (file : List ℕ) (ps t u : ℤ) → t ≤ℤ u → Shows s r file ps t → Shows s r file ps u
shows_later Begun r file ps t u l h = absurd h
shows_later Current r file ps t u l h = (h.0, h.1, h.2, h.3, h.4, later_past file r.head ps h.0 t u l h.5)
shows_later Ended r file ps t u l h = later_past file r.head ps (r.head).records t u l h
shows_later (Stopped x) r file ps t u l h = absurd h

pub at_later : (r : Reader) (left : List ℕ) (notes : List NoteValue) (file : List ℕ) (claim : Option ClaimValue) (ps t u : ℤ) → t ≤ℤ u → IsAt r left notes file claim ps t → IsAt r left notes file claim ps u
at_later r left notes file claim ps t u l at = record { shows = shows_later r.status r file ps t u l at.shows; there = at.there; gathered = at.gathered }

-- all data records that a reader has read, of which the last ends at u or before
read_past : (r : Reader) (file : List ℕ) (ps t u : ℤ) → Shows Current r file ps t → t ≤ℤ u → ends_at r ps ≤ℤ u → ArePast file r.head ps r.read u
read_past r file ps t u h l e =
    let P : ℕ → Type 0 = λ n. ArePast file r.head ps n u in
    let same = h.4 in
    subst P (sym h.1) (past_more file r.head ps h.0 t u l h.5 (omega (arith, ints, e, same)))

-- the next data record, or the end
shows_next : (s : Status) (old new : Reader) (left file : List ℕ) (ps u : ℤ) → IsGoing s → new.head ≡ old.head → (is_current s ≡ true → (new.read ≡ old.read + 1) × (new.read ≤ (new.head).records))
    → ArePast file old.head ps old.read u → Comes (is_current s) old new left file → Shows s new file ps u
shows_next Begun old new left file ps u g e count past comes = absurd g
shows_next (Stopped x) old new left file ps u g e count past comes = absurd g
shows_next Current old new left file ps u g e count past comes =
    let read : new.read ≡ suc old.read = (let q = (count refl).0 in omega (arith, q)) in
    let P : Head → Type 0 = λ h. ArePast file h ps old.read u in (
      old.read,
      read,
      (let q = (count refl).1 in omega (arith, q, read)),
      comes.1 ∙ ap (λ h. record_at file h old.read) (sym e),
      (comes.0).stands.end_is ∙ ap (λ n. end_before file new.head n) read,
      subst P (sym e) past,
    )
shows_next Ended old new left file ps u g e count past comes =
    let P : Head → Type 0 = λ h. ArePast file h ps h.records u in
    let Q : ℕ → Type 0 = λ n. ArePast file old.head ps n u in
    subst P (sym e) (subst Q comes.5 past)

pub stands_next : (s : Status) (old new : Reader) (left file : List ℕ) → IsGoing s → Comes (is_current s) old new left file → IsOpen s → StandsIn new left file
stands_next Begun old new left file g comes o = absurd g
stands_next (Stopped x) old new left file g comes o = absurd g
stands_next Current old new left file g comes o = comes.0
stands_next Ended old new left file g comes o = absurd o

pub ended_next : (s : Status) (old new : Reader) (left file : List ℕ) → IsGoing s → new.head ≡ old.head → Comes (is_current s) old new left file → s ≡ Ended
    → (body_fault file new.head ≡ None) × Conforms file new.head × (left ≡ []) × (new.read ≡ (new.head).records) × (new.ended ≡ end_before file new.head (new.head).records)
ended_next Begun old new left file g e comes o = absurd g
ended_next (Stopped x) old new left file g e comes o = absurd g
ended_next Current old new left file g e comes o = absurd (let f : Current ≡ Ended = o in cc)
ended_next Ended old new left file g e comes o =
    let ended : new.ended ≡ end_before file old.head (old.head).records =
    (comes.0).stands.end_is ∙ ap (λ h. end_before file h new.read) e ∙ ap (end_before file old.head) comes.1 in
    let P : Head → Type 0 = λ h. (body_fault file h ≡ None) × Conforms file h × (left ≡ []) × (new.read ≡ h.records) × (new.ended ≡ end_before file h h.records) in
    subst P (sym e) (comes.2, comes.3, comes.4, comes.1, ended)

pub gathered_append : (claim : Option ClaimValue) (ps : ℤ) (xs ys : List NoteValue) → gathered_of claim ps (xs ++ ys) ≡ gathered_of claim ps xs ++ gathered_of claim ps ys
gathered_append claim ps xs ys = counted_parts claim ps xs ys

-- one annotation that counts, and one that doesn't
pub gathered_one : (claim : Option ClaimValue) (ps : ℤ) (n : NoteValue) (text : List ℕ) → Some text ≡ counted_text claim (ps +ℤ n.onset) n.text
    → record { onset = ps +ℤ n.onset; duration = n.duration; text = text } ∷ [] ≡ gathered_of claim ps (n ∷ [])
gathered_one None ps n text e = let same : text ≡ n.text = cc in ap (λ t. record { onset = ps +ℤ n.onset; duration = n.duration; text = t } ∷ []) same
gathered_one (Some claim) ps n text e = kept (keeps_annotation claim (ps +ℤ n.onset) n.text) e
  where
    at : NoteValue
    at = moved_by ps n

    kept : (b : Bool) → Some text ≡ cond b (Some (kept_text claim n.text)) None → record { onset = ps +ℤ n.onset; duration = n.duration; text = text } ∷ [] ≡ map (as_kept claim) (cond b (at ∷ []) [])
    kept true e = let same : text ≡ kept_text claim n.text = cc in ap (λ t. record { onset = ps +ℤ n.onset; duration = n.duration; text = t } ∷ []) same
    kept false e = absurd (let z : Some text ≡ None = e in cc)

-- one more that counts, behind those that are held
pub pushed_one : (before after : List Note) (v : Note) (claim : Option ClaimValue) (ps : ℤ) (n : NoteValue) (text : List ℕ) → after ≡ before ++ (v ∷ [])
    → note_value v ≡ record { onset = ps +ℤ n.onset; duration = n.duration; text = text } → Some text ≡ counted_text claim (ps +ℤ n.onset) n.text
    → map note_value after ≡ map note_value before ++ gathered_of claim ps (n ∷ [])
pushed_one before after v claim ps n text items value counts =
    let had : List NoteValue = map note_value before in
    ap (map note_value) items ∙ map-append note_value before (v ∷ []) ∙ ap (λ x. had ++ (x ∷ [])) value ∙ ap (λ more. had ++ more) (gathered_one claim ps n text counts)

pub gathered_none : (claim : Option ClaimValue) (ps : ℤ) (n : NoteValue) → None ≡ counted_text claim (ps +ℤ n.onset) n.text → [] ≡ gathered_of claim ps (n ∷ [])
gathered_none None ps n e = absurd (let z : None ≡ Some n.text = e in cc)
gathered_none (Some claim) ps n e = left (keeps_annotation claim (ps +ℤ n.onset) n.text) e
  where
    at : NoteValue
    at = moved_by ps n

    left : (b : Bool) → None ≡ cond b (Some (kept_text claim n.text)) None → [] ≡ map (as_kept claim) (cond b (at ∷ []) [])
    left true e = absurd (let z : None ≡ Some (kept_text claim n.text) = e in cc)
    left false e = refl

moved-twice : (a b : ℤ) (n : NoteValue) → moved_by a (moved_by b n) ≡ moved_by (b +ℤ a) n
moved-twice a b n = let e : a +ℤ (b +ℤ n.onset) ≡ (b +ℤ a) +ℤ n.onset = omega (arith, ints) in ap (λ onset. record { onset = onset; duration = n.duration; text = n.text }) e

all-moved-twice : (a b : ℤ) (notes : List NoteValue) → map (moved_by a) (map (moved_by b) notes) ≡ map (moved_by (b +ℤ a)) notes
all-moved-twice a b [] = refl
all-moved-twice a b (n ∷ ns) = rw (moved-twice a b n, all-moved-twice a b ns) refl

-- the annotations of a data record, moved at once
pub gathered_here : (claim : Option ClaimValue) (ps : ℤ) (r : Reader) → is_current r.status ≡ true → gathered_in claim ps r ≡ gathered_of claim (file_start r.head +ℤ ps) (notes_in r.head r.current)
unfolding moved_notes_in
gathered_here claim ps r e = rw e (ap (counted_of claim) (all-moved-twice ps (file_start r.head) (notes_in r.head r.current)))

pub gathered_nothing : (claim : Option ClaimValue) (ps : ℤ) (r : Reader) → is_current r.status ≡ false → gathered_in claim ps r ≡ []
gathered_nothing claim ps r e = rw e refl

-- the annotations of one data record more
gathered_next : (s : Status) (old new : Reader) (left file : List ℕ) (claim : Option ClaimValue) (ps : ℤ) (notes notes' : List NoteValue) → IsGoing s → new.status ≡ s → new.head ≡ old.head
    → (is_current s ≡ true → (new.read ≡ old.read + 1) × (new.read ≤ (new.head).records)) → Comes (is_current s) old new left file
    → notes ≡ gathered_of claim ps (moved_notes_before file old.head old.read) → notes' ≡ notes ++ gathered_in claim ps new
    → notes' ≡ gathered_of claim ps (moved_notes_before file new.head new.read)
gathered_next Begun old new left file claim ps notes notes' g same e count comes before now = absurd g
gathered_next (Stopped x) old new left file claim ps notes notes' g same e count comes before now = absurd g
gathered_next Current old new left file claim ps notes notes' g same e count comes before now =
    let read : new.read ≡ suc old.read = (let q = (count refl).0 in omega (arith, q)) in
    let here : gathered_in claim ps new ≡ gathered_of claim ps (moved_notes_in old.head (record_at file old.head old.read)) =
    rw same (ap (λ h. gathered_of claim ps (moved_notes_in h new.current)) e ∙ ap (λ bytes. gathered_of claim ps (moved_notes_in old.head bytes)) comes.1) in
    now ∙ ap (λ ns. ns ++ gathered_in claim ps new) before
    ∙ ap (λ ns. gathered_of claim ps (moved_notes_before file old.head old.read) ++ ns) here
    ∙ sym (gathered_append claim ps (moved_notes_before file old.head old.read) (moved_notes_in old.head (record_at file old.head old.read)))
    ∙ ap (λ h. gathered_of claim ps (moved_notes_before file h (suc old.read))) (sym e)
    ∙ ap (λ k. gathered_of claim ps (moved_notes_before file new.head k)) (sym read)
gathered_next Ended old new left file claim ps notes notes' g same e count comes before now =
    let none : gathered_in claim ps new ≡ [] = rw same refl in
    let read : old.read ≡ new.read = comes.5 ∙ sym comes.1 in
    now ∙ ap (λ ns. notes ++ ns) none ∙ append-nil notes ∙ before
    ∙ ap (λ h. gathered_of claim ps (moved_notes_before file h old.read)) (sym e)
    ∙ ap (λ k. gathered_of claim ps (moved_notes_before file new.head k)) read

pub there_next : (old new : Reader) (left file : List ℕ) → IsGoing new.status → new.head ≡ old.head → Comes (is_current new.status) old new left file → IsThere new left file
there_next old new left file g head comes = record { stands = stands_next new.status old new left file g comes; ended = ended_next new.status old new left file g head comes }

pub at_next : (old new : Reader) (left left' : List ℕ) (notes notes' : List NoteValue) (file : List ℕ) (claim : Option ClaimValue) (ps t u : ℤ) → is_current old.status ≡ true → t ≤ℤ u → ends_at old ps ≤ℤ u → IsGoing new.status → new.head ≡ old.head
    → (is_current new.status ≡ true → (new.read ≡ old.read + 1) × (new.read ≤ (new.head).records)) → notes' ≡ notes ++ gathered_in claim ps new
    → IsAt old left notes file claim ps t → Comes (is_current new.status) old new left' file → IsAt new left' notes' file claim ps u
at_next old new left left' notes notes' file claim ps t u cur l e g head count more at comes =
    let P : Status → Type 0 = λ s. Shows s old file ps t in
    let shown : Shows Current old file ps t = subst P (current_is old.status cur) at.shows in
    record {
      shows = shows_next new.status old new left' file ps u g head count (read_past old file ps t u shown l e) comes;
      there = there_next old new left' file g head comes;
      gathered = gathered_next new.status old new left' file claim ps notes notes' g refl head count comes at.gathered more;
    }

none_gathered : (claim : Option ClaimValue) (ps : ℤ) (file : List ℕ) (h : Head) (k : ℕ) → k ≡ 0 → [] ≡ gathered_of claim ps (moved_notes_before file h k)
none_gathered claim ps file h k e = let P : ℕ → Type 0 = λ j. [] ≡ gathered_of claim ps (moved_notes_before file h j) in subst P (sym e) (gathered_nil claim ps)

-- the first data record, or the end
pub at_first : (old new : Reader) (left : List ℕ) (notes' : List NoteValue) (file : List ℕ) (claim : Option ClaimValue) (ps u : ℤ) → old.read ≡ 0 → IsGoing new.status → new.head ≡ old.head
    → (is_current new.status ≡ true → (new.read ≡ old.read + 1) × (new.read ≤ (new.head).records)) → notes' ≡ gathered_in claim ps new
    → Comes (is_current new.status) old new left file → IsAt new left notes' file claim ps u
at_first old new left notes' file claim ps u none g head count more comes =
    record {
      shows = shows_next new.status old new left file ps u g head count (λ j lt. absurd (omega (arith, lt, none))) comes;
      there = there_next old new left file g head comes;
      gathered = gathered_next new.status old new left file claim ps [] notes' g refl head count comes (none_gathered claim ps file old.head old.read none) more;
    }

-- the first data record of a file comes, as there is one
begins-so : (s : Status) (old new : Reader) (left file : List ℕ) → old.read ≡ 0 → IsGoing s → Comes (is_current s) old new left file → is_current s ≡ true
begins-so Begun old new left file none g comes = absurd g
begins-so (Stopped x) old new left file none g comes = absurd g
begins-so Current old new left file none g comes = refl
begins-so Ended old new left file none g comes =
    let some = ((comes.3).header).standard.some_records in
    let all = comes.5 in
    absurd (omega (arith, some, all, none))

pub begins_with_one : (old new : Reader) (left file : List ℕ) → old.read ≡ 0 → IsGoing new.status → Comes (is_current new.status) old new left file → is_current new.status ≡ true
begins_with_one old new left file none g comes = begins-so new.status old new left file none g comes

pub moves_on : (first old new : Reader) (a b c : Bool) (f g h : Reads) (left left' left'' : List ℕ) (notes notes' notes'' : List NoteValue) (claim : Option ClaimValue) (ps s t u : ℤ)
    → Moves first old a b f g left left' notes notes' claim ps s t → Moves old new b c g h left' left'' notes' notes'' claim ps t u → Moves first new a c f h left left'' notes notes'' claim ps s u
moves_on first old new a b c f g h left left' left'' notes notes' notes'' claim ps s t u p q = record {
  head = q.head ∙ p.head;
  going = q.going;
  ahead = q.ahead;
  honesty = λ x. q.honesty (p.honesty x);
  failures = q.failures ∙ p.failures;
  comes = λ x file at. q.comes (p.honesty x) file (p.comes x file at);
}

-- nobody has read on yet
pub moves_none : (r : Reader) (honest : Bool) (fails : Reads) (left : List ℕ) (notes : List NoteValue) (claim : Option ClaimValue) (ps t : ℤ) → IsGoing r.status → IsAhead r ps t → Moves r r honest honest fails fails left left notes notes claim ps t t
moves_none r honest fails left notes claim ps t going ahead = record { head = refl; going = going; ahead = ahead; honesty = λ x. x; failures = refl; comes = λ x file at. at }

-- the next data record ends later
pub ahead_next : (old new : Reader) (ps u : ℤ) → new.head ≡ old.head → old.ended <ℤ new.ended → u ≤ℤ ends_at old ps → u <ℤ ends_at new ps
ahead_next old new ps u head later reaches =
    let e : file_start new.head ≡ file_start old.head = ap file_start head in
    omega (arith, ints, e, later, reaches)
