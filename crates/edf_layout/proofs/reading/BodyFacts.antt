-- What is kept of a file that conforms.
use Rattle.std.proofs.Common.{◌≡◌, ℕ, suc, ℤ, ◌+◌, ◌<◌, List, [], ◌∷◌, ◌++◌, length, map, slice_get, refl, sym, ap, ◌∙◌, subst, arith}
use Rattle.std.specs.List.Sorted.{IsPermutation, IsSorted}
use Rattle.std.proofs.lemmas.List.{length-map, get_or-map}
use Rattle.std.proofs.lemmas.Option.{slice_get_within}
use Rattle.edf_header.specs.Heads.{Head}
use Rattle.edf_stream.specs.Conforming.{Conforms}
use Rattle.edf_stream.specs.Laws.{NotesAreSaid}
use Rattle.edf_stream.specs.annotation.Notes.{NoteValue, SaysRecord, together}
use Rattle.edf_stream.specs.annotation.NotesReading.{notes_in}
use Rattle.edf_stream.specs.declared.annotation.notes.Note.{Note}
use Rattle.edf_stream.specs.records.Readers.{Reader}
use Rattle.edf_stream.specs.records.Records.{record_at, annotation_lanes}
use Rattle.edf_stream.specs.times.StartsReading.{start_in, start_at}
use Rattle.edf_stream.specs.Views.{note_value}
use Rattle.edf_layout.specs.body.MeaningLaws.{AreInOrder}
use Rattle.edf_layout.specs.body.NoteOrders.{note_cmp}
use Rattle.edf_layout.specs.body.PlainOrders.{HaveStarts, lane_sizes}
use Rattle.edf_layout.specs.declared.whole.file_body.FileBody.{FileBody}
use Rattle.edf_layout.specs.whole.FileBodies.{lanes_kept, notes_kept, IsBody}
use Rattle.edf_layout.specs.whole.KeptLanes.{rows_kept}
use Rattle.edf_layout.proofs.reading.GatheredFacts.{gathered, gathered-count, gathered-at}

-- the annotation lanes and the annotations of data record k
abbrev pub lanes_of : List ℕ → Head → ℕ → List (List ℕ)
lanes_of file h k = annotation_lanes h.signals (record_at file h k)

abbrev pub notes_at : List ℕ → Head → ℕ → List NoteValue
notes_at file h k = notes_in h (record_at file h k)

-- this was kept of the first k data records of a file
pub record IsGathered (file : List ℕ) (h : Head) (k : ℕ) (starts : List ℤ) (lanes : List (List (List ℕ))) (notes : List NoteValue) : Type 0 where
  pub starts_are : starts ≡ gathered (start_at file h) k
  pub lanes_are : lanes ≡ gathered (lanes_of file h) k
  pub notes_are : notes ≡ together (notes_at file h) k

-- of one data record more
one-more : {X : Type 0} (before : Head → ℕ → List X) (here : Head → List ℕ → List X) (file : List ℕ) (old new : Reader) (found more : List X)
    → ((h : Head) (k : ℕ) → before h (suc k) ≡ before h k ++ here h (record_at file h k))
    → new.head ≡ old.head → new.current ≡ record_at file old.head old.read → new.read ≡ old.read + 1
    → found ≡ before old.head old.read → more ≡ found ++ here new.head new.current → more ≡ before new.head new.read
one-more before here file old new found more step head at read is e =
    let next : suc old.read ≡ new.read = omega (arith, read) in
    e ∙ ap (λ xs. xs ++ here new.head new.current) is
    ∙ ap (λ h. before old.head old.read ++ here h new.current) head
    ∙ ap (λ b. before old.head old.read ++ here old.head b) at
    ∙ sym (step old.head old.read)
    ∙ ap (before old.head) next ∙ ap (λ h. before h new.read) (sym head)

pub gathers-more : (file : List ℕ) (old new : Reader) (starts starts' : List ℤ) (lanes lanes' : List (List (List ℕ))) (notes notes' : List NoteValue)
    → new.head ≡ old.head → new.current ≡ record_at file old.head old.read → new.read ≡ old.read + 1 → IsGathered file old.head old.read starts lanes notes
    → starts' ≡ starts ++ start_in new.head new.current ∷ [] → lanes' ≡ lanes ++ annotation_lanes (new.head).signals new.current ∷ [] → notes' ≡ notes ++ notes_in new.head new.current
    → IsGathered file new.head new.read starts' lanes' notes'
gathers-more file old new starts starts' lanes lanes' notes notes' head at read had s l n = record {
  starts_are = one-more (λ h k. gathered (start_at file h) k) (λ h bytes. start_in h bytes ∷ []) file old new starts starts' (λ h k. refl) head at read had.starts_are s;
  lanes_are = one-more (λ h k. gathered (lanes_of file h) k) (λ h bytes. annotation_lanes h.signals bytes ∷ []) file old new lanes lanes' (λ h k. refl) head at read had.lanes_are l;
  notes_are = one-more (λ h k. together (notes_at file h) k) notes_in file old new notes notes' (λ h k. refl) head at read had.notes_are n;
}

-- of none
pub gathers-none : (file : List ℕ) (h : Head) (k : ℕ) (starts : List ℤ) (lanes : List (List (List ℕ))) (notes : List NoteValue) → k ≡ 0 → starts ≡ [] → lanes ≡ [] → notes ≡ []
    → IsGathered file h k starts lanes notes
gathers-none file h k starts lanes notes none s l n = record {
  starts_are = s ∙ ap (gathered (start_at file h)) (sym none);
  lanes_are = l ∙ ap (gathered (lanes_of file h)) (sym none);
  notes_are = n ∙ ap (together (notes_at file h)) (sym none);
}

-- a data record of a file that conforms says this
says-read : NotesAreSaid → (file : List ℕ) (h : Head) → Conforms file h → (k : ℕ) → k < h.records → SaysRecord h (record_at file h k) (start_at file h k) (notes_at file h k)
says-read said file h c k low = (said file h c k low (start_at file h k) (notes_at file h k)).1 (refl, refl)

starts-there : NotesAreSaid → (file : List ℕ) (h : Head) → Conforms file h → HaveStarts file h (gathered (start_at file h) h.records)
starts-there law file h c = record {
  count = gathered-count (start_at file h) h.records;
  said = λ k start e.
      let low = slice_get_within (gathered (start_at file h) h.records) k start e in
      let within : k < h.records = omega (arith, low, gathered-count (start_at file h) h.records) in
      (notes_at file h k, subst (λ s. SaysRecord h (record_at file h k) s (notes_at file h k)) (sym (gathered-at (start_at file h) h.records k start e)) (says-read law file h c k within));
}

-- all of its data records were read
pub body-read : NotesAreSaid → (file : List ℕ) (h : Head) (k : ℕ) (starts : List ℤ) (lanes : List (List (List ℕ))) (notes : List NoteValue) (body : FileBody)
    → Conforms file h → k ≡ h.records → IsGathered file h k starts lanes notes
    → body.starts.items ≡ starts → lanes_kept (lane_sizes h) body ≡ lanes → IsPermutation notes (notes_kept body) → IsBody file h body
body-read law file h k starts lanes notes body c all had s l n =
    let starts-are : body.starts.items ≡ gathered (start_at file h) h.records = s ∙ had.starts_are ∙ ap (gathered (start_at file h)) all in
    let lanes-are : lanes_kept (lane_sizes h) body ≡ gathered (lanes_of file h) h.records = l ∙ had.lanes_are ∙ ap (gathered (lanes_of file h)) all in
    let notes-are : notes ≡ together (notes_at file h) h.records = had.notes_are ∙ ap (together (notes_at file h)) all in
    record {
      conforms = c;
      notes = notes;
      has_notes = record { starts = start_at file h; notes = notes_at file h; say = says-read law file h c; all_are = notes-are };
      rearranged = n;
      has_starts = subst (HaveStarts file h) (sym starts-are) (starts-there law file h c);
      has_lanes = record {
        count = ap length lanes-are ∙ gathered-count (lanes_of file h) h.records;
        said = λ m lanes e. gathered-at (lanes_of file h) h.records m lanes (ap (λ rows. slice_get rows m) (sym lanes-are) ∙ e);
      };
    }

-- annotations that are sorted
pub values-sorted : (notes : List Note) → IsSorted (λ x y. note_cmp (note_value x) (note_value y)) notes → AreInOrder (map note_value notes)
values-sorted [] up k d low high = absurd (omega (arith, high))
values-sorted (x ∷ xs) up k d low high =
    let within : k + 1 < length (x ∷ xs) = (let e = length-map (x ∷ xs) note_value in omega (arith, high, e)) in
    rw (get_or-map note_value (x ∷ xs) (k + 1) x d within, get_or-map note_value (x ∷ xs) k x d (omega (arith, within))) (up k x low within)

-- where there are no starts, no lanes are kept
pub nothing-kept : (sizes : List ℕ) (body : FileBody) → body.starts.items ≡ [] → lanes_kept sizes body ≡ []
nothing-kept sizes body none = ap (λ ss. rows_kept sizes ss body.lanes.items) none
