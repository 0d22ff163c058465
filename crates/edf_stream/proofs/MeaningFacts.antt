-- What is gathered of the data records that were read.
use Rattle.std.proofs.Common.{◌≡◌, ℕ, suc, ◌+◌, List, ◌++◌, refl, sym, ap, ◌∙◌, arith}
use Rattle.edf_header.specs.Heads.{Head}
use Rattle.edf_stream.specs.records.Records.{record_at}
use Rattle.edf_stream.specs.samples.SamplesReading.{samples_in, samples_before, samples_of}
use Rattle.edf_stream.specs.annotation.Notes.{NoteValue}
use Rattle.edf_stream.specs.annotation.NotesReading.{moved_notes_in, moved_notes_before, notes_of}
use Rattle.edf_stream.specs.declared.samples.sample.Sample.{Sample}
use Rattle.edf_stream.specs.records.Readers.{Reader}

-- one data record more was gathered
one-more : {X : Type 0} (before : Head → ℕ → List X) (here : Head → List ℕ → List X) (file : List ℕ) (old new : Reader) (found more : List X)
    → ((h : Head) (k : ℕ) → before h (suc k) ≡ before h k ++ here h (record_at file h k))
    → new.head ≡ old.head → new.current ≡ record_at file old.head old.read → new.read ≡ old.read + 1
    → found ≡ before old.head old.read → more ≡ found ++ here new.head new.current → more ≡ before new.head new.read
one-more before here file old new found more step head at read is e =
    let next : suc old.read ≡ new.read = omega (arith, read) in
    e ∙ ap (λ xs. xs ++ here new.head new.current) is
    ∙ ap (λ h. before old.head old.read ++ here h new.current) head
    ∙ ap (λ b. before old.head old.read ++ here old.head b) at
    ∙ sym (step old.head old.read)
    ∙ ap (before old.head) next ∙ ap (λ h. before h new.read) (sym head)

pub samples-more : (file : List ℕ) (old new : Reader) (found more : List Sample)
    → new.head ≡ old.head → new.current ≡ record_at file old.head old.read → new.read ≡ old.read + 1
    → found ≡ samples_before file old.head old.read → more ≡ found ++ samples_in new.head new.current → more ≡ samples_before file new.head new.read
samples-more file old new found more = one-more (samples_before file) samples_in file old new found more (λ h k. refl)

pub notes-more : (file : List ℕ) (old new : Reader) (found more : List NoteValue)
    → new.head ≡ old.head → new.current ≡ record_at file old.head old.read → new.read ≡ old.read + 1
    → found ≡ moved_notes_before file old.head old.read → more ≡ found ++ moved_notes_in new.head new.current → more ≡ moved_notes_before file new.head new.read
notes-more file old new found more = one-more (moved_notes_before file) moved_notes_in file old new found more (λ h k. refl)

-- behind the last data record all was gathered
pub all-samples : (file : List ℕ) (h : Head) (k : ℕ) (found : List Sample) → k ≡ h.records → found ≡ samples_before file h k → found ≡ samples_of file h
unfolding samples_of
all-samples file h k found e is = is ∙ ap (samples_before file h) e

pub all-notes : (file : List ℕ) (h : Head) (k : ℕ) (found : List NoteValue) → k ≡ h.records → found ≡ moved_notes_before file h k → found ≡ notes_of file h
unfolding notes_of
all-notes file h k found e is = is ∙ ap (moved_notes_before file h) e
