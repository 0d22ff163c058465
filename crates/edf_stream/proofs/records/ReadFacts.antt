-- What is read of a file that conforms.
use Rattle.std.proofs.Common.{◌≡◌, ℕ, suc, pos, ◌<◌, ◌≤◌, ◌≤ℤ◌, ◌<ℤ◌, ◌+ℤ◌, ◌*ℤ◌, ◌^◌, List, length, refl, sym, ap, ◌∙◌, subst, arith}
use Rattle.edf_header.specs.Heads.{Head}
use Rattle.edf_header.specs.Sound.{IsSound}
use Rattle.edf_header.proofs.ForCallers.{conforming_is_sound}
use Rattle.edf_stream.specs.records.Records.{record_at}
use Rattle.edf_stream.specs.annotation.Notes.{SaysRecord, together}
use Rattle.edf_stream.specs.annotation.NotesReading.{notes_in, notes_before}
use Rattle.edf_stream.specs.samples.Samples.{SampleValue, IsSample}
use Rattle.edf_stream.specs.times.Starts.{file_start}
use Rattle.edf_stream.specs.times.StartsReading.{start_at, end_at}
use Rattle.edf_stream.specs.Conforming.{FollowsOn, Conforms}
use Rattle.edf_stream.specs.Laws.{NotesAreSaid, NotesAreRead, HasItsNotes}
use Rattle.edf_stream.proofs.records.SaidFacts.{read-notes, notes-said, start-is, say-read, together-count, has-read, notes-moved}

pub sound-of : (file : List ℕ) (h : Head) → Conforms file h → IsSound h
sound-of file h c = conforming_is_sound file h c.header

-- a data record says what is read of it
pub says-read : (file : List ℕ) (h : Head) → Conforms file h → (k : ℕ) → k < h.records → SaysRecord h (record_at file h k) (start_at file h k) (notes_in h (record_at file h k))
says-read file h c k lt =
    let bytes = record_at file h k in
    let says = (c.says).say k lt in
    subst (SaysRecord h bytes (start_at file h k)) (notes-said h bytes ((c.says).starts k) ((c.says).notes k) says)
    (subst (λ start. SaysRecord h bytes start ((c.says).notes k)) (start-is h bytes ((c.says).starts k) ((c.says).notes k) says) says)

starts-read : (file : List ℕ) (h : Head) (c : Conforms file h) → (k : ℕ) → k < h.records → (c.says).starts k ≡ start_at file h k
starts-read file h c k lt = start-is h (record_at file h k) ((c.says).starts k) ((c.says).notes k) ((c.says).say k lt)

some-records : (file : List ℕ) (h : Head) → Conforms file h → 0 < h.records
some-records file h c = let some : 1 ≤ h.records = ((c.header).standard).some_records in omega (arith, some)

-- the first one starts in the first second, each other one follows on, and there are not too many annotations
pub starts_late : (file : List ℕ) (h : Head) → Conforms file h → pos 0 ≤ℤ start_at file h 0
starts_late file h c = subst (λ start. pos 0 ≤ℤ start) (starts-read file h c 0 (some-records file h c)) c.not_early

pub starts_early : (file : List ℕ) (h : Head) → Conforms file h → start_at file h 0 <ℤ pos (10 ^ 12)
starts_early file h c = subst (λ start. start <ℤ pos (10 ^ 12)) (starts-read file h c 0 (some-records file h c)) c.in_first_second

pub follows-read : (file : List ℕ) (h : Head) → Conforms file h → (k : ℕ) → suc k < h.records → FollowsOn h.kind (end_at file h k) (start_at file h (suc k))
follows-read file h c k lt =
    subst (FollowsOn h.kind (end_at file h k)) (starts-read file h c (suc k) lt)
    (subst (λ start. FollowsOn h.kind (start +ℤ h.duration) ((c.says).starts (suc k))) (starts-read file h c k (omega (arith, lt))) (c.follows k lt))

pub few-read : (file : List ℕ) (h : Head) → Conforms file h → notes_before file h h.records ≤ 1000000
few-read file h c = subst (λ n. n ≤ 1000000) (ap length (has-read file h c.notes c.says) ∙ together-count file h h.records) c.few

-- the instant of a sample, by the start that is read
pub sample-at : (file : List ℕ) (h : Head) (x : SampleValue) (r : IsSample file h x)
    → (x.instant).num ≡ (pos (x.instant).den *ℤ (file_start h +ℤ start_at file h r.data_record)) +ℤ (pos r.place *ℤ h.duration)
sample-at file h x r =
    r.instant ∙ ap (λ start. (pos (x.instant).den *ℤ (file_start h +ℤ start)) +ℤ (pos r.place *ℤ h.duration)) (start-is h (record_at file h r.data_record) r.start r.notes r.says)

pub notes_are_said : NotesAreSaid
notes_are_said file h c k lt start notes =
    let bytes = record_at file h k in (
      λ says. (start-is h bytes start notes says, notes-said h bytes start notes says),
      λ e. subst (λ s. SaysRecord h bytes s notes) (sym e.0) (subst (SaysRecord h bytes (start_at file h k)) (sym e.1) (says-read file h c k lt)),
    )

pub notes_are_read : NotesAreRead
unfolding read-notes
notes_are_read file h c = record {
  notes = together (read-notes file h) h.records;
  there = record { starts = λ k. start_at file h k; notes = read-notes file h; say = λ k lt. says-read file h c k lt; all_are = refl };
  only = λ others has. has-read file h others has;
  read = notes-moved file h;
}

pub has_its_notes : HasItsNotes
has_its_notes file h c = let r = notes_are_read file h c in (r.notes, r.there, r.only)
