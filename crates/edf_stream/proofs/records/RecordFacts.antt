-- The tests of data records, one after the other.
use Rattle.std.proofs.Common.{◌≡◌, ℕ, zero, suc, ℤ, pos, ◌+ℤ◌, ◌+◌, ◌-◌, ◌<◌, ◌≤◌, List, [], ◌∷◌, ◌++◌, length, take, drop, Option, Some, None, refl, sym, ap, ◌∙◌, subst, arith, length-take, length-drop, append_assoc, add-one}
use Rattle.std.proofs.Math.Seq.{take-length, take-append_seam}
use Rattle.std.proofs.lemmas.List.{drop-drop}
use Rattle.std.proofs.lemmas.Bool.Decides.{nat_tests}
use Rattle.edf_fields.specs.Tests.{first}
use Rattle.edf_fields.proofs.ForCallers.{first-passed, first-found, alone}
use Rattle.edf_fields.specs.declared.faults.fault.Fault.{Fault}
use Rattle.edf_fields.specs.declared.faults.fault.Place.{Place}
use Rattle.edf_fields.specs.declared.faults.fault.Place.TheVariants.{AtRecord, AtEnd}
use Rattle.edf_fields.specs.declared.faults.fault.Cause.TheVariants.{Truncated, TrailingBytes}
use Rattle.edf_header.specs.Faults.{truncated, header_fault}
use Rattle.edf_header.specs.Conforming.{HeaderConforms}
use Rattle.edf_header.specs.Heads.{Head, header_bytes, record_bytes}
use Rattle.edf_header.specs.HeadsReading.{head_of}
use Rattle.edf_stream.specs.records.Records.{record_at}
use Rattle.edf_stream.specs.records.RecordsReading.{record_place}
use Rattle.edf_stream.specs.annotation.NotesReading.{notes_in, notes_before}
use Rattle.edf_stream.specs.times.StartsReading.{start_in, end_before}
use Rattle.edf_stream.specs.Faults.{record_fault, records_tests, trailing_fault, body_fault}
use Rattle.edf_stream.specs.records.Readers.{HasPassed, StandsAt}
use Rattle.edf_stream.specs.records.Steps.{IsRead}

pub tests-split : (file : List ℕ) (h : Head) (s m n : ℕ) → records_tests file h s (m + n) ≡ records_tests file h s m ++ records_tests file h (s + m) n
tests-split file h s zero n =
    let e : 0 + n ≡ n = omega arith in
    let f : s ≡ s + 0 = omega arith in
    ap (λ k. records_tests file h s k) e ∙ ap (λ k. records_tests file h k n) f
tests-split file h s (suc m) n =
    let e : suc m + n ≡ suc (m + n) = omega arith in
    let f : s + 1 + m ≡ s + suc m = omega arith in
    ap (λ k. records_tests file h s k) e
    ∙ ap
    (λ (ts : List (Option Fault)). truncated (AtRecord s) (record_place h (s + 1)) (length file) ∷ record_fault h s (end_before file h s) (notes_before file h s) (record_at file h s) ∷ ts)
    (tests-split file h (s + 1) m n ∙ ap (λ j. records_tests file h (s + 1) m ++ records_tests file h j n) f)

-- of the records up to record k only the last may have a fault
up_to : (file : List ℕ) (h : Head) (k : ℕ) → HasPassed file h k → first (records_tests file h 0 (k + 1)) ≡ first (records_tests file h k 1)
up_to file h k passed =
    let e : 0 + k ≡ k = omega arith in
    ap first (tests-split file h 0 k 1) ∙ first-passed (records_tests file h 0 k) (records_tests file h (0 + k) 1) passed.records
    ∙ ap (λ j. first (records_tests file h j 1)) e

-- what is found at record k is the first fault
pub fault_at : (file : List ℕ) (h : Head) (k : ℕ) (f : Fault) → HasPassed file h k → k < h.records → first (records_tests file h k 1) ≡ Some f → body_fault file h ≡ Some f
unfolding body_fault
fault_at file h k f passed lt found =
    let e : h.records ≡ (k + 1) + (h.records - (k + 1)) = omega arith in
    let front = records_tests file h 0 (k + 1) in
    let back = records_tests file h (0 + (k + 1)) (h.records - (k + 1)) in
    ap (λ n. first (records_tests file h 0 n ++ trailing_fault file h ∷ [])) e
    ∙ ap (λ (ts : List (Option Fault)). first (ts ++ trailing_fault file h ∷ [])) (tests-split file h 0 (k + 1) (h.records - (k + 1)))
    ∙ ap first (append_assoc front back (trailing_fault file h ∷ []))
    ∙ first-found front (back ++ trailing_fault file h ∷ []) f (up_to file h k passed ∙ found)

pub passed_more : (file : List ℕ) (h : Head) (k : ℕ) → HasPassed file h k → k < h.records → first (records_tests file h k 1) ≡ None → HasPassed file h (k + 1)
passed_more file h k passed lt found = record {
  head = passed.head;
  header = passed.header;
  in_order = passed.in_order;
  within = omega arith;
  records = up_to file h k passed ∙ found;
}

at_end : (file : List ℕ) (h : Head) (k : ℕ) → HasPassed file h k → h.records ≤ k → body_fault file h ≡ trailing_fault file h
unfolding body_fault
at_end file h k passed le =
    let within : k ≤ h.records = passed.within in
    let e : k ≡ h.records = omega arith in
    first-passed (records_tests file h 0 h.records) (trailing_fault file h ∷ []) (ap (λ n. first (records_tests file h 0 n)) (sym e) ∙ passed.records)
    ∙ alone (trailing_fault file h)

pub there : (place : Place) (end len : ℕ) → end ≤ len → truncated place end len ≡ None
unfolding truncated
there place end len h = grind (arith, nat_tests)

missing : (place : Place) (end len : ℕ) → len < end → truncated place end len ≡ Some (record { place = place; cause = Truncated })
unfolding truncated
missing place end len h = grind (arith, nat_tests)

pub ended : (file : List ℕ) (h : Head) → length file ≤ record_place h h.records → trailing_fault file h ≡ None
unfolding trailing_fault
ended file h le = grind (arith, nat_tests)

trailing : (file : List ℕ) (h : Head) → record_place h h.records < length file → trailing_fault file h ≡ Some (record { place = AtEnd; cause = TrailingBytes })
unfolding trailing_fault
trailing file h lt = grind (arith, nat_tests)

-- behind the last record nothing is left
pub ends : (file : List ℕ) (h : Head) (k : ℕ) (end : ℤ) (notes : ℕ) (left : List ℕ) → HasPassed file h k → StandsAt file h k end notes left → h.records ≤ k → left ≡ [] → body_fault file h ≡ None
ends file h k end notes left passed at le none =
    let within : k ≤ h.records = passed.within in
    let e : k ≡ h.records = omega arith in
    let short : length (drop (record_place h k) file) ≡ 0 = ap length (sym at.rest ∙ none) in
    let low : length file ≤ record_place h k = omega (arith, short, length-drop (record_place h k) file) in
    at_end file h k passed le ∙ ended file h (subst (λ n. length file ≤ record_place h n) e low)

-- behind the last record something is left
pub trails : (file : List ℕ) (h : Head) (k : ℕ) (end : ℤ) (notes : ℕ) (left : List ℕ) → HasPassed file h k → StandsAt file h k end notes left → h.records ≤ k → 0 < length left → body_fault file h ≡ Some (record { place = AtEnd; cause = TrailingBytes })
trails file h k end notes left passed at le some =
    let within : k ≤ h.records = passed.within in
    let e : k ≡ h.records = omega arith in
    let high : record_place h k < length file = omega (arith, some, ap length at.rest, length-drop (record_place h k) file) in
    at_end file h k passed le ∙ trailing file h (subst (λ n. record_place h n < length file) e high)

-- fewer bytes are left than a record has
pub cut_short : (file : List ℕ) (h : Head) (k : ℕ) (end : ℤ) (notes got size : ℕ) (left buffer : List ℕ) → StandsAt file h k end notes left → size ≡ record_bytes h → length buffer ≡ size → got < size → take got buffer ≡ take size left
    → first (records_tests file h k 1) ≡ Some (record { place = AtRecord k; cause = Truncated })
cut_short file h k end notes got size left buffer at is full lt front =
    let high : length file < record_place h (k + 1) =
    omega (arith, is, full, lt, at.whole, ap length front, ap length at.rest, length-take got buffer, length-take size left, length-drop (record_place h k) file) in
    first-found (truncated (AtRecord k) (record_place h (k + 1)) (length file) ∷ []) _ _ (ap (λ t. first (t ∷ [])) (missing (AtRecord k) (record_place h (k + 1)) (length file) high))

-- a whole record was read
pub record WasRead (file : List ℕ) (h : Head) (k : ℕ) (left buffer : List ℕ) : Type 0 where
  pub there : truncated (AtRecord k) (record_place h (k + 1)) (length file) ≡ None
  pub is : buffer ≡ record_at file h k
  pub whole : record_place h (k + 1) ≤ length file
  pub rest : left ≡ drop (record_place h (k + 1)) file

pub whole_read : (file : List ℕ) (h : Head) (k : ℕ) (end : ℤ) (notes got size : ℕ) (left rest buffer : List ℕ) → StandsAt file h k end notes left → size ≡ record_bytes h → length buffer ≡ size → size ≤ got → got ≤ size
    → take got buffer ≡ take size left → rest ≡ drop size left → WasRead file h k rest buffer
whole_read file h k end notes got size left rest buffer at is full ge le front behind =
    let same : got ≡ length buffer = omega arith in
    let all : take got buffer ≡ buffer = ap (λ n. take n buffer) same ∙ take-length buffer in
    let next : record_place h k + record_bytes h ≡ record_place h (k + 1) = omega arith in
    let low : record_place h (k + 1) ≤ length file =
    omega (arith, is, full, same, next, at.whole, ap length front, ap length all, ap length at.rest, length-take size left, length-drop (record_place h k) file) in
    record {
      there = there (AtRecord k) (record_place h (k + 1)) (length file) low;
      is = sym all ∙ front ∙ ap (take size) at.rest ∙ ap (λ n. take n (drop (record_place h k) file)) is;
      whole = low;
      rest = behind ∙ ap (drop size) at.rest ∙ ap (λ n. drop n (drop (record_place h k) file)) is ∙ drop-drop (record_bytes h) (record_place h k) file ∙ ap (λ n. drop n file) next;
    }

-- the fault of the bytes is that of the record
one_fault : (file : List ℕ) (h : Head) (k : ℕ) (end : ℤ) (notes : ℕ) (left rest buffer : List ℕ) → StandsAt file h k end notes left → WasRead file h k rest buffer
    → record_fault h k (end_before file h k) (notes_before file h k) (record_at file h k) ≡ record_fault h k end notes buffer
one_fault file h k end notes left rest buffer at read =
    ap (λ e. record_fault h k e (notes_before file h k) (record_at file h k)) (sym at.end_is)
    ∙ ap (λ n. record_fault h k end n (record_at file h k)) (sym at.notes_are)
    ∙ ap (λ bytes. record_fault h k end notes bytes) (sym read.is)

one_test : (file : List ℕ) (h : Head) (k : ℕ) (end : ℤ) (notes : ℕ) (left rest buffer : List ℕ) → StandsAt file h k end notes left → WasRead file h k rest buffer
    → first (records_tests file h k 1) ≡ record_fault h k end notes buffer
one_test file h k end notes left rest buffer at read =
    first-passed (truncated (AtRecord k) (record_place h (k + 1)) (length file) ∷ []) _ (alone (truncated (AtRecord k) (record_place h (k + 1)) (length file)) ∙ read.there)
    ∙ alone (record_fault h k (end_before file h k) (notes_before file h k) (record_at file h k))
    ∙ one_fault file h k end notes left rest buffer at read

pub faulty : (file : List ℕ) (h : Head) (k : ℕ) (end : ℤ) (notes : ℕ) (left rest buffer : List ℕ) (f : Fault) → StandsAt file h k end notes left → WasRead file h k rest buffer
    → record_fault h k end notes buffer ≡ Some f → first (records_tests file h k 1) ≡ Some f
faulty file h k end notes left rest buffer f at read found = one_test file h k end notes left rest buffer at read ∙ found

-- the record passes
pub passes : (file : List ℕ) (h : Head) (k : ℕ) (end next : ℤ) (notes more : ℕ) (left rest buffer : List ℕ) → StandsAt file h k end notes left → WasRead file h k rest buffer
    → record_fault h k end notes buffer ≡ None → next ≡ start_in h buffer +ℤ h.duration → more ≡ notes + length (notes_in h buffer) → IsRead file h k next more rest buffer
passes file h k end next notes more left rest buffer at read none is are = record {
  passes = one_test file h k end notes left rest buffer at read ∙ none;
  is = read.is;
  stands = record {
    end_is = is ∙ ap (λ bytes. start_in h bytes +ℤ h.duration) read.is ∙ ap (end_before file h) (sym (add-one k));
    notes_are = are ∙ ap (λ n. n + length (notes_in h buffer)) at.notes_are ∙ ap (λ bytes. notes_before file h k + length (notes_in h bytes)) read.is ∙ ap (notes_before file h) (sym (add-one k));
    whole = read.whole;
    rest = read.rest;
  };
}

-- behind the header, before the first data record
pub starts_off : (file : List ℕ) (h : Head) (end : ℤ) (notes : ℕ) (left : List ℕ) → h ≡ head_of file → header_fault file ≡ None → HeaderConforms file h → header_bytes h ≤ length file → left ≡ drop (header_bytes h) file
    → end ≡ pos 0 → notes ≡ 0 → HasPassed file h 0 × StandsAt file h 0 end notes left
starts_off file h end notes left is none in_order long rest at so_far =
    let place : header_bytes h ≡ record_place h 0 = omega arith in (
      record { head = is; header = none; in_order = in_order; within = omega arith; records = refl },
      record { end_is = at; notes_are = so_far; whole = omega (arith, place, long); rest = rest ∙ ap (λ n. drop n file) place },
    )

-- a buffer that was written over from its front to its end
pub written_over : (n : ℕ) (new old : List ℕ) → length new ≡ n → take n (new ++ drop (length new) old) ≡ new
written_over n new old e = ap (λ m. take m (new ++ drop (length new) old)) (sym e) ∙ take-append_seam new (drop (length new) old)
