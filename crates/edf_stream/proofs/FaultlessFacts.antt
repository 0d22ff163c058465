-- A file conforms exactly where it has no first fault.
use Rattle.std.proofs.lemmas.Int.{ints}
use Rattle.std.proofs.Common.{◌≤ℤ◌, ◌≡◌, ℕ, zero, suc, ℤ, pos, ◌+◌, ◌-◌, ◌*◌, ◌<◌, ◌≤◌, ◌^◌, nat_le, int_le, int_lt, true, List, [], ◌∷◌, length, drop, None, Ok, refl, sym, ap, ◌∙◌, subst, arith, length-drop}
use Rattle.std.proofs.lemmas.Bool.Decides.{nat_tests, Decides-int_eq}
use Rattle.edf_fields.specs.Tests.{first}
use Rattle.edf_fields.proofs.ForCallers.{first-cons, first-none, pass-cons, pass-append, alone, both-true, le-passes, lt-passes, unless-passed, unless-true}
use Rattle.edf_fields.specs.declared.faults.fault.Place.{Place}
use Rattle.edf_fields.specs.declared.faults.fault.Place.TheVariants.{AtRecord}
use Rattle.edf_header.specs.declared.kind.Kind.{Kind}
use Rattle.edf_header.specs.declared.kind.Kind.TheVariants.{Contiguous, Interrupted}
use Rattle.edf_header.specs.Conforming.{HeaderConforms}
use Rattle.edf_header.specs.Faults.{truncated, header_fault}
use Rattle.edf_header.specs.Heads.{Head, record_bytes}
use Rattle.edf_header.specs.HeadsReading.{head_of}
use Rattle.edf_header.proofs.ForCallers.{passing-conforms, passing_is_conforming, one_head, passing_has_head}
use Rattle.edf_stream.specs.records.Records.{record_at, annotation_lanes}
use Rattle.edf_stream.specs.records.RecordsReading.{record_place}
use Rattle.edf_stream.specs.annotation.NotesReading.{notes_in, notes_before}
use Rattle.edf_stream.specs.times.StartsReading.{said_start, start_in, start_at, end_at, end_before}
use Rattle.edf_stream.specs.Faults.{cause_of_lanes, lanes_fault, time_fault, may_start, start_fault, notes_fault, record_fault, records_tests, trailing_fault, body_fault, file_fault}
use Rattle.edf_stream.specs.Conforming.{FollowsOn, Conforms}
use Rattle.edf_stream.specs.Laws.{ConformingIsFaultless, RecordsFollowOn}
use Rattle.edf_stream.proofs.annotation.ItemFacts.{lanes-none}
use Rattle.edf_stream.proofs.ConformFacts.{conforms}
use Rattle.edf_stream.proofs.records.ReadFacts.{starts_late, starts_early, follows-read, few-read, says-read}
use Rattle.edf_stream.proofs.records.RecordFacts.{there, ended}
use Rattle.edf_stream.proofs.records.SaidFacts.{lanes-said, start-said}

-- the header of a file that conforms
pub head-is : (file : List ℕ) (h : Head) → HeaderConforms file h → (header_fault file ≡ None) × (h ≡ head_of file)
head-is file h in_order =
    let none = (passing_is_conforming file).1 (h, in_order) in
    (none, one_head file h (head_of file) in_order.head (passing_has_head file none))

-- the tests of one data record
lanes-pass : (k : ℕ) → lanes_fault k None ≡ None
unfolding lanes_fault
lanes-pass k = refl

time-passes : (k : ℕ) (start : ℤ) → time_fault k (Ok start) ≡ None
unfolding time_fault
time-passes k start = refl

start-passes : (kind : Kind) (k : ℕ) (before start : ℤ) → may_start kind k before start ≡ true → start_fault kind k before start ≡ None
unfolding start_fault
start-passes kind k before start e = unless-true (may_start kind k before start) _ e

notes-pass : (k notes : ℕ) → notes ≤ 1000000 → notes_fault k notes ≡ None
unfolding notes_fault
notes-pass k notes le = let t : nat_le notes 1000000 ≡ true = grind (arith, nat_tests) in unless-true (nat_le notes 1000000) _ t

follows-passes : (kind : Kind) (k : ℕ) (before start : ℤ) → FollowsOn kind before start → may_start kind (suc k) before start ≡ true
follows-passes Contiguous k before start e = (Decides-int_eq start before).1 e
follows-passes Interrupted k before start le = le-passes before start le

may : (file : List ℕ) (h : Head) (k : ℕ) → Conforms file h → k < h.records → may_start h.kind k (end_before file h k) (start_at file h k) ≡ true
may file h zero c lt =
    both-true (int_le (pos 0) (start_at file h 0)) (int_lt (start_at file h 0) (pos (10 ^ 12))) (le-passes (pos 0) (start_at file h 0) (starts_late file h c)) (lt-passes (start_at file h 0) (pos (10 ^ 12)) (starts_early file h c))
may file h (suc k) c lt = follows-passes h.kind k (end_at file h k) (start_at file h (suc k)) (follows-read file h c k lt)

notes-rise : (file : List ℕ) (h : Head) (k m : ℕ) → notes_before file h k ≤ notes_before file h (k + m)
notes-rise file h k zero = let e : k + 0 ≡ k = omega arith in subst (λ n. notes_before file h k ≤ notes_before file h n) (sym e) (omega arith)
notes-rise file h k (suc m) =
    let e : suc (k + m) ≡ k + suc m = omega arith in
    let r = notes-rise file h k m in
    subst (λ n. notes_before file h k ≤ notes_before file h n) e (omega (arith, r))

record-passes : (file : List ℕ) (h : Head) (k : ℕ) → Conforms file h → k < h.records → record_fault h k (end_before file h k) (notes_before file h k) (record_at file h k) ≡ None
unfolding record_fault
record-passes file h k c lt =
    let bytes = record_at file h k in
    let lanes = annotation_lanes h.signals bytes in
    let says = says-read file h c k lt in
    let e : suc k + (h.records - suc k) ≡ h.records = omega (arith, lt) in
    let r = notes-rise file h (suc k) (h.records - suc k) in
    let few : notes_before file h (suc k) ≤ 1000000 = (let all : notes_before file h (suc k + (h.records - suc k)) ≤ 1000000 = subst (λ n. notes_before file h n ≤ 1000000) (sym e) (few-read file h c) in omega (arith, r, all)) in
    pass-cons (lanes_fault k (cause_of_lanes lanes)) _ (ap (lanes_fault k) (lanes-none lanes (lanes-said h bytes (start_at file h k) (notes_in h bytes) says)) ∙ lanes-pass k)
    (pass-cons (time_fault k (said_start h bytes)) _ (ap (time_fault k) (start-said h bytes (start_at file h k) (notes_in h bytes) says) ∙ time-passes k (start_at file h k))
    (pass-cons (start_fault h.kind k (end_before file h k) (start_in h bytes)) _ (start-passes h.kind k (end_before file h k) (start_at file h k) (may file h k c lt))
    (pass-cons (notes_fault k (notes_before file h k + length (notes_in h bytes))) [] (notes-pass k (notes_before file h k + length (notes_in h bytes)) few) refl)))

-- the tests of all of them
records-pass : (file : List ℕ) (h : Head) (s n : ℕ)
    → ((j : ℕ) → j < n → (truncated (AtRecord (s + j)) (record_place h (s + j + 1)) (length file) ≡ None) × (record_fault h (s + j) (end_before file h (s + j)) (notes_before file h (s + j)) (record_at file h (s + j)) ≡ None))
    → first (records_tests file h s n) ≡ None
records-pass file h s zero each = refl
records-pass file h s (suc n) each =
    let z : s + 0 ≡ s = omega arith in
    let here = each 0 (omega arith) in
    let whole : truncated (AtRecord s) (record_place h (s + 1)) (length file) ≡ None = subst (λ m. truncated (AtRecord m) (record_place h (m + 1)) (length file) ≡ None) z here.0 in
    let passes : record_fault h s (end_before file h s) (notes_before file h s) (record_at file h s) ≡ None =
    subst (λ m. record_fault h m (end_before file h m) (notes_before file h m) (record_at file h m) ≡ None) z here.1 in
    pass-cons (truncated (AtRecord s) (record_place h (s + 1)) (length file)) _ whole
    (pass-cons (record_fault h s (end_before file h s) (notes_before file h s) (record_at file h s)) (records_tests file h (s + 1) n) passes
    (records-pass file h (s + 1) n (λ j lt.
    let e : s + suc j ≡ s + 1 + j = omega arith in
    subst (λ m. (truncated (AtRecord m) (record_place h (m + 1)) (length file) ≡ None) × (record_fault h m (end_before file h m) (notes_before file h m) (record_at file h m) ≡ None)) e (each (suc j) (omega (arith, lt))))))

fits : (h : Head) (j size : ℕ) → j < h.records → size ≡ record_place h h.records → record_place h (j + 1) ≤ size
fits h j size lt e =
    let more : ℕ = h.records - (j + 1) in
    let all : h.records ≡ (j + 1) + more = omega (arith, lt) in
    let f : record_place h h.records ≡ record_place h (j + 1) + more * record_bytes h = ap (record_place h) all ∙ (let g : record_place h ((j + 1) + more) ≡ record_place h (j + 1) + more * record_bytes h = omega arith in g) in
    omega (arith, e, f)

body-passes : (file : List ℕ) (h : Head) → Conforms file h → body_fault file h ≡ None
unfolding body_fault
body-passes file h c =
    pass-append (records_tests file h 0 h.records) (trailing_fault file h ∷ [])
    (records-pass file h 0 h.records (λ j lt.
    let e : 0 + j ≡ j = omega arith in
    subst (λ m. (truncated (AtRecord m) (record_place h (m + 1)) (length file) ≡ None) × (record_fault h m (end_before file h m) (notes_before file h m) (record_at file h m) ≡ None)) (sym e)
    (there (AtRecord j) (record_place h (j + 1)) (length file) (fits h j (length file) lt c.size), record-passes file h j c lt)))
    (alone (trailing_fault file h) ∙ ended file h (let s = c.size in omega (arith, s)))

faultless : (file : List ℕ) (h : Head) → Conforms file h → file_fault file ≡ None
unfolding file_fault
faultless file h c =
    let is = head-is file h c.header in
    pass-cons (header_fault file) (body_fault file (head_of file) ∷ []) is.0
    (alone (body_fault file (head_of file)) ∙ ap (body_fault file) (sym is.1) ∙ body-passes file h c)

-- behind records that pass the file is that long
reaches : (place : Place) (end len : ℕ) → truncated place end len ≡ None → end ≤ len
unfolding truncated
reaches place end len e = let t : nat_le end len ≡ true = unless-passed (nat_le end len) _ e in grind (arith, nat_tests)

stops : (file : List ℕ) (h : Head) → trailing_fault file h ≡ None → length file ≤ record_place h h.records
unfolding trailing_fault
stops file h e = let t : nat_le (length file) (record_place h h.records) ≡ true = unless-passed (nat_le (length file) (record_place h h.records)) _ e in grind (arith, nat_tests)

whole-to : (file : List ℕ) (h : Head) (s n : ℕ) → 1 ≤ n → first (records_tests file h s n) ≡ None → record_place h (s + n) ≤ length file
whole-to file h s zero some e = absurd (omega (arith, some))
whole-to file h s (suc zero) some e =
    reaches (AtRecord s) (record_place h (s + 1)) (length file) (first-cons (truncated (AtRecord s) (record_place h (s + 1)) (length file)) (record_fault h s (end_before file h s) (notes_before file h s) (record_at file h s) ∷ []) e).0
whole-to file h s (suc (suc n)) some e =
    let fault = record_fault h s (end_before file h s) (notes_before file h s) (record_at file h s) in
    let two = first-cons (truncated (AtRecord s) (record_place h (s + 1)) (length file)) (fault ∷ records_tests file h (s + 1) (suc n)) e in
    let one = first-cons fault (records_tests file h (s + 1) (suc n)) two.1 in
    let z : s + 1 + suc n ≡ s + suc (suc n) = omega arith in
    subst (λ m. record_place h m ≤ length file) z (whole-to file h (s + 1) (suc n) (omega arith) one.1)

empty : (xs : List ℕ) → length xs ≡ 0 → xs ≡ []
empty [] e = refl
empty (x ∷ xs) e = absurd (omega (arith, e))

conforming : (file : List ℕ) → file_fault file ≡ None → Conforms file (head_of file)
unfolding file_fault body_fault
conforming file e =
    let h = head_of file in
    let parts = first-cons (header_fault file) (body_fault file h ∷ []) e in
    let in_order = passing-conforms file parts.0 in
    let body = first-none (records_tests file h 0 h.records) (trailing_fault file h ∷ []) (sym (alone (body_fault file h)) ∙ parts.1) in
    let trailing : trailing_fault file h ≡ None = sym (alone (trailing_fault file h)) ∙ body.1 in
    let some : 1 ≤ h.records = (in_order.standard).some_records in
    let z : 0 + h.records ≡ h.records = omega arith in
    let long : record_place h h.records ≤ length file = subst (λ m. record_place h m ≤ length file) z (whole-to file h 0 h.records some body.0) in
    let low = stops file h trailing in
    let over : drop (record_place h h.records) file ≡ [] = empty (drop (record_place h h.records) file) (omega (arith, low, length-drop (record_place h h.records) file)) in
    conforms file h h.records (end_before file h h.records) (notes_before file h h.records) (drop (record_place h h.records) file) some
    (record { head = refl; header = parts.0; in_order = in_order; within = omega arith; records = body.0 })
    (record { end_is = refl; notes_are = refl; whole = long; rest = refl }) (omega arith) over

pub conforming_is_faultless : ConformingIsFaultless
conforming_is_faultless file = (λ e. (head_of file, conforming file e), λ found. faultless file found.0 found.1)

-- no data record starts before the one before it ends
not-before : (kind : Kind) (before start : ℤ) → FollowsOn kind before start → before ≤ℤ start
not-before Contiguous before start e = omega (arith, ints, e)
not-before Interrupted before start le = le

pub records_follow_on : RecordsFollowOn
records_follow_on file h c k lt = not-before h.kind (end_at file h k) (start_at file h (suc k)) (follows-read file h c k lt)
