-- How many data records stand before the first fault of a file.
use Rattle.std.proofs.Common.{arith, ◌≡◌, ℕ, zero, suc, ℤ, ◌+◌, ◌-◌, ◌≤◌, Bool, true, false, List, [], ◌∷◌, ◌++◌, length, Option, Some, None, Result, Ok, Err, sym, ap, ◌∙◌, subst, append_assoc}
use Rattle.edf_fields.specs.declared.faults.cause.TalCause.{TalCause}
use Rattle.edf_fields.specs.Tests.{first}
use Rattle.edf_fields.proofs.ForCallers.{first-passed, alone}
use Rattle.edf_fields.specs.declared.faults.fault.Fault.{Fault}
use Rattle.edf_fields.specs.declared.faults.fault.Cause.{Cause}
use Rattle.edf_fields.specs.declared.faults.fault.Place.TheVariants.{AtRecord, AtEnd}
use Rattle.edf_header.specs.Faults.{fault_unless, truncated, header_fault}
use Rattle.edf_header.specs.Heads.{Head}
use Rattle.edf_header.specs.HeadsReading.{head_of}
use Rattle.edf_tal.specs.declared.start.StartCause.{StartCause}
use Rattle.edf_stream.specs.records.Records.{record_at, annotation_lanes}
use Rattle.edf_stream.specs.records.RecordsReading.{record_place}
use Rattle.edf_stream.specs.annotation.NotesReading.{notes_in, notes_before}
use Rattle.edf_stream.specs.times.StartsReading.{said_start, start_in, end_before}
use Rattle.edf_stream.specs.Faults.{cause_of_lanes, lanes_fault, time_fault, start_fault, notes_fault, record_fault, records_tests, trailing_fault, body_fault, file_fault, records_before}
use Rattle.edf_stream.specs.records.Readers.{HasPassed}
use Rattle.edf_stream.proofs.records.RecordFacts.{tests-split}

-- the first of several faults has as many records before it as each of them
one-more : (h : Head) (k : ℕ) (test : Option Fault) (tests : List (Option Fault)) → k ≤ records_before h test → k ≤ records_before h (first tests) → k ≤ records_before h (first (test ∷ tests))
one-more h k None tests this others = others
one-more h k (Some f) tests this others = this

-- a test of record s
tested : (h : Head) (k s : ℕ) (passes : Bool) (cause : Cause) → k ≤ h.records → k ≤ s → k ≤ records_before h (fault_unless passes (AtRecord s) cause)
tested h k s true cause all le = all
tested h k s false cause all le = le

of_lanes : (h : Head) (k s : ℕ) (found : Option TalCause) → k ≤ h.records → k ≤ s → k ≤ records_before h (lanes_fault s found)
unfolding lanes_fault
of_lanes h k s None all le = all
of_lanes h k s (Some cause) all le = le

of_time : (h : Head) (k s : ℕ) (said : Result ℤ StartCause) → k ≤ h.records → k ≤ s → k ≤ records_before h (time_fault s said)
unfolding time_fault
of_time h k s (Ok start) all le = all
of_time h k s (Err cause) all le = le

of_start : (h : Head) (k s : ℕ) (ended start : ℤ) → k ≤ h.records → k ≤ s → k ≤ records_before h (start_fault h.kind s ended start)
unfolding start_fault
of_start h k s ended start all le = tested h k s _ _ all le

of_notes : (h : Head) (k s notes : ℕ) → k ≤ h.records → k ≤ s → k ≤ records_before h (notes_fault s notes)
unfolding notes_fault
of_notes h k s notes all le = tested h k s _ _ all le

of_end : (h : Head) (k s end len : ℕ) → k ≤ h.records → k ≤ s → k ≤ records_before h (truncated (AtRecord s) end len)
unfolding truncated
of_end h k s end len all le = tested h k s _ _ all le

of_record : (h : Head) (k s : ℕ) (ended : ℤ) (notes : ℕ) (bytes : List ℕ) → k ≤ h.records → k ≤ s → k ≤ records_before h (record_fault h s ended notes bytes)
unfolding record_fault
of_record h k s ended notes bytes all le =
    let lanes = lanes_fault s (cause_of_lanes (annotation_lanes h.signals bytes)) in
    let time = time_fault s (said_start h bytes) in
    let start = start_fault h.kind s ended (start_in h bytes) in
    let few = notes_fault s (notes + length (notes_in h bytes)) in
    one-more h k lanes (time ∷ start ∷ few ∷ []) (of_lanes h k s (cause_of_lanes (annotation_lanes h.signals bytes)) all le)
    (one-more h k time (start ∷ few ∷ []) (of_time h k s (said_start h bytes) all le)
    (one-more h k start (few ∷ []) (of_start h k s ended (start_in h bytes) all le)
    (one-more h k few [] (of_notes h k s (notes + length (notes_in h bytes)) all le) all)))

-- the tests of m records from record s on, and others behind them
of_records : (file : List ℕ) (h : Head) (k s m : ℕ) (others : List (Option Fault)) → k ≤ h.records → k ≤ s → k ≤ records_before h (first others)
    → k ≤ records_before h (first (records_tests file h s m ++ others))
of_records file h k s zero others all le rest = rest
of_records file h k s (suc m) others all le rest =
    let whole = truncated (AtRecord s) (record_place h (s + 1)) (length file) in
    let judged = record_fault h s (end_before file h s) (notes_before file h s) (record_at file h s) in
    let more = records_tests file h (s + 1) m ++ others in
    one-more h k whole (judged ∷ more) (of_end h k s (record_place h (s + 1)) (length file) all le)
    (one-more h k judged more (of_record h k s (end_before file h s) (notes_before file h s) (record_at file h s) all le)
    (of_records file h k (s + 1) m others all (let next : k ≤ s + 1 = omega (arith, le) in next) rest))

-- a test of the end
at_end : (h : Head) (k : ℕ) (passes : Bool) (cause : Cause) → k ≤ h.records → k ≤ records_before h (fault_unless passes AtEnd cause)
at_end h k true cause all = all
at_end h k false cause all = all

of_trailing : (file : List ℕ) (h : Head) (k : ℕ) → k ≤ h.records → k ≤ records_before h (trailing_fault file h)
unfolding trailing_fault
of_trailing file h k all = at_end h k _ _ all

-- data records that pass stand before the first fault of what stands behind the header
pub passed_stand_before : (file : List ℕ) (h : Head) (k : ℕ) → HasPassed file h k → k ≤ records_before h (body_fault file h)
unfolding body_fault
passed_stand_before file h k passed =
    let within : k ≤ h.records = passed.within in
    let e : h.records ≡ k + (h.records - k) = omega arith in
    let front = records_tests file h 0 k in
    let back = records_tests file h (0 + k) (h.records - k) in
    let low : k ≤ 0 + k = omega arith in
    let end = trailing_fault file h ∷ [] in
    let last = one-more h k (trailing_fault file h) [] (of_trailing file h k within) within in
    let split : first (records_tests file h 0 h.records ++ end) ≡ first (back ++ end) =
    ap (λ n. first (records_tests file h 0 n ++ end)) e
    ∙ ap (λ (ts : List (Option Fault)). first (ts ++ end)) (tests-split file h 0 k (h.records - k))
    ∙ ap first (append_assoc front back end)
    ∙ first-passed front (back ++ end) passed.records in
    subst (λ o. k ≤ records_before h o) (sym split) (of_records file h k (0 + k) (h.records - k) end within low last)

-- where the header has no fault, the first fault is that of what stands behind it
pub fault_is_of_body : (file : List ℕ) (h : Head) → h ≡ head_of file → header_fault file ≡ None → file_fault file ≡ body_fault file h
unfolding file_fault
fault_is_of_body file h is none =
    ap (λ o. first (o ∷ body_fault file (head_of file) ∷ [])) none ∙ alone (body_fault file (head_of file)) ∙ ap (body_fault file) (sym is)
