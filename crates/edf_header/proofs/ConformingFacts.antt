-- A header has no fault exactly where it is in order.
use Rattle.std.proofs.Common.{◌≡◌, ℕ, zero, suc, ℤ, pos, negsuc, ◌+◌, ◌*◌, ◌≤◌, ◌<◌, ◌≤ℤ◌, ◌&&◌, ◌||◌, not, nat_le, Bool, true, false, cond, List, [], ◌∷◌, ◌++◌, length, take, drop, slice_get, unwrap_or, option_map, Some, None, codes, refl, sym, ap, ◌∙◌, subst, arith, ◌≢◌}
use Rattle.edf_header.proofs.PartsFacts.{HeaderInParts, in_parts, from_parts, head_in_parts}
use Rattle.std.specs.Prelude.{◌*ℤ◌}
use Rattle.edf_fields.specs.texts.Numbers.{SpellsWhole}
use Rattle.std.specs.List.{All, list_any, list_all, position_from}
use Rattle.std.specs.Option.{is_some}
use Rattle.std.specs.Ordering.{int_eq}
use Rattle.std.specs.Str.{bytes_eq}
use Rattle.std.proofs.lemmas.Bool.Decides.{Decides-int_eq}
use Rattle.std.proofs.lemmas.Int.{ints}
use Rattle.std.proofs.lemmas.List.{length-take, length-drop}
use Rattle.std.proofs.lemmas.Slice.Eq.{bytes_eq-Decides}
use Rattle.edf_fields.specs.Parts.{text_of}
use Rattle.edf_fields.specs.texts.NumbersReading.{whole_number_of, SpellsWholeNumber}
use Rattle.edf_fields.specs.texts.Dates.{NamesDashedDay}
use Rattle.edf_fields.specs.texts.DatesReading.{clock_time_of}
use Rattle.edf_fields.specs.texts.Printable.{IsPrintable}
use Rattle.edf_fields.specs.texts.PrintableReading.{is_printable}
use Rattle.edf_fields.proofs.ForCallers.{le_decided, clock_time_read, patient_or_cause, recording_or_cause, whole_number_of-spelled, header_number_of-spelled, whole_number_of-some, first-none, first-cons, and-true, not-true, pass-cons, pass-append, not-is, printable_decided, whole_in, from_picoseconds}
use Rattle.edf_fields.specs.declared.faults.fault.Place.{Place}
use Rattle.edf_fields.specs.declared.faults.fault.Place.TheVariants.{AtField, AtSignal}
use Rattle.edf_fields.specs.declared.faults.fault.Cause.TheVariants.{NotPrintable, Truncated, BadVersion, BadHeaderSize, NoAnnotationSignal, NoOrdinarySignal, DuplicateLabel, RecordTooLarge}
use Rattle.edf_fields.specs.declared.fields.layout.FixedField.{FixedField}
use Rattle.edf_fields.specs.declared.fields.layout.FixedField.TheVariants as fixed
use Rattle.edf_fields.specs.declared.fields.layout.SignalField.{SignalField}
use Rattle.edf_fields.specs.declared.fields.layout.SignalField.TheVariants as signal
use Rattle.edf_header.specs.signals.Channels.{channels_among}
use Rattle.edf_header.specs.signals.ChannelsReading.{is_channel_of, label_at, is_repeated, IsChannel, HasDistinctChannels}
use Rattle.edf_fields.specs.fields.Layout.{fixed_field}
use Rattle.edf_fields.specs.fields.LayoutReading.{fixed_fields, columns, fixed_from, fixed_bytes, column_before, column_width, fixed_part, columns_part, column_field}
use Rattle.edf_header.specs.Heads.{SignalHead, Head, NamesStartdate, HasSignal, header_bytes, is_annotations, samples_together}
use Rattle.edf_header.specs.HeadsReading.{count_of, line_of, recording_in, signals_of, signals_in, head_of}
use Rattle.edf_header.specs.Faults.{truncated, fault_unless, not_printable, no_number, version_fault, patient_fault, recording_fault, startdate_fault, starttime_fault, header_bytes_fault, reserved_fault, records_fault, duration_fault, signals_fault, header_size_fault, text_fault, physical_fault, digital_fault, samples_fault, naming_faults, extreme_faults, sampling_faults, agreement_faults, signal_faults, no_annotation_signal, no_ordinary_signal, label_fault, labels_faults, record_too_large, joint_faults, fixed_missing, start_faults, extent_faults, fixed_tests, column_missing, columns_missing, signals_faults, columns_tests, header_fault}
use Rattle.edf_fields.specs.Tests.{first}
use Rattle.edf_header.specs.Conforming.{HeaderConforms}
use Rattle.edf_header.specs.ConformingLaws.{PassingIsConforming, ConformingIsSound}
use Rattle.edf_header.specs.Sound.{IsSound}
use Rattle.edf_header.specs.Standard.{IsSoundSignal}
use Rattle.edf_header.proofs.PassedFacts.{fault_unless-passed, number-passed}
use Rattle.edf_header.proofs.fixed_part.StartdateFacts.{SayTheSame, startdate-read, same-passes}
use Rattle.edf_header.proofs.PassingFacts.{fault_unless-true, version-passes, patient-passes, recording-passes, startdate-passes, starttime-passes, header_bytes-passes, reserved-passes, records-passes, duration-passes, signals-passes, header_size-passes, signals-pass-tests}
use Rattle.edf_header.proofs.in_columns.ColumnFacts.{there, column-whole}
use Rattle.edf_header.proofs.signals.ChannelFacts.{get-within, any-at, none-among, channels_distinct}
use Rattle.edf_header.proofs.SaidFacts.{recording_is}
use Rattle.edf_header.proofs.signals.SignalFacts.{length-signals}
use Rattle.edf_header.proofs.HeadFacts.{FixedPasses, fixed-passes, signals-passed, head-read, has-head, sound-head}

annotation-passes : (signals : List SignalHead) → list_any (λ signal. is_annotations signal.label) signals ≡ true → no_annotation_signal signals ≡ None
unfolding no_annotation_signal
annotation-passes signals h = fault_unless-true (list_any (λ signal. is_annotations signal.label) signals) (AtField fixed.Signals) NoAnnotationSignal h

channel-passes : (signals : List SignalHead) → channels_among signals ≢ [] → no_ordinary_signal signals ≡ None
unfolding no_ordinary_signal
channel-passes signals h =
    let p : SignalHead → Bool = λ head. is_annotations head.label in
    fault_unless-true (not (list_all p signals)) (AtField fixed.Signals) NoOrdinarySignal (not-is (list_all p signals) (λ all. h (none-among signals all)))

-- a member that is found
found-at : (p : SignalHead → Bool) (signals : List SignalHead) (k : ℕ) → is_some (position_from p k signals) ≡ true → (s : ℕ) × (head : SignalHead) × (slice_get signals s ≡ Some head) × (p head ≡ true)
found-at p [] k h = absurd (let z : false ≡ true = h in cc)
found-at p (x ∷ signals) k h = found-case (p x) refl h (λ q. found-at p signals (k + 1) q)
  where
    found-case : (b : Bool) → p x ≡ b → is_some (cond b (Some k) (position_from p (k + 1) signals)) ≡ true
        → (is_some (position_from p (k + 1) signals) ≡ true → (s : ℕ) × (head : SignalHead) × (slice_get signals s ≡ Some head) × (p head ≡ true))
        → (s : ℕ) × (head : SignalHead) × (slice_get (x ∷ signals) s ≡ Some head) × (p head ≡ true)
    found-case true e q more = (0, x, refl, e)
    found-case false e q more = let r = more q in (suc r.0, r.1, r.2, r.3)

taken-there : (xs : List SignalHead) (t s : ℕ) (x : SignalHead) → slice_get (take t xs) s ≡ Some x → (s < t) × (slice_get xs s ≡ Some x)
taken-there [] zero s x e = absurd (let z : None ≡ Some x = e in cc)
taken-there [] (suc t) s x e = absurd (let z : None ≡ Some x = e in cc)
taken-there (y ∷ xs) zero s x e = absurd (let z : None ≡ Some x = e in cc)
taken-there (y ∷ xs) (suc t) zero x e = (omega arith, e)
taken-there (y ∷ xs) (suc t) (suc s) x e = let r = taken-there xs t s x e in let lt = r.0 in (omega (arith, lt), r.1)

get-some : (xs : List SignalHead) (s : ℕ) → s < length xs → (x : SignalHead) × (slice_get xs s ≡ Some x)
get-some [] s lt = absurd (omega arith)
get-some (x ∷ xs) zero lt = (x, refl)
get-some (x ∷ xs) (suc s) lt = get-some xs s (omega arith)

-- the label of a signal isn't repeated
label-alone : (signals : List SignalHead) (s : ℕ) → HasDistinctChannels signals → s < length signals → is_repeated signals s ≡ true → ⊥
label-alone signals s distinct lt h =
    let here = get-some signals s lt in
    let label : List ℕ = label_at signals s in
    let named : (here.0).label ≡ label = sym (ap (λ o. unwrap_or (option_map (λ (y : SignalHead). y.label) o) []) here.1) in
    let r = found-at (is_channel_of label) (take s signals) 0 h in
    let there = taken-there signals s r.0 r.1 r.2 in
    let both = and-true (bytes_eq (r.1).label label) (not (is_annotations (r.1).label)) r.3 in
    let same : (r.1).label ≡ label = (bytes_eq-Decides (r.1).label label).0 both.0 in
    let ordinary : is_annotations label ≡ false = ap is_annotations (sym same) ∙ not-true (is_annotations (r.1).label) both.1 in
    let first-one : IsChannel signals r.0 label = (r.1, there.1, (same, ordinary)) in
    let second : IsChannel signals s label = (here.0, here.1, (named, ordinary)) in
    let e : r.0 ≡ s = distinct r.0 s label first-one second in
    let before = there.0 in
    absurd (omega (arith, e, before))

labels-pass : (signals : List SignalHead) (s m : ℕ) → HasDistinctChannels signals → s + m ≤ length signals → first (labels_faults signals s m) ≡ None
unfolding label_fault
labels-pass signals s zero distinct within = refl
labels-pass signals s (suc m) distinct within =
    pass-cons (label_fault signals s) (labels_faults signals (s + 1) m)
    (fault_unless-true (not (is_repeated signals s)) (AtSignal s signal.Label) DuplicateLabel (not-is (is_repeated signals s) (label-alone signals s distinct (omega arith))))
    (labels-pass signals (s + 1) m distinct (omega arith))

small-passes : (signals : List SignalHead) → 2 * samples_together signals ≤ 16777216 → record_too_large signals ≡ None
unfolding record_too_large
small-passes signals h =
    fault_unless-true (nat_le (samples_together signals) 8388608) (AtField fixed.Signals) RecordTooLarge ((le_decided (samples_together signals) 8388608).1 (omega (arith, h)))

joint-passes : (signals : List SignalHead) → list_any (λ signal. is_annotations signal.label) signals ≡ true → channels_among signals ≢ [] → HasDistinctChannels signals → 2 * samples_together signals ≤ 16777216
    → first (joint_faults signals) ≡ None
joint-passes signals annotations channel distinct small =
    let labels = labels_faults signals 0 (length signals) in
    pass-cons (no_annotation_signal signals) (no_ordinary_signal signals ∷ (labels ++ (record_too_large signals ∷ []))) (annotation-passes signals annotations)
    (pass-cons (no_ordinary_signal signals) (labels ++ (record_too_large signals ∷ [])) (channel-passes signals channel)
    (pass-append labels (record_too_large signals ∷ []) (labels-pass signals 0 (length signals) distinct (omega arith))
    (pass-cons (record_too_large signals) [] (small-passes signals small) refl)))

-- all of the fixed part is there
fixed-end : (field : FixedField) → fixed_from field + fixed_bytes field ≤ 256
fixed-end fixed.Version = omega arith
fixed-end fixed.Patient = omega arith
fixed-end fixed.Recording = omega arith
fixed-end fixed.Startdate = omega arith
fixed-end fixed.Starttime = omega arith
fixed-end fixed.HeaderBytes = omega arith
fixed-end fixed.Reserved = omega arith
fixed-end fixed.Records = omega arith
fixed-end fixed.Duration = omega arith
fixed-end fixed.Signals = omega arith

fixed-there : (fields : List FixedField) (len : ℕ) → 256 ≤ len → first (fixed_missing fields len) ≡ None
fixed-there [] len h = refl
fixed-there (field ∷ fields) len h =
    let end = fixed-end field in
    pass-cons (truncated (AtField field) (fixed_from field + fixed_bytes field) len) (fixed_missing fields len)
    (there (AtField field) (fixed_from field + fixed_bytes field) len (omega (arith, end, h))) (fixed-there fields len h)

-- all of the columns are there
column-end : (field : SignalField) (n : ℕ) → column_before field * n + column_width field * (0 + n) ≤ 256 * n
column-end signal.Label n = omega arith
column-end signal.Transducer n = omega arith
column-end signal.Dimension n = omega arith
column-end signal.PhysicalMinimum n = omega arith
column-end signal.PhysicalMaximum n = omega arith
column-end signal.DigitalMinimum n = omega arith
column-end signal.DigitalMaximum n = omega arith
column-end signal.Prefilter n = omega arith
column-end signal.Samples n = omega arith
column-end signal.Reserved n = omega arith

columns-there : (fields : List SignalField) (n len : ℕ) → 256 * n ≤ len → first (columns_missing fields n len) ≡ None
columns-there [] n len h = refl
columns-there (field ∷ fields) n len h =
    let end = column-end field n in
    pass-append (column_missing field n 0 n len) (columns_missing fields n len)
    (column-whole field n 0 n len (omega (arith, end, h))) (columns-there fields n len h)

-- a test of the length that passed
there-back : (place : Place) (end len : ℕ) → truncated place end len ≡ None → end ≤ len
unfolding truncated
there-back place end len h = (le_decided end len).0 (fault_unless-passed (nat_le end len) place Truncated h)

fixed-back : (before : List FixedField) (field : FixedField) (len : ℕ) → first (fixed_missing (before ++ field ∷ []) len) ≡ None → fixed_from field + fixed_bytes field ≤ len
fixed-back [] field len h =
    there-back (AtField field) (fixed_from field + fixed_bytes field) len (first-cons (truncated (AtField field) (fixed_from field + fixed_bytes field) len) [] h).0
fixed-back (other ∷ before) field len h =
    fixed-back before field len (first-cons (truncated (AtField other) (fixed_from other + fixed_bytes other) len) (fixed_missing (before ++ field ∷ []) len) h).1

fixed-all : (len : ℕ) → first (fixed_missing fixed_fields len) ≡ None → 256 ≤ len
fixed-all len h =
    fixed-back (fixed.Version ∷ fixed.Patient ∷ fixed.Recording ∷ fixed.Startdate ∷ fixed.Starttime ∷ fixed.HeaderBytes ∷ fixed.Reserved ∷ fixed.Records ∷ fixed.Duration ∷ []) fixed.Signals len h

column-back : (field : SignalField) (n s m len : ℕ) → first (column_missing field n s (suc m) len) ≡ None → column_before field * n + column_width field * (s + suc m) ≤ len
column-back field n s zero len h =
    there-back (AtSignal s field) (column_before field * n + column_width field * (s + 1)) len (first-cons (truncated (AtSignal s field) (column_before field * n + column_width field * (s + 1)) len) [] h).0
column-back field n s (suc m) len h =
    let rest = first-cons (truncated (AtSignal s field) (column_before field * n + column_width field * (s + 1)) len) (column_missing field n (s + 1) (suc m) len) h in
    let same : s + 1 + suc m ≡ s + suc (suc m) = omega arith in
    subst (λ k. column_before field * n + column_width field * k ≤ len) same (column-back field n (s + 1) m len rest.1)

columns-back : (before : List SignalField) (field : SignalField) (m len : ℕ) → first (columns_missing (before ++ field ∷ []) (suc m) len) ≡ None
    → column_before field * suc m + column_width field * (0 + suc m) ≤ len
columns-back [] field m len h = column-back field (suc m) 0 m len (first-none (column_missing field (suc m) 0 (suc m) len) [] h).0
columns-back (other ∷ before) field m len h =
    columns-back before field m len (first-none (column_missing other (suc m) 0 (suc m) len) (columns_missing (before ++ field ∷ []) (suc m) len) h).1

columns-all : (n len : ℕ) → 1 ≤ n → first (columns_missing columns n len) ≡ None → 256 * n ≤ len
unfolding columns
columns-all zero len some h = absurd (omega (arith, some))
columns-all (suc m) len some h =
    let last = columns-back (signal.Label ∷ signal.Transducer ∷ signal.Dimension ∷ signal.PhysicalMinimum ∷ signal.PhysicalMaximum ∷ signal.DigitalMinimum ∷ signal.DigitalMaximum ∷ signal.Prefilter ∷ signal.Samples ∷ []) signal.Reserved m len h in
    omega (arith, last)

printable-passed : (place : Place) (field : List ℕ) → not_printable place field ≡ None → IsPrintable field
unfolding not_printable
printable-passed place field h = (printable_decided field).0 (fault_unless-passed (list_all is_printable field) place NotPrintable h)

fixed-printable : (front : List ℕ) → FixedPasses front → (field : FixedField) → IsPrintable (fixed_field front field)
unfolding version_fault patient_fault recording_fault startdate_fault starttime_fault header_bytes_fault reserved_fault records_fault duration_fault signals_fault
fixed-printable front p fixed.Version = printable-passed (AtField fixed.Version) (fixed_field front fixed.Version) (first-cons (not_printable (AtField fixed.Version) (fixed_field front fixed.Version)) _ p.version).0
fixed-printable front p fixed.Patient = printable-passed (AtField fixed.Patient) (fixed_field front fixed.Patient) (first-cons (not_printable (AtField fixed.Patient) (fixed_field front fixed.Patient)) _ p.patient).0
fixed-printable front p fixed.Recording = printable-passed (AtField fixed.Recording) (fixed_field front fixed.Recording) (first-cons (not_printable (AtField fixed.Recording) (fixed_field front fixed.Recording)) _ p.recording).0
fixed-printable front p fixed.Startdate = printable-passed (AtField fixed.Startdate) (fixed_field front fixed.Startdate) (first-cons (not_printable (AtField fixed.Startdate) (fixed_field front fixed.Startdate)) _ p.startdate).0
fixed-printable front p fixed.Starttime = printable-passed (AtField fixed.Starttime) (fixed_field front fixed.Starttime) (first-cons (not_printable (AtField fixed.Starttime) (fixed_field front fixed.Starttime)) _ p.starttime).0
fixed-printable front p fixed.HeaderBytes = printable-passed (AtField fixed.HeaderBytes) (fixed_field front fixed.HeaderBytes) (first-cons (not_printable (AtField fixed.HeaderBytes) (fixed_field front fixed.HeaderBytes)) _ p.size).0
fixed-printable front p fixed.Reserved = printable-passed (AtField fixed.Reserved) (fixed_field front fixed.Reserved) (first-cons (not_printable (AtField fixed.Reserved) (fixed_field front fixed.Reserved)) _ p.reserved).0
fixed-printable front p fixed.Records = printable-passed (AtField fixed.Records) (fixed_field front fixed.Records) (first-cons (not_printable (AtField fixed.Records) (fixed_field front fixed.Records)) _ p.records).0
fixed-printable front p fixed.Duration = printable-passed (AtField fixed.Duration) (fixed_field front fixed.Duration) (first-cons (not_printable (AtField fixed.Duration) (fixed_field front fixed.Duration)) _ p.duration).0
fixed-printable front p fixed.Signals = printable-passed (AtField fixed.Signals) (fixed_field front fixed.Signals) (first-cons (not_printable (AtField fixed.Signals) (fixed_field front fixed.Signals)) _ p.signals).0

signals-at : (bytes : List ℕ) (n s m k : ℕ) → first (signals_faults bytes n s m) ≡ None → k < m → first (signal_faults bytes n (s + k)) ≡ None
signals-at bytes n s zero k h lt = absurd (omega (arith, lt))
signals-at bytes n s (suc m) zero h lt =
    let here : s ≡ s + 0 = omega arith in
    subst (λ j. first (signal_faults bytes n j) ≡ None) here (first-none (signal_faults bytes n s) (signals_faults bytes n (s + 1) m) h).0
signals-at bytes n s (suc m) (suc k) h lt =
    let next : s + 1 + k ≡ s + suc k = omega arith in
    subst (λ j. first (signal_faults bytes n j) ≡ None) next (signals-at bytes n (s + 1) m k (first-none (signal_faults bytes n s) (signals_faults bytes n (s + 1) m) h).1 (omega (arith, lt)))

-- each field of a signal
signal-printable : (bytes : List ℕ) (n s : ℕ) → first (signal_faults bytes n s) ≡ None → (field : SignalField) → IsPrintable (column_field bytes n s field)
unfolding text_fault physical_fault digital_fault samples_fault
signal-printable bytes n s h field =
    let at : SignalField → List ℕ = λ f. column_field bytes n s f in
    let together = agreement_faults s (at signal.Label) (line_of bytes n s) in
    let a = first-none (naming_faults bytes n s) (extreme_faults bytes n s ++ (sampling_faults bytes n s ++ together)) h in
    let b = first-none (extreme_faults bytes n s) (sampling_faults bytes n s ++ together) a.1 in
    let d = first-none (sampling_faults bytes n s) together b.1 in
    let plow = physical_fault s signal.PhysicalMinimum (at signal.PhysicalMinimum) in
    let phigh = physical_fault s signal.PhysicalMaximum (at signal.PhysicalMaximum) in
    let dlow = digital_fault s signal.DigitalMinimum (at signal.DigitalMinimum) in
    let dhigh = digital_fault s signal.DigitalMaximum (at signal.DigitalMaximum) in
    let transducer = text_fault s signal.Transducer (at signal.Transducer) in
    let dimension = text_fault s signal.Dimension (at signal.Dimension) in
    let count = samples_fault s (at signal.Samples) in
    let reserved = text_fault s signal.Reserved (at signal.Reserved) in
    let n0 = first-cons (text_fault s signal.Label (at signal.Label)) (transducer ∷ dimension ∷ []) a.0 in
    let n1 = first-cons transducer (dimension ∷ []) n0.1 in
    let n2 = first-cons dimension [] n1.1 in
    let e0 = first-cons plow (phigh ∷ dlow ∷ dhigh ∷ []) b.0 in
    let e1 = first-cons phigh (dlow ∷ dhigh ∷ []) e0.1 in
    let e2 = first-cons dlow (dhigh ∷ []) e1.1 in
    let e3 = first-cons dhigh [] e2.1 in
    let s0 = first-cons (text_fault s signal.Prefilter (at signal.Prefilter)) (count ∷ reserved ∷ []) d.0 in
    let s1 = first-cons count (reserved ∷ []) s0.1 in
    let s2 = first-cons reserved [] s1.1 in
    printable-passed (AtSignal s field) (at field) (each field n0.0 n1.0 n2.0 e0.0 e1.0 e2.0 e3.0 s0.0 s1.0 s2.0)
  where
    each : (f : SignalField) → text_fault s signal.Label (column_field bytes n s signal.Label) ≡ None → text_fault s signal.Transducer (column_field bytes n s signal.Transducer) ≡ None
        → text_fault s signal.Dimension (column_field bytes n s signal.Dimension) ≡ None → physical_fault s signal.PhysicalMinimum (column_field bytes n s signal.PhysicalMinimum) ≡ None
        → physical_fault s signal.PhysicalMaximum (column_field bytes n s signal.PhysicalMaximum) ≡ None → digital_fault s signal.DigitalMinimum (column_field bytes n s signal.DigitalMinimum) ≡ None
        → digital_fault s signal.DigitalMaximum (column_field bytes n s signal.DigitalMaximum) ≡ None → text_fault s signal.Prefilter (column_field bytes n s signal.Prefilter) ≡ None
        → samples_fault s (column_field bytes n s signal.Samples) ≡ None → text_fault s signal.Reserved (column_field bytes n s signal.Reserved) ≡ None
        → not_printable (AtSignal s f) (column_field bytes n s f) ≡ None
    each signal.Label a0 a1 a2 b0 b1 b2 b3 d0 d1 d2 = a0
    each signal.Transducer a0 a1 a2 b0 b1 b2 b3 d0 d1 d2 = a1
    each signal.Dimension a0 a1 a2 b0 b1 b2 b3 d0 d1 d2 = a2
    each signal.PhysicalMinimum a0 a1 a2 b0 b1 b2 b3 d0 d1 d2 = (first-cons (not_printable (AtSignal s signal.PhysicalMinimum) (column_field bytes n s signal.PhysicalMinimum)) _ b0).0
    each signal.PhysicalMaximum a0 a1 a2 b0 b1 b2 b3 d0 d1 d2 = (first-cons (not_printable (AtSignal s signal.PhysicalMaximum) (column_field bytes n s signal.PhysicalMaximum)) _ b1).0
    each signal.DigitalMinimum a0 a1 a2 b0 b1 b2 b3 d0 d1 d2 = (first-cons (not_printable (AtSignal s signal.DigitalMinimum) (column_field bytes n s signal.DigitalMinimum)) _ b2).0
    each signal.DigitalMaximum a0 a1 a2 b0 b1 b2 b3 d0 d1 d2 = (first-cons (not_printable (AtSignal s signal.DigitalMaximum) (column_field bytes n s signal.DigitalMaximum)) _ b3).0
    each signal.Prefilter a0 a1 a2 b0 b1 b2 b3 d0 d1 d2 = d0
    each signal.Samples a0 a1 a2 b0 b1 b2 b3 d0 d1 d2 = (first-cons (not_printable (AtSignal s signal.Samples) (column_field bytes n s signal.Samples)) _ d1).0
    each signal.Reserved a0 a1 a2 b0 b1 b2 b3 d0 d1 d2 = d2

-- the version and the size, as the tests say
version-said : (field : List ℕ) → version_fault field ≡ None → text_of field ≡ codes "0"
unfolding version_fault
version-said field h =
    let test = fault_unless (bytes_eq (text_of field) (codes "0")) (AtField fixed.Version) BadVersion in
    let a = first-cons (not_printable (AtField fixed.Version) field) (test ∷ []) h in
    (bytes_eq-Decides (text_of field) (codes "0")).0 (fault_unless-passed (bytes_eq (text_of field) (codes "0")) (AtField fixed.Version) BadVersion (first-cons test [] a.1).0)

size-number : (field : List ℕ) → header_bytes_fault field ≡ None → (v : ℤ) × (whole_number_of field ≡ Some v)
unfolding header_bytes_fault
size-number field h =
    let test = no_number (AtField fixed.HeaderBytes) (whole_number_of field) in
    let a = first-cons (not_printable (AtField fixed.HeaderBytes) field) (test ∷ []) h in
    number-passed (AtField fixed.HeaderBytes) (whole_number_of field) (first-cons test [] a.1).0

size-said : (signals : ℕ) (field : List ℕ) → header_bytes_fault field ≡ None → header_size_fault signals field ≡ None → SpellsWholeNumber field (pos (256 * (signals + 1)))
unfolding header_size_fault
size-said signals field h size =
    let number = size-number field h in
    let same : unwrap_or (whole_number_of field) (pos 0) ≡ pos (256 * (signals + 1)) =
    (Decides-int_eq (unwrap_or (whole_number_of field) (pos 0)) (pos (256 * (signals + 1)))).0 (fault_unless-passed (int_eq (unwrap_or (whole_number_of field) (pos 0)) (pos (256 * (signals + 1)))) (AtField fixed.HeaderBytes) BadHeaderSize size) in
    let is : number.0 ≡ pos (256 * (signals + 1)) = sym (ap (λ o. unwrap_or o (pos 0)) number.1) ∙ same in
    subst (SpellsWholeNumber field) is (whole_number_of-some field number.0 number.1)

-- how many bytes there are
length-all : (file : List ℕ) (n : ℕ) → 1 ≤ n → 256 * n ≤ length (columns_part n file) → 256 * (n + 1) ≤ length file
length-all file n some h =
    let e = length-take (256 * n) (drop 256 file) in
    let f = length-drop 256 file in
    omega (arith, e, f, some, h)

passing-parts : (file : List ℕ) → header_fault file ≡ None → HeaderInParts file (head_of file)
unfolding header_fault head_of
passing-parts file h =
    let front : List ℕ = fixed_part file in
    let n : ℕ = signals_of front in
    let bytes : List ℕ = columns_part n file in
    let a = first-none (fixed_tests front) (columns_tests n bytes) h in
    let b = first-none (columns_missing columns n (length bytes)) (signals_faults bytes n 0 n ++ joint_faults (signals_in n bytes)) a.1 in
    let d = first-none (signals_faults bytes n 0 n) (joint_faults (signals_in n bytes)) b.1 in
    let p = fixed-passes front a.0 in
    let counted = signals-passed (fixed_field front fixed.Signals) p.signals in
    let is : n ≡ counted.0 = ap count_of counted.1 in
    let some : 1 ≤ n = (let at_least = counted.2 in omega (arith, is, at_least)) in
    let long : length (signals_in n bytes) ≡ n = length-signals bytes n 0 0 n in
    let size : 256 * (n + 1) ≡ header_bytes (head_of file) = ap (λ k. 256 * (k + 1)) (sym long) in
    record {
      whole = subst (λ k. k ≤ length file) size (length-all file n some (columns-all n (length bytes) some b.0));
      front = fixed-printable front p;
      columns = λ s lt field.
          let P : ℕ → Type 0 = λ k. IsPrintable (column_field (columns_part k file) k s field) in
          let within : s < n = omega (arith, lt, long) in
          let here : 0 + s ≡ s = omega arith in
          let passed = subst (λ j. first (signal_faults bytes n j) ≡ None) here (signals-at bytes n 0 n s d.0 within) in
          subst P (sym long) (signal-printable bytes n s passed field);
      version = version-said (fixed_field front fixed.Version) p.version;
      size = subst (λ k. SpellsWhole (text_of (fixed_field front fixed.HeaderBytes)) (pos k)) size (size-said n (fixed_field front fixed.HeaderBytes) p.size p.whole).1;
      head = has-head file h;
      standard = (sound-head file h).standard;
    }

pub passing-conforms : (file : List ℕ) → header_fault file ≡ None → HeaderConforms file (head_of file)
passing-conforms file h = from_parts file (head_of file) (passing-parts file h)

units-count : (units : ℤ) → pos 1 ≤ℤ (units *ℤ pos 100000) → (k : ℕ) × (units ≡ pos k) × (1 ≤ k)
units-count (pos k) h = (k, refl, omega (arith, ints, h))
units-count (negsuc k) h = absurd (omega (arith, ints, h))

fixed-pass : (file : List ℕ) (h : Head) → HeaderInParts file h → signals_of (fixed_part file) ≡ length h.signals → first (fixed_tests (fixed_part file)) ≡ None
fixed-pass file h c count =
    let front : List ℕ = fixed_part file in
    let at : FixedField → List ℕ = λ field. fixed_field front field in
    let has = c.head in
    let sound = c.standard in
    let size = c.whole in
    let taken = length-take 256 (drop 0 file) in
    let long : 256 ≤ length front = omega (arith, size, taken) in
    let date = (recording_in (at fixed.Recording)).date in
    let dated : h.recording.date ≡ date = ap (λ r. r.date) (recording_is (at fixed.Recording) h.recording has.recording) in
    let text = text_of (at fixed.Startdate) in
    let said : NamesStartdate text date h.day = subst (λ t. NamesStartdate text t h.day) dated has.day in
    let same : SayTheSame text date = same-passes text date h.day said (λ m named. sound.same_day m (subst (λ t. NamesDashedDay t m) (sym dated) named)) in
    let second : Some h.clock ≡ clock_time_of (text_of (at fixed.Starttime)) = clock_time_read (Some h.clock) (text_of (at fixed.Starttime)) has.clock in
    let spelled = from_picoseconds front 244 8 h.duration (omega arith) has.duration in
    let units = units-count spelled.0 (subst (λ z. pos 1 ≤ℤ z) spelled.2 sound.some_time) in
    let some : 1 ≤ length h.signals = (let r = any-at (λ signal. is_annotations signal.label) h.signals sound.annotations in let lt = get-within h.signals r.0 r.1 r.2 in omega (arith, lt)) in
    let spelled_size : whole_number_of (at fixed.HeaderBytes) ≡ Some (pos (header_bytes h)) = whole_number_of-spelled (at fixed.HeaderBytes) (pos (header_bytes h)) (whole_in front 184 8 (pos (header_bytes h)) (omega arith) c.size) in
    let version = version_fault (at fixed.Version) in
    let patient = patient_fault (at fixed.Patient) in
    let recording = recording_fault (at fixed.Recording) in
    let startdate = startdate_fault date (at fixed.Startdate) in
    let starttime = starttime_fault (at fixed.Starttime) in
    let bytes = header_bytes_fault (at fixed.HeaderBytes) in
    let reserved = reserved_fault (at fixed.Reserved) in
    let records = records_fault (at fixed.Records) in
    let duration = duration_fault (at fixed.Duration) in
    let signals = signals_fault (at fixed.Signals) in
    let whole = header_size_fault (signals_of front) (at fixed.HeaderBytes) in
    let begins : first (start_faults front) ≡ None =
    pass-cons version (patient ∷ recording ∷ startdate ∷ starttime ∷ []) (version-passes (at fixed.Version) (c.front fixed.Version) c.version)
    (pass-cons patient (recording ∷ startdate ∷ starttime ∷ []) (patient-passes (at fixed.Patient) (c.front fixed.Patient) ((patient_or_cause (at fixed.Patient)).1 (h.patient, has.patient)))
    (pass-cons recording (startdate ∷ starttime ∷ []) (recording-passes (at fixed.Recording) (c.front fixed.Recording) ((recording_or_cause (at fixed.Recording)).1 (h.recording, has.recording)))
    (pass-cons startdate (starttime ∷ []) (startdate-passes date (at fixed.Startdate) h.day (c.front fixed.Startdate) (startdate-read text date h.day said) same)
    (pass-cons starttime [] (starttime-passes (at fixed.Starttime) h.clock (c.front fixed.Starttime) (sym second)) refl)))) in
    let goes_on : first (extent_faults front) ≡ None =
    pass-cons bytes (reserved ∷ records ∷ duration ∷ signals ∷ whole ∷ []) (header_bytes-passes (at fixed.HeaderBytes) (pos (header_bytes h)) (c.front fixed.HeaderBytes) spelled_size)
    (pass-cons reserved (records ∷ duration ∷ signals ∷ whole ∷ []) (reserved-passes (at fixed.Reserved) h.kind (c.front fixed.Reserved) has.kind)
    (pass-cons records (duration ∷ signals ∷ whole ∷ []) (records-passes (at fixed.Records) h.records (c.front fixed.Records) (whole_number_of-spelled (at fixed.Records) (pos h.records) (whole_in front 236 8 (pos h.records) (omega arith) has.records)) sound.some_records)
    (pass-cons duration (signals ∷ whole ∷ []) (duration-passes (at fixed.Duration) units.0 (c.front fixed.Duration) (header_number_of-spelled (at fixed.Duration) spelled.0 spelled.1 ∙ ap Some units.1) units.2)
    (pass-cons signals (whole ∷ []) (signals-passes (at fixed.Signals) (length h.signals) (c.front fixed.Signals) (whole_number_of-spelled (at fixed.Signals) (pos (length h.signals)) (whole_in front 252 4 (pos (length h.signals)) (omega arith) has.count)) some)
    (pass-cons whole [] (header_size-passes (signals_of front) (at fixed.HeaderBytes) (spelled_size ∙ ap (λ k. Some (pos (256 * (k + 1)))) (sym count))) refl))))) in
    pass-append (fixed_missing fixed_fields (length front)) (start_faults front ++ extent_faults front) (fixed-there fixed_fields (length front) long)
    (pass-append (start_faults front) (extent_faults front) begins goes_on)

columns-pass : (file : List ℕ) (h : Head) (n : ℕ) → HeaderInParts file h → n ≡ length h.signals → h.signals ≡ signals_in n (columns_part n file)
    → first (columns_tests n (columns_part n file)) ≡ None
columns-pass file h n c count read =
    let bytes : List ℕ = columns_part n file in
    let has = c.head in
    let sound = c.standard in
    let size = c.whole in
    let taken = length-take (256 * n) (drop 256 file) in
    let left = length-drop 256 file in
    let long : 256 * n ≤ length bytes = omega (arith, size, taken, left, count) in
    let says : (k : ℕ) (head : SignalHead) → slice_get (signals_in n bytes) k ≡ Some head → HasSignal (column_field bytes n (0 + k)) head = λ k head e.
    let P : ℕ → Type 0 = λ m. HasSignal (column_field (columns_part m file) m (0 + k)) head in
    subst P (sym count) (subst (λ j. HasSignal (column_field (columns_part (length h.signals) file) (length h.signals) j) head) (let at : k ≡ 0 + k = omega arith in at) (has.signals k head (ap (λ xs. slice_get xs k) read ∙ e))) in
    let printable : (k : ℕ) → k < n → (field : SignalField) → IsPrintable (column_field bytes n (0 + k) field) = λ k lt field.
    let P : ℕ → Type 0 = λ m. IsPrintable (column_field (columns_part m file) m (0 + k) field) in
    subst P (sym count) (subst (λ j. IsPrintable (column_field (columns_part (length h.signals) file) (length h.signals) j field)) (let at : k ≡ 0 + k = omega arith in at) (c.columns k (omega (arith, lt, count)) field)) in
    let joint : first (joint_faults (signals_in n bytes)) ≡ None =
    subst (λ (xs : List SignalHead). first (joint_faults xs) ≡ None) read (joint-passes h.signals sound.annotations sound.channel (channels_distinct h.signals sound.distinct) sound.small_record) in
    pass-append (columns_missing columns n (length bytes)) (signals_faults bytes n 0 n ++ joint_faults (signals_in n bytes)) (columns-there columns n (length bytes) long)
    (pass-append (signals_faults bytes n 0 n) (joint_faults (signals_in n bytes))
    (signals-pass-tests bytes n 0 0 n says (subst (λ (xs : List SignalHead). All IsSoundSignal xs) read sound.signals) printable) joint)

parts-pass : (file : List ℕ) (h : Head) → HeaderInParts file h → header_fault file ≡ None
unfolding header_fault head_of
parts-pass file h c =
    let front : List ℕ = fixed_part file in
    let n : ℕ = signals_of front in
    let has = c.head in
    let count : n ≡ length h.signals = ap count_of (whole_number_of-spelled (fixed_field front fixed.Signals) (pos (length h.signals)) (whole_in front 252 4 (pos (length h.signals)) (omega arith) has.count)) in
    let read : h.signals ≡ signals_in n (columns_part n file) = ap (λ (g : Head). g.signals) (head-read file h has) in
    pass-append (fixed_tests front) (columns_tests n (columns_part n file)) (fixed-pass file h c count) (columns-pass file h n c count read)

conforming-passes : (file : List ℕ) (h : Head) → HeaderConforms file h → header_fault file ≡ None
conforming-passes file h c = parts-pass file h (in_parts file h c)

pub passing_is_conforming : PassingIsConforming
passing_is_conforming file = (λ h. (head_of file, passing-conforms file h), λ found. conforming-passes file found.0 found.1)

pub conforming_is_sound : ConformingIsSound
conforming_is_sound file h c = subst IsSound (sym (head-read file h (head_in_parts file h c.head))) (sound-head file (conforming-passes file h c))
