-- A header that is in order passes its tests.
use Rattle.std.proofs.Common.{◌≡◌, ◌≢◌, ℕ, zero, suc, ℤ, pos, neg_ℤ, ◌+◌, ◌*◌, ◌≤◌, ◌<◌, ◌≤ℤ◌, ◌<ℤ◌, ◌&&◌, ◌||◌, not, int_le, int_lt, Bool, true, false, List, [], ◌∷◌, ◌++◌, take, slice_get, unwrap_or, Option, Some, None, codes, refl, ap, ◌∙◌, subst, arith}
use Rattle.std.specs.List.{All, list_all}
use Rattle.std.specs.Ordering.{int_eq}
use Rattle.std.specs.Str.{bytes_eq}
use Rattle.std.proofs.lemmas.Bool.Decides.{Decides-int_eq}
use Rattle.std.proofs.lemmas.Int.{ints}
use Rattle.std.proofs.lemmas.Slice.Eq.{bytes_eq-Decides}
use Rattle.edf_fields.specs.Parts.{text_of}
use Rattle.edf_fields.specs.texts.NumbersReading.{whole_number_of, header_number_of}
use Rattle.edf_fields.specs.texts.Dates.{CivilDay}
use Rattle.edf_fields.specs.texts.DatesReading.{dotted_day_of, day_month_of, dashed_day_of, clock_time_of}
use Rattle.edf_fields.specs.texts.IdentificationsReading.{patient_cause, recording_cause}
use Rattle.edf_fields.specs.texts.Printable.{IsPrintable}
use Rattle.edf_fields.specs.texts.PrintableReading.{is_printable}
use Rattle.edf_fields.proofs.ForCallers.{whole_number_of-spelled, header_number_of-spelled, pass-cons, pass-append, both-true, not-is, le-passes, lt-passes, printable_decided, decimal_in, whole_in}
use Rattle.edf_fields.specs.declared.faults.fault.Place.{Place}
use Rattle.edf_fields.specs.declared.faults.fault.Place.TheVariants.{AtField, AtSignal}
use Rattle.edf_fields.specs.declared.faults.fault.Cause.{Cause}
use Rattle.edf_fields.specs.declared.faults.fault.Cause.TheVariants.{NotPrintable, BadVersion, BadStart, StartdateDiffers, BadHeaderSize, NotEdfPlus, BadRange, BadAnnotationSignal}
use Rattle.edf_header.specs.declared.kind.Kind.{Kind}
use Rattle.edf_header.specs.declared.kind.Kind.TheVariants.{Contiguous, Interrupted}
use Rattle.edf_fields.specs.declared.fields.layout.FixedField.TheVariants as fixed
use Rattle.edf_fields.specs.declared.fields.layout.SignalField.{SignalField}
use Rattle.edf_fields.specs.declared.fields.layout.SignalField.TheVariants as signal
use Rattle.edf_header.specs.signals.Calibrations.{CalibrationValue}
use Rattle.edf_fields.specs.fields.LayoutReading.{column_field}
use Rattle.edf_header.specs.Heads.{SignalHead, HasSignal, kind_word, is_annotations}
use Rattle.edf_header.specs.HeadsReading.{startdate_of, line_of, signal_of, signals_from}
use Rattle.edf_header.specs.Faults.{fault_unless, not_printable, no_number, not_within, not_positive, not_named, not_read, is_same_start, start_tests, version_fault, patient_fault, recording_fault, startdate_fault, starttime_fault, header_bytes_fault, reserved_fault, records_fault, duration_fault, signals_fault, header_size_fault, text_fault, physical_fault, digital_fault, samples_fault, digital_order_fault, physical_differ_fault, annotation_fault, naming_faults, extreme_faults, sampling_faults, agreement_faults, signal_faults, signals_faults}
use Rattle.edf_fields.specs.Tests.{first}
use Rattle.edf_header.specs.Standard.{IsSoundSignal}
use Rattle.edf_header.proofs.fixed_part.StartdateFacts.{SayTheSame}

pub fault_unless-true : (b : Bool) (place : Place) (cause : Cause) → b ≡ true → fault_unless b place cause ≡ None
fault_unless-true true place cause h = refl
fault_unless-true false place cause h = absurd (let z : false ≡ true = h in cc)

pub printable-passes : (place : Place) (field : List ℕ) → IsPrintable field → not_printable place field ≡ None
unfolding not_printable
printable-passes place field h = fault_unless-true (list_all is_printable field) place NotPrintable ((printable_decided field).1 h)

positive-passes : (place : Place) (o : Option ℤ) (n : ℕ) → o ≡ Some (pos n) → 1 ≤ n → not_positive place o ≡ None
positive-passes place o n e h =
    ap (not_positive place) e ∙ fault_unless-true (int_le (pos 1) (pos n)) place BadRange (le-passes (pos 1) (pos n) (omega (arith, ints, h)))

-- the fields of the fixed part
pub version-passes : (field : List ℕ) → IsPrintable field → text_of field ≡ codes "0" → version_fault field ≡ None
unfolding version_fault
version-passes field p e =
    let test = fault_unless (bytes_eq (text_of field) (codes "0")) (AtField fixed.Version) BadVersion in
    pass-cons (not_printable (AtField fixed.Version) field) (test ∷ []) (printable-passes (AtField fixed.Version) field p)
    (pass-cons test [] (fault_unless-true (bytes_eq (text_of field) (codes "0")) (AtField fixed.Version) BadVersion ((bytes_eq-Decides (text_of field) (codes "0")).1 e)) refl)

pub patient-passes : (field : List ℕ) → IsPrintable field → patient_cause field ≡ None → patient_fault field ≡ None
unfolding patient_fault
patient-passes field p e =
    let test = not_read (AtField fixed.Patient) (patient_cause field) in
    pass-cons (not_printable (AtField fixed.Patient) field) (test ∷ []) (printable-passes (AtField fixed.Patient) field p)
    (pass-cons test [] (ap (not_read (AtField fixed.Patient)) e) refl)

pub recording-passes : (field : List ℕ) → IsPrintable field → recording_cause field ≡ None → recording_fault field ≡ None
unfolding recording_fault
recording-passes field p e =
    let test = not_read (AtField fixed.Recording) (recording_cause field) in
    pass-cons (not_printable (AtField fixed.Recording) field) (test ∷ []) (printable-passes (AtField fixed.Recording) field p)
    (pass-cons test [] (ap (not_read (AtField fixed.Recording)) e) refl)

pub startdate-passes : (recorded field : List ℕ) (day : CivilDay) → IsPrintable field → startdate_of (text_of field) recorded ≡ Some day → SayTheSame (text_of field) recorded → startdate_fault recorded field ≡ None
unfolding startdate_fault
startdate-passes recorded field day p e same =
    let is : Bool = is_same_start (day_month_of (text_of field)) (dotted_day_of (text_of field)) (dashed_day_of recorded) in
    let test = fault_unless is (AtField fixed.Startdate) StartdateDiffers in
    pass-cons (not_printable (AtField fixed.Startdate) field) (start_tests (startdate_of (text_of field) recorded) is) (printable-passes (AtField fixed.Startdate) field p)
    (pass-cons (not_named (AtField fixed.Startdate) BadStart (startdate_of (text_of field) recorded)) (test ∷ []) (ap (not_named (AtField fixed.Startdate) BadStart) e)
    (pass-cons test [] (fault_unless-true is (AtField fixed.Startdate) StartdateDiffers same) refl))

pub starttime-passes : (field : List ℕ) (second : ℕ) → IsPrintable field → clock_time_of (text_of field) ≡ Some second → starttime_fault field ≡ None
unfolding starttime_fault
starttime-passes field second p e =
    let named = not_named (AtField fixed.Starttime) BadStart (clock_time_of (text_of field)) in
    pass-cons (not_printable (AtField fixed.Starttime) field) (named ∷ []) (printable-passes (AtField fixed.Starttime) field p)
    (pass-cons named [] (ap (not_named (AtField fixed.Starttime) BadStart) e) refl)

pub header_bytes-passes : (field : List ℕ) (v : ℤ) → IsPrintable field → whole_number_of field ≡ Some v → header_bytes_fault field ≡ None
unfolding header_bytes_fault
header_bytes-passes field v p e =
    let test = no_number (AtField fixed.HeaderBytes) (whole_number_of field) in
    pass-cons (not_printable (AtField fixed.HeaderBytes) field) (test ∷ []) (printable-passes (AtField fixed.HeaderBytes) field p)
    (pass-cons test [] (ap (no_number (AtField fixed.HeaderBytes)) e) refl)

kind-tested : (xs : List ℕ) (k : Kind) → xs ≡ kind_word k → (bytes_eq xs (codes "EDF+C") || bytes_eq xs (codes "EDF+D")) ≡ true
kind-tested xs Contiguous h = ap (λ b. b || bytes_eq xs (codes "EDF+D")) ((bytes_eq-Decides xs (codes "EDF+C")).1 h)
kind-tested xs Interrupted h = or-true (bytes_eq xs (codes "EDF+C")) (bytes_eq xs (codes "EDF+D")) ((bytes_eq-Decides xs (codes "EDF+D")).1 h)
  where
    or-true : (a b : Bool) → b ≡ true → (a || b) ≡ true
    or-true true b e = refl
    or-true false b e = e

pub reserved-passes : (field : List ℕ) (k : Kind) → IsPrintable field → take 5 field ≡ kind_word k → reserved_fault field ≡ None
unfolding reserved_fault
reserved-passes field k p e =
    let either : Bool = bytes_eq (take 5 field) (codes "EDF+C") || bytes_eq (take 5 field) (codes "EDF+D") in
    let test = fault_unless either (AtField fixed.Reserved) NotEdfPlus in
    pass-cons (not_printable (AtField fixed.Reserved) field) (test ∷ []) (printable-passes (AtField fixed.Reserved) field p)
    (pass-cons test [] (fault_unless-true either (AtField fixed.Reserved) NotEdfPlus (kind-tested (take 5 field) k e)) refl)

pub records-passes : (field : List ℕ) (n : ℕ) → IsPrintable field → whole_number_of field ≡ Some (pos n) → 1 ≤ n → records_fault field ≡ None
unfolding records_fault
records-passes field n p e h =
    let test = not_positive (AtField fixed.Records) (whole_number_of field) in
    pass-cons (not_printable (AtField fixed.Records) field) (test ∷ []) (printable-passes (AtField fixed.Records) field p)
    (pass-cons test [] (positive-passes (AtField fixed.Records) (whole_number_of field) n e h) refl)

pub duration-passes : (field : List ℕ) (n : ℕ) → IsPrintable field → header_number_of field ≡ Some (pos n) → 1 ≤ n → duration_fault field ≡ None
unfolding duration_fault
duration-passes field n p e h =
    let test = not_positive (AtField fixed.Duration) (header_number_of field) in
    pass-cons (not_printable (AtField fixed.Duration) field) (test ∷ []) (printable-passes (AtField fixed.Duration) field p)
    (pass-cons test [] (positive-passes (AtField fixed.Duration) (header_number_of field) n e h) refl)

pub signals-passes : (field : List ℕ) (n : ℕ) → IsPrintable field → whole_number_of field ≡ Some (pos n) → 1 ≤ n → signals_fault field ≡ None
unfolding signals_fault
signals-passes field n p e h =
    let test = not_positive (AtField fixed.Signals) (whole_number_of field) in
    pass-cons (not_printable (AtField fixed.Signals) field) (test ∷ []) (printable-passes (AtField fixed.Signals) field p)
    (pass-cons test [] (positive-passes (AtField fixed.Signals) (whole_number_of field) n e h) refl)

pub header_size-passes : (signals : ℕ) (field : List ℕ) → whole_number_of field ≡ Some (pos (256 * (signals + 1))) → header_size_fault signals field ≡ None
unfolding header_size_fault
header_size-passes signals field e =
    let size : ℤ = unwrap_or (whole_number_of field) (pos 0) in
    let is : size ≡ pos (256 * (signals + 1)) = ap (λ o. unwrap_or o (pos 0)) e in
    fault_unless-true (int_eq size (pos (256 * (signals + 1)))) (AtField fixed.HeaderBytes) BadHeaderSize ((Decides-int_eq size (pos (256 * (signals + 1)))).1 is)

-- the fields of a signal
text-passes : (s : ℕ) (field : SignalField) (bytes : List ℕ) → IsPrintable bytes → text_fault s field bytes ≡ None
unfolding text_fault
text-passes s field bytes p = printable-passes (AtSignal s field) bytes p

physical-passes : (s : ℕ) (field : SignalField) (bytes : List ℕ) (v : ℤ) → IsPrintable bytes → header_number_of bytes ≡ Some v → physical_fault s field bytes ≡ None
unfolding physical_fault
physical-passes s field bytes v p e =
    let test = no_number (AtSignal s field) (header_number_of bytes) in
    pass-cons (not_printable (AtSignal s field) bytes) (test ∷ []) (printable-passes (AtSignal s field) bytes p)
    (pass-cons test [] (ap (no_number (AtSignal s field)) e) refl)

digital-passes : (s : ℕ) (field : SignalField) (bytes : List ℕ) (v : ℤ) → IsPrintable bytes → whole_number_of bytes ≡ Some v → neg_ℤ (pos 32768) ≤ℤ v → v ≤ℤ pos 32767
    → digital_fault s field bytes ≡ None
unfolding digital_fault
digital-passes s field bytes v p e low high =
    let test = not_within (AtSignal s field) (neg_ℤ (pos 32768)) (pos 32767) (whole_number_of bytes) in
    pass-cons (not_printable (AtSignal s field) bytes) (test ∷ []) (printable-passes (AtSignal s field) bytes p)
    (pass-cons test []
    (ap (not_within (AtSignal s field) (neg_ℤ (pos 32768)) (pos 32767)) e
    ∙ fault_unless-true (int_le (neg_ℤ (pos 32768)) v && int_le v (pos 32767)) (AtSignal s field) BadRange
    (both-true (int_le (neg_ℤ (pos 32768)) v) (int_le v (pos 32767)) (le-passes (neg_ℤ (pos 32768)) v low) (le-passes v (pos 32767) high))) refl)

samples-passes : (s : ℕ) (bytes : List ℕ) (n : ℕ) → IsPrintable bytes → whole_number_of bytes ≡ Some (pos n) → 1 ≤ n → samples_fault s bytes ≡ None
unfolding samples_fault
samples-passes s bytes n p e h =
    let test = not_positive (AtSignal s signal.Samples) (whole_number_of bytes) in
    pass-cons (not_printable (AtSignal s signal.Samples) bytes) (test ∷ []) (printable-passes (AtSignal s signal.Samples) bytes p)
    (pass-cons test [] (positive-passes (AtSignal s signal.Samples) (whole_number_of bytes) n e h) refl)

order-passes : (s : ℕ) (line : CalibrationValue) → line.digital_minimum <ℤ line.digital_maximum → digital_order_fault s line ≡ None
unfolding digital_order_fault
order-passes s line h =
    fault_unless-true (int_lt line.digital_minimum line.digital_maximum) (AtSignal s signal.DigitalMaximum) BadRange (lt-passes line.digital_minimum line.digital_maximum h)

differ-passes : (s : ℕ) (line : CalibrationValue) → line.physical_minimum ≢ line.physical_maximum → physical_differ_fault s line ≡ None
unfolding physical_differ_fault
differ-passes s line h =
    let same : Bool = int_eq line.physical_minimum line.physical_maximum in
    fault_unless-true (not same) (AtSignal s signal.PhysicalMaximum) BadRange (not-is same (λ e. h ((Decides-int_eq line.physical_minimum line.physical_maximum).0 e)))

annotation-passes : (s : ℕ) (label : List ℕ) (line : CalibrationValue)
    → (is_annotations (text_of label) ≡ true → (line.digital_minimum ≡ neg_ℤ (pos 32768)) × (line.digital_maximum ≡ pos 32767)) → annotation_fault s label line ≡ None
unfolding annotation_fault
annotation-passes s label line h =
    let low : Bool = int_eq line.digital_minimum (neg_ℤ (pos 32768)) in
    let high : Bool = int_eq line.digital_maximum (pos 32767) in
    fault_unless-true (not (is_annotations (text_of label)) || (low && high)) (AtSignal s signal.Label) BadAnnotationSignal
    (either (is_annotations (text_of label)) (low && high)
    (λ e. both-true low high ((Decides-int_eq line.digital_minimum (neg_ℤ (pos 32768))).1 (h e).0) ((Decides-int_eq line.digital_maximum (pos 32767)).1 (h e).1)))
  where
    either : (a b : Bool) → (a ≡ true → b ≡ true) → (not a || b) ≡ true
    either true b f = f refl
    either false b f = refl

pub signal-passes-tests : (bytes : List ℕ) (n s before : ℕ) → HasSignal (column_field bytes n s) (signal_of bytes n s before) → IsSoundSignal (signal_of bytes n s before)
    → ((field : SignalField) → IsPrintable (column_field bytes n s field)) → first (signal_faults bytes n s) ≡ None
signal-passes-tests bytes n s before says sound p =
    let at : SignalField → List ℕ = λ field. column_field bytes n s field in
    let line : CalibrationValue = line_of bytes n s in
    let low = sound.low in
    let high = sound.high in
    let order = sound.order in
    let plow = physical_fault s signal.PhysicalMinimum (at signal.PhysicalMinimum) in
    let phigh = physical_fault s signal.PhysicalMaximum (at signal.PhysicalMaximum) in
    let dlow = digital_fault s signal.DigitalMinimum (at signal.DigitalMinimum) in
    let dhigh = digital_fault s signal.DigitalMaximum (at signal.DigitalMaximum) in
    let transducer = text_fault s signal.Transducer (at signal.Transducer) in
    let dimension = text_fault s signal.Dimension (at signal.Dimension) in
    let count = samples_fault s (at signal.Samples) in
    let reserved = text_fault s signal.Reserved (at signal.Reserved) in
    let annotation = annotation_fault s (at signal.Label) line in
    let differ = physical_differ_fault s line in
    let naming : first (naming_faults bytes n s) ≡ None =
    pass-cons (text_fault s signal.Label (at signal.Label)) (transducer ∷ dimension ∷ []) (text-passes s signal.Label (at signal.Label) (p signal.Label))
    (pass-cons transducer (dimension ∷ []) (text-passes s signal.Transducer (at signal.Transducer) (p signal.Transducer))
    (pass-cons dimension [] (text-passes s signal.Dimension (at signal.Dimension) (p signal.Dimension)) refl)) in
    let extremes : first (extreme_faults bytes n s) ≡ None =
    pass-cons plow (phigh ∷ dlow ∷ dhigh ∷ []) (physical-passes s signal.PhysicalMinimum (at signal.PhysicalMinimum) line.physical_minimum (p signal.PhysicalMinimum) (header_number_of-spelled (at signal.PhysicalMinimum) line.physical_minimum (decimal_in bytes (104 * n + 8 * s) 8 line.physical_minimum (omega arith) says.physical_minimum)))
    (pass-cons phigh (dlow ∷ dhigh ∷ []) (physical-passes s signal.PhysicalMaximum (at signal.PhysicalMaximum) line.physical_maximum (p signal.PhysicalMaximum) (header_number_of-spelled (at signal.PhysicalMaximum) line.physical_maximum (decimal_in bytes (112 * n + 8 * s) 8 line.physical_maximum (omega arith) says.physical_maximum)))
    (pass-cons dlow (dhigh ∷ []) (digital-passes s signal.DigitalMinimum (at signal.DigitalMinimum) line.digital_minimum (p signal.DigitalMinimum) (whole_number_of-spelled (at signal.DigitalMinimum) line.digital_minimum (whole_in bytes (120 * n + 8 * s) 8 line.digital_minimum (omega arith) says.digital_minimum)) low (omega (arith, ints, high, order)))
    (pass-cons dhigh [] (digital-passes s signal.DigitalMaximum (at signal.DigitalMaximum) line.digital_maximum (p signal.DigitalMaximum) (whole_number_of-spelled (at signal.DigitalMaximum) line.digital_maximum (whole_in bytes (128 * n + 8 * s) 8 line.digital_maximum (omega arith) says.digital_maximum)) (omega (arith, ints, low, order)) high) refl))) in
    let sampling : first (sampling_faults bytes n s) ≡ None =
    pass-cons (text_fault s signal.Prefilter (at signal.Prefilter)) (count ∷ reserved ∷ []) (text-passes s signal.Prefilter (at signal.Prefilter) (p signal.Prefilter))
    (pass-cons count (reserved ∷ []) (samples-passes s (at signal.Samples) (signal_of bytes n s before).samples (p signal.Samples) (whole_number_of-spelled (at signal.Samples) (pos (signal_of bytes n s before).samples) (whole_in bytes (216 * n + 8 * s) 8 (pos (signal_of bytes n s before).samples) (omega arith) says.samples)) sound.some_samples)
    (pass-cons reserved [] (text-passes s signal.Reserved (at signal.Reserved) (p signal.Reserved)) refl)) in
    let agreement : first (agreement_faults s (at signal.Label) line) ≡ None =
    pass-cons (digital_order_fault s line) (differ ∷ annotation ∷ []) (order-passes s line order)
    (pass-cons differ (annotation ∷ []) (differ-passes s line sound.differ)
    (pass-cons annotation [] (annotation-passes s (at signal.Label) line sound.annotations) refl)) in
    pass-append (naming_faults bytes n s) (extreme_faults bytes n s ++ (sampling_faults bytes n s ++ agreement_faults s (at signal.Label) line)) naming
    (pass-append (extreme_faults bytes n s) (sampling_faults bytes n s ++ agreement_faults s (at signal.Label) line) extremes
    (pass-append (sampling_faults bytes n s) (agreement_faults s (at signal.Label) line) sampling agreement))

pub signals-pass-tests : (bytes : List ℕ) (n s before m : ℕ)
    → ((k : ℕ) (head : SignalHead) → slice_get (signals_from bytes n s before m) k ≡ Some head → HasSignal (column_field bytes n (s + k)) head)
    → All IsSoundSignal (signals_from bytes n s before m)
    → ((k : ℕ) → k < m → (field : SignalField) → IsPrintable (column_field bytes n (s + k) field))
    → first (signals_faults bytes n s m) ≡ None
signals-pass-tests bytes n s before zero says sound p = refl
signals-pass-tests bytes n s before (suc m) says sound p =
    let head : SignalHead = signal_of bytes n s before in
    let after : ℕ = before + 2 * head.samples in
    let here : s + 0 ≡ s = omega arith in
    let next : (k : ℕ) → s + suc k ≡ s + 1 + k = λ k. omega arith in
    pass-append (signal_faults bytes n s) (signals_faults bytes n (s + 1) m)
    (signal-passes-tests bytes n s before (subst (λ j. HasSignal (column_field bytes n j) head) here (says 0 head refl)) (sound 0 head (omega arith))
    (λ field. subst (λ j. IsPrintable (column_field bytes n j field)) here (p 0 (omega arith) field)))
    (signals-pass-tests bytes n (s + 1) after m
    (λ k other e. subst (λ j. HasSignal (column_field bytes n j) other) (next k) (says (suc k) other e))
    (λ k d lt. sound (suc k) d (omega arith))
    (λ k lt field. subst (λ j. IsPrintable (column_field bytes n j field)) (next k) (p (suc k) (omega arith) field)))
